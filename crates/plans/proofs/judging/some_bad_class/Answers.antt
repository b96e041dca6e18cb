-- `some_bad_class` meets its contract: the test over the classes is the library's over the list of them.
use Rattle.std.proofs.Common.{◌∙◌, refl, arith, rules}
use Rattle.std.proofs.lemmas.Iterator.{YieldsList-from_range}
use Rattle.std.proofs.lemmas.Iterator.Search.{any_from_yields_List}
use borrow.Author.Tests.{tests}
use Rattle.plans.specs.Plans.{bad_class}
use Rattle.plans.proofs.Judged.{any_listed}
use Rattle.plans.proofs.judging.some_bad_class.Goals as goal

pub returns : goal.returns
returns c =
    any_from_yields_List (bad_class c.args.plan.now) _ _ c.any.result c.any.ensures.ran (YieldsList-from_range 0 _ c.args.plan.now.count refl (omega arith))
    (λ x b q k. search (rules, tests))
    ∙ any_listed (bad_class c.args.plan.now) 0 c.args.plan.now.count
