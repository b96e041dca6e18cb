-- `greatest` meets its contract: the library's greatest is the rules'.
use Rattle.std.proofs.Common.{ap, ◌∙◌, rules}
use Rattle.std.specs.Option.{unwrap_or}
use Rattle.std.proofs.lemmas.Iterator.{YieldsList-from_slice, YieldsList-from_map}
use Rattle.std.proofs.lemmas.Iterator.Consumers.{reduce_from_yields_List}
use Rattle.std.proofs.lemmas.List.Folds.{max_of_map}
use borrow.Author.Tests.{tests}
use Rattle.link.specs.declared.Declaration.{Declaration}
use Rattle.admission.proofs.Steps.{greatest_folded}
use Rattle.admission.proofs.greatest.Goals as goal

pub returns : goal.returns
returns c =
    let ds = c.args.list.now in
    c.unwrap_or.ensures
    ∙ ap (λ o. unwrap_or o 0)
    (reduce_from_yields_List _ c.map.result _ c.max.ensures.ran
    (YieldsList-from_map _ (λ (d : Declaration). d.deadline) (YieldsList-from_slice ds cc) c.map.ensures.closure (λ x b q k. search (rules, tests))))
    ∙ max_of_map (λ (d : Declaration). d.deadline) ds
    ∙ greatest_folded ds
