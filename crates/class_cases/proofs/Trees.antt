-- The descriptions: the tests of the rules compute, and a description is found broken just where it breaks a rule.
use mathlib.Core.Path.{◌≡◌, refl, sym, ◌∙◌}
use mathlib.Core.Bool.{true, false, true≢false}
use Rattle.plans.specs.declared.Plan.{Plan}
use Rattle.plans.specs.Numbered.{any_from}
use Rattle.plans.specs.Plans.{deeper, broken}
use Rattle.plans.proofs.Rules.{kept_rules, rules_kept}
use Rattle.class_cases.specs.Trees.{Keeps, Breaks, Trees}

-- what is not found broken keeps the rules
keeps : (p : Plan) → broken p ≡ false → Keeps p
keeps p b = (kept_rules p b, b)

-- what is found broken does not
breaks : (p : Plan) → broken p ≡ true → Breaks p
breaks p b = (λ fits. true≢false (sym b ∙ rules_kept p fits), b)

pub trees : Trees
unfolding broken deeper any_from
trees =
    record {
      largest = keeps _ refl;
      smallest = keeps _ refl;
      rootless = breaks _ refl;
      many = breaks _ refl;
      level = breaks _ refl;
      rises = breaks _ refl;
      deep = breaks _ refl;
      weightless = breaks _ refl;
      heavy = breaks _ refl;
      root_weightless = breaks _ refl;
      unnamed = breaks _ refl;
    }
