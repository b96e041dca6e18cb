-- A tree of classes as it is described, and when it keeps the rules.
use Rattle.std.specs.Prelude.{◌≡◌, Bool, true, false, not, ◌&&◌, ◌||◌, ◌⊎◌, ℕ, zero, suc, ◌≤◌, ◌<◌, ltb, leb, eqb, get_or}
use Rattle.units.specs.Limits.{outside_of, bad_weight}
use Rattle.plans.specs.declared.Plan.{Plan}
use Rattle.plans.specs.Numbered.{any_from}

-- the class that a class hangs from
abbrev pub parent_in : Plan → ℕ → ℕ
parent_in p class = get_or p.parents class 0

-- the weight of a class
abbrev pub weight_in : Plan → ℕ → ℕ
weight_in p class = get_or p.weights class 0

-- the class that a flow hangs from
abbrev pub class_in : Plan → ℕ → ℕ
class_in p flow = get_or p.classes flow 0

-- The root is at depth 1 and any other class one deeper than the class it hangs from: so a class is at most four deep where it is the root,
-- or hangs from it by one, two or three steps.
abbrev pub FourDeep : Plan → ℕ → Type 0
FourDeep p class =
    (class ≡ 0) ⊎ (parent_in p class ≡ 0) ⊎ (parent_in p (parent_in p class) ≡ 0) ⊎ (parent_in p (parent_in p (parent_in p class)) ≡ 0)

-- The rules of a tree. Of a class from the count on, and of what class 0 hangs from, nothing is said.
pub record Fits (p : Plan) : Type 0 where
  -- one class at least, since class 0 is the root, and 31 at most
  pub rooted : 1 ≤ p.count
  pub few : p.count ≤ 31
  -- a class that is not the root hangs from a class of lower number
  pub falls : (class : ℕ) → 0 < class → class < p.count → parent_in p class < class
  pub depth : (class : ℕ) → class < p.count → FourDeep p class
  -- every class, the root too, has a weight from 1 to 16
  pub weights : (class : ℕ) → class < p.count → (1 ≤ weight_in p class) × (weight_in p class ≤ 16)
  -- every flow hangs from a class that there is
  pub named : (flow : ℕ) → flow < 16 → class_in p flow < p.count

-- The same by tests: a class that is not the root hangs from one that is not lower
abbrev pub not_lower : Plan → ℕ → Bool
not_lower p class = ltb 0 class && leb class (parent_in p class)

-- the root is not reached from a class in fewer than n steps
unfoldable pub deeper : ℕ → Plan → ℕ → Bool
deeper zero p class = true
deeper (suc n) p class = not (eqb class 0) && deeper n p (parent_in p class)

-- a class breaks the rules
abbrev pub bad_class : Plan → ℕ → Bool
bad_class p class = not_lower p class || (deeper 4 p class || bad_weight (weight_in p class))

-- a flow is given a class that is not there
abbrev pub bad_flow : Plan → ℕ → Bool
bad_flow p flow = leb p.count (class_in p flow)

-- a description breaks the rules
unfoldable pub broken : Plan → Bool
broken p = outside_of p.count 31 || (any_from (bad_class p) 0 p.count || any_from (bad_flow p) 0 16)

-- The tests find a description broken exactly where it does not keep the rules.
abbrev pub BrokenJust : Type 0
BrokenJust = (p : Plan) → (broken p ≡ false → Fits p) × (Fits p → broken p ≡ false)
