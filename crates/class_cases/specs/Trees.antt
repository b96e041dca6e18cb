-- Descriptions of trees: the largest that keeps the rules, and for each rule some that break it.
use Rattle.std.specs.Prelude.{◌≡◌, true, false, [], ◌∷◌, ◌++◌, replicate}
use Rattle.plans.specs.declared.Plan.{Plan}
use Rattle.plans.specs.Plans.{Fits, broken}
use Rattle.class_cases.specs.Table.{plan_of}

-- a description keeps the rules, and is not found broken; or breaks one, and is
abbrev pub Keeps : Plan → Type 0
Keeps p = Fits p × (broken p ≡ false)

abbrev pub Breaks : Plan → Type 0
Breaks p = (Fits p → ⊥) × (broken p ≡ true)

-- What each description does.
pub record Trees : Type 0 where
  -- thirty-one classes of weight 16, twenty-eight of them at depth 4, and every flow in the last
  pub largest : Keeps (plan_of (0 ∷ 0 ∷ 1 ∷ replicate 28 2) (replicate 31 16) (replicate 16 30))
  -- the root alone: what it hangs from is not read, nor what stands from the count on
  pub smallest : Keeps (record { count = 1; parents = replicate 31 9; weights = 1 ∷ replicate 30 0; classes = replicate 16 0 })
  -- no class, and thirty-two
  pub rootless : Breaks (plan_of [] [] [])
  pub many : Breaks (record { count = 32; parents = replicate 31 0; weights = replicate 31 1; classes = replicate 16 0 })
  -- a class that hangs from itself, and one that hangs from a class of higher number
  pub level : Breaks (plan_of (0 ∷ 1 ∷ []) (1 ∷ 1 ∷ []) [])
  pub rises : Breaks (plan_of (0 ∷ 2 ∷ 0 ∷ []) (1 ∷ 1 ∷ 1 ∷ []) [])
  -- a class at depth 5
  pub deep : Breaks (plan_of (0 ∷ 0 ∷ 1 ∷ 2 ∷ 3 ∷ []) (replicate 5 1) [])
  -- a class of weight 0, one of weight 17, and the root of weight 0
  pub weightless : Breaks (plan_of (0 ∷ 0 ∷ []) (1 ∷ 0 ∷ []) [])
  pub heavy : Breaks (plan_of (0 ∷ 0 ∷ []) (1 ∷ 17 ∷ []) [])
  pub root_weightless : Breaks (plan_of (0 ∷ 0 ∷ []) (0 ∷ 1 ∷ []) [])
  -- a flow in a class that is not there
  pub unnamed : Breaks (plan_of (0 ∷ 0 ∷ []) (1 ∷ 1 ∷ []) (replicate 15 1 ++ 2 ∷ []))
