-- What a worked case is made of: trees in short, and what a lane's answers tell.
use Rattle.std.specs.Prelude.{◌≡◌, false, List, [], ◌∷◌, ◌++◌, map, ℕ, zero, suc, ◌-◌, length, replicate}
use Rattle.units.specs.Answers.{Told, values}
use Rattle.plans.specs.declared.Plan.{Plan}
use Rattle.plans.specs.Plans.{broken}
use Rattle.classes.specs.declared.Classes.{Classes}
use Rattle.classes.specs.declared.Call.{Call}
use Rattle.classes.specs.declared.Call.TheVariants.{Begin, End}
use Rattle.classes.specs.Lane.{lane_of}
use Rattle.classes.specs.Answers.{told}
use Rattle.promises_classes.specs.Answering.{answers_noted}
use Rattle.classes.specs.Calls.{answers}

-- a list filled up with zeros to n
abbrev pub filled : ℕ → List ℕ → List ℕ
filled n xs = xs ++ replicate (n - length xs) 0

-- a description by what each class hangs from, the weight of each, and the classes of the first flows; the other flows hang from the root
abbrev pub plan_of : List ℕ → List ℕ → List ℕ → Plan
plan_of parents weights classes =
    record {
      count = length weights;
      parents = filled 31 parents;
      weights = filled 31 weights;
      classes = filled 16 classes;
    }

-- so many packets begun and ended, one after the other
unfoldable pub served : ℕ → List Call
served zero = []
served (suc n) = Begin ∷ End ∷ served n

-- what the answers to calls tell, one after the other
abbrev pub told_by : Classes → List Call → List Told
told_by u calls = map told (answers u calls)

-- a call that goes through with nothing to tell, and one that is refused
abbrev pub ok : Told
ok = values []

abbrev pub no : ℕ → Told
no number = record { number = number; values = [] }

-- an accepted packet's number
abbrev pub taken : ℕ → Told
taken number = values (number ∷ [])

-- a packet's flow, number, length and start
abbrev pub begun : ℕ → ℕ → ℕ → ℕ → Told
begun flow number length start = values (flow ∷ number ∷ length ∷ start ∷ [])

-- its flow, number and length
abbrev pub ended : ℕ → ℕ → ℕ → Told
ended flow number length = values (flow ∷ number ∷ length ∷ [])

-- a case: a tree, calls, and what their answers should tell
pub record Case : Type 0 where
  pub plan : Plan
  pub calls : List Call
  pub expected : List Told

-- The tree keeps the rules, its lane answers the calls as it should, and so do the rules alone.
pub record Answered (c : Case) : Type 0 where
  pub kept : broken c.plan ≡ false
  pub answered : told_by (lane_of c.plan) c.calls ≡ c.expected
  pub noted : map told (answers_noted c.plan [] c.calls) ≡ c.expected
