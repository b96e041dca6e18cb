-- A tree as a desk is told of it, and what the desk then replies.
use Rattle.std.specs.Prelude.{◌≡◌, List, [], ◌∷◌, ◌++◌, map, ℕ, ◌+◌, replicate, length}
use Rattle.plans.specs.declared.Plan.{Plan}
use Rattle.plans.specs.Numbered.{list_from}
use Rattle.plans.specs.Plans.{Fits, parent_in, weight_in, class_in}
use Rattle.classes.specs.declared.Call.{Call}
use Rattle.classes.specs.Lane.{lane_of}
use Rattle.classes.specs.Calls.{answers}
use Rattle.class_desk.specs.declared.Command.{Command}
use Rattle.class_desk.specs.declared.Command.TheVariants.{Class, Hang, SetUp, Ask}
use Rattle.class_desk.specs.declared.Reply.TheVariants.{Noted, Answered}
use Rattle.class_desk.specs.Desk.{fresh_desk}
use Rattle.class_desk.specs.Laws.{replies_to}

-- the commands that tell of a tree: its classes in their order, then the class of each flow
abbrev pub telling_of : Plan → List Command
telling_of p =
    list_from (λ (class : ℕ). Class (parent_in p class) (weight_in p class)) 0 p.count ++ list_from (λ (flow : ℕ). Hang flow (class_in p flow)) 0 16

-- A tree that keeps the rules is told of, set up and called: each command before the calls is noted, and the calls are answered as by the
-- lane of that tree, of which T1 to T5 speak.
abbrev pub SharesAsTold : Type 0
SharesAsTold =
    (p : Plan) → Fits p → (calls : List Call)
    → replies_to fresh_desk ((telling_of p ++ SetUp ∷ []) ++ map Ask calls)
    ≡ replicate (length (telling_of p) + 1) Noted ++ map Answered (answers (lane_of p) calls)
