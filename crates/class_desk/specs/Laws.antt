-- What a desk does over many commands: what is told of a tree is what is set up, and from then on the lane answers.
use Rattle.std.specs.Prelude.{◌≡◌, Bool, true, false, not, cond, ◌&&◌, List, [], ◌∷◌, map, ℕ, ◌<◌, min, eqb, length, get_or, replicate}
use Rattle.units.specs.Limits.{no_such_flow}
use Rattle.units.specs.declared.Refusal.TheVariants.{BadTree}
use Rattle.plans.specs.declared.Plan.{Plan}
use Rattle.plans.specs.Plans.{Fits, parent_in, weight_in, class_in}
use Rattle.classes.specs.declared.Call.{Call}
use Rattle.classes.specs.Lane.{lane_of}
use Rattle.classes.specs.Calls.{answers}
use Rattle.class_desk.specs.declared.Desk.{Desk}
use Rattle.class_desk.specs.declared.Command.{Command}
use Rattle.class_desk.specs.declared.Command.TheVariants.{Class, Hang, SetUp, Ask}
use Rattle.class_desk.specs.declared.Reply.{Reply}
use Rattle.class_desk.specs.declared.Reply.TheVariants.{Noted, Refused, Answered}
use Rattle.class_desk.specs.Desk.{no_plan, fresh_desk, hear_of}

-- Setting up a tree that is described: the lane is that of the description where it keeps the rules; else it is refused, with 27, the lane is
-- as it was, and the description starts anew.
pub record SetsUpOnce (d : Desk) : Type 0 where
  pub kept : Fits d.plan → hear_of d SetUp ≡ record { desk = record { ready = true; plan = d.plan; lane = lane_of d.plan }; reply = Noted }
  pub broke : (Fits d.plan → ⊥) → hear_of d SetUp ≡ record { desk = record { ready = false; plan = no_plan; lane = d.lane }; reply = Refused BadTree }

abbrev pub SetsUpAsTold : Type 0
SetsUpAsTold = (d : Desk) → d.ready ≡ false → SetsUpOnce d

-- the desk after all commands of a list
unfoldable pub desk_after : Desk → List Command → Desk
desk_after d [] = d
desk_after d (command ∷ commands) = desk_after (hear_of d command).desk commands

-- and the replies to them
unfoldable pub replies_to : Desk → List Command → List Reply
replies_to d [] = []
replies_to d (command ∷ commands) = (hear_of d command).reply ∷ replies_to (hear_of d command).desk commands

-- Calls on a desk whose tree is set up: it replies what the lane answers, and it stays set up, with the tree that it has.
pub record Answering (d : Desk) (calls : List Call) : Type 0 where
  pub told : replies_to d (map Ask calls) ≡ map Answered (answers d.lane calls)
  pub ready : (desk_after d (map Ask calls)).ready ≡ true
  pub plan : (desk_after d (map Ask calls)).plan ≡ d.plan

abbrev pub AsksAnswered : Type 0
AsksAnswered = (d : Desk) → d.ready ≡ true → (calls : List Call) → Answering d calls

-- a command that describes: a class, or the class of a flow that there is
abbrev pub describes : Command → Bool
describes (Class parent weight) = true
describes (Hang flow class) = not (no_such_flow flow)
describes SetUp = false
describes (Ask call) = false

-- all commands of a list do
unfoldable pub all_describe : List Command → Bool
all_describe [] = true
all_describe (command ∷ commands) = describes command && all_describe commands

-- the classes that are told, in the order in which they are: what each hangs from, and its weight
unfoldable pub classes_in : List Command → List (ℕ × ℕ)
classes_in [] = []
classes_in (Class parent weight ∷ commands) = (parent, weight) ∷ classes_in commands
classes_in (Hang flow class ∷ commands) = classes_in commands
classes_in (SetUp ∷ commands) = classes_in commands
classes_in (Ask call ∷ commands) = classes_in commands

-- the class that a flow is told last to hang from, and this one where it is told none
unfoldable pub hung_in : ℕ → ℕ → List Command → ℕ
hung_in flow was [] = was
hung_in flow was (Class parent weight ∷ commands) = hung_in flow was commands
hung_in flow was (Hang other class ∷ commands) = hung_in flow (cond (eqb flow other) class was) commands
hung_in flow was (SetUp ∷ commands) = hung_in flow was commands
hung_in flow was (Ask call ∷ commands) = hung_in flow was commands

-- A description that holds what was told: how many classes, up to 32, which is too many; of each of the first 31 what it hangs from and its
-- weight; and the class of each flow, 31, which none is, of a flow that was told none.
pub record Holds (p : Plan) (commands : List Command) : Type 0 where
  pub count : p.count ≡ min 32 (length (classes_in commands))
  pub classes : (class : ℕ) → class < 31 → class < length (classes_in commands)
      → (parent_in p class, weight_in p class) ≡ get_or (classes_in commands) class (0, 0)
  pub flows : (flow : ℕ) → flow < 16 → class_in p flow ≡ hung_in flow 31 commands

-- What is told of a tree to a new desk is all noted, and the desk, which is not set up yet, holds it.
pub record Telling (commands : List Command) : Type 0 where
  pub noted : replies_to fresh_desk commands ≡ replicate (length commands) Noted
  pub waits : (desk_after fresh_desk commands).ready ≡ false
  pub holds : Holds (desk_after fresh_desk commands).plan commands

abbrev pub Described : Type 0
Described = (commands : List Command) → all_describe commands ≡ true → Telling commands
