-- What each command of a desk gives, over every state.
use Rattle.std.specs.Prelude.{true, false, cond, ℕ, ◌+◌, ltb, set, replicate, Result, Ok, Err}
use Rattle.units.specs.Limits.{no_such_flow}
use Rattle.units.specs.declared.Refusal.{Refusal}
use Rattle.units.specs.declared.Refusal.TheVariants.{NoSuchFlow, NoCommand}
use Rattle.plans.specs.declared.Plan.{Plan}
use Rattle.classes.specs.declared.Classes.{Classes}
use Rattle.classes.specs.declared.Done.{Done}
use Rattle.classes.specs.Calls.{call_of}
use Rattle.planting.specs.SetUp.{fresh_lane, set_up_of}
use Rattle.class_desk.specs.declared.Desk.{Desk}
use Rattle.class_desk.specs.declared.Command.{Command}
use Rattle.class_desk.specs.declared.Command.TheVariants.{Class, Hang, SetUp, Ask}
use Rattle.class_desk.specs.declared.Reply.TheVariants.{Noted, Refused, Answered}
use Rattle.class_desk.specs.declared.Heard.{Heard}

-- nothing is described: no class, and every flow hangs from 31, which none is, until it is given one
abbrev pub no_plan : Plan
no_plan = record { count = 0; parents = replicate 31 0; weights = replicate 31 0; classes = replicate 16 31 }

-- before any command
abbrev pub fresh_desk : Desk
fresh_desk = record { ready = false; plan = no_plan; lane = fresh_lane }

-- one class more; of more than 31 it is only kept that they are more
abbrev pub class_more : Plan → ℕ → ℕ → Plan
class_more p parent weight =
    cond (ltb p.count 31)
    (record {
      count = p.count + 1;
      parents = set p.parents p.count parent;
      weights = set p.weights p.count weight;
      classes = p.classes;
    })
    (record { count = 32; parents = p.parents; weights = p.weights; classes = p.classes })

-- a flow hangs from a class
abbrev pub hung : Plan → ℕ → ℕ → Plan
hung p flow class = record { count = p.count; parents = p.parents; weights = p.weights; classes = set p.classes flow class }

-- a desk that is still told of a tree
abbrev pub describing : Desk → Plan → Desk
describing d p = record { ready = false; plan = p; lane = d.lane }

-- more of the tree is described
abbrev pub noted : Desk → Plan → Heard
noted d p = record { desk = describing d p; reply = Noted }

-- a refused command leaves the desk as it was
abbrev pub refused : Desk → Refusal → Heard
refused d r = record { desk = d; reply = Refused r }

-- setting up: where it is refused the description starts anew, else the desk is ready
abbrev pub settled : Desk → Classes → Result (Unit {0}) Refusal → Heard
settled d lane (Ok done) = record { desk = record { ready = true; plan = d.plan; lane = lane }; reply = Noted }
settled d lane (Err r) = record { desk = describing d no_plan; reply = Refused r }

-- a call of the lane
abbrev pub asked : Desk → Done → Heard
asked d done = record { desk = record { ready = d.ready; plan = d.plan; lane = done.lane }; reply = Answered done.answer }

-- what a command gives before the tree is set up, and after
abbrev pub hear_first : Desk → Command → Heard
hear_first d (Class parent weight) = noted d (class_more d.plan parent weight)
hear_first d (Hang flow class) = cond (no_such_flow flow) (refused d NoSuchFlow) (noted d (hung d.plan flow class))
hear_first d SetUp = settled d (set_up_of d.lane d.plan).lane (set_up_of d.lane d.plan).answer
hear_first d (Ask call) = refused d NoCommand

abbrev pub hear_then : Desk → Command → Heard
hear_then d (Class parent weight) = refused d NoCommand
hear_then d (Hang flow class) = refused d NoCommand
hear_then d SetUp = refused d NoCommand
hear_then d (Ask call) = asked d (call_of d.lane call)

-- what a command gives
unfoldable pub hear_of : Desk → Command → Heard
hear_of d command = cond d.ready (hear_then d command) (hear_first d command)
