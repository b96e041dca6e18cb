-- A list of calls on a tree that is described: what the lane has come to, and what the calls and answers alone tell.
use Rattle.std.specs.Prelude.{List, [], ◌∷◌}
use Rattle.plans.specs.declared.Plan.{Plan}
use Rattle.classes.specs.declared.Classes.{Classes}
use Rattle.classes.specs.declared.Call.{Call}
use Rattle.classes.specs.declared.Answer.{Answer}
use Rattle.classes.specs.Lane.{lane_of}
use Rattle.classes.specs.Calls.{call_of}
use Rattle.promises_classes.specs.Events.{History, note}

-- the lane, and the history
pub record Run : Type 0 where
  pub lane : Classes
  pub history : History

-- one call more: the lane answers it by the very definition that its code is proved to meet
abbrev pub after : Run → Call → Run
after r call = record { lane = (call_of r.lane call).lane; history = note r.history call (call_of r.lane call).answer }

unfoldable pub run_from : Run → List Call → Run
run_from r [] = r
run_from r (call ∷ calls) = run_from (after r call) calls

-- after all calls of a list
abbrev pub run : Plan → List Call → Run
run p calls = run_from (record { lane = lane_of p; history = [] }) calls

-- the answer to one call more
abbrev pub answer_to : Plan → List Call → Call → Answer
answer_to p calls call = (call_of (run p calls).lane call).answer
