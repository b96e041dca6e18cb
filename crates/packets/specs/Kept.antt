-- What a call on a queue gives: what it leaves, and the answer.
use Rattle.std.specs.Prelude.{List}
use Rattle.tags.specs.declared.Flow.{Flow}
use Rattle.packets.specs.declared.Queue.{Queue}
use Rattle.packets.specs.declared.Answer.{Answer}

-- the queue after a call, and the answer
pub record Kept : Type 0 where
  pub queue : Queue
  pub answer : Answer

-- the flows after a call that changes nothing else, and the answer
pub record Flows : Type 0 where
  pub flows : List Flow
  pub answer : Answer
