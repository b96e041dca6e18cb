-- The invariant of `Reading::feed`: the reading is the one to which the bytes taken of the input lead, and what they wrote stands at the
-- start of the output.
use Rattle.std.proofs.Common.{◌≡◌}
use Rattle.text.proofs.Feeding.{Going}
use Rattle.lists.specs.Printing.{longest}
use Rattle.lists.specs.Steps.{step_of}
use Rattle.lists.proofs.Reading.feed.Given as goal

abbrev pub invariant-loop-b : goal.invariant-loop-b
invariant-loop-b l = (l.read ≡ l.b-index) × Going step_of longest l.initial.reading l.input l.initial.out l.out l.reading l.read l.written
