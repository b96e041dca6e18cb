-- The invariant of `Session::feed`: the station and the line kept make the session to which the bytes taken of the input lead, and what they
-- wrote stands at the start of the output.
use Rattle.std.proofs.Common.{◌≡◌}
use Rattle.text.proofs.Feeding.{Going}
use Rattle.replies.specs.Printing.{longest}
use Rattle.session.specs.Steps.{step_of}
use Rattle.session.proofs.Session.feed.Given as goal

abbrev pub invariant-loop-b : goal.invariant-loop-b
invariant-loop-b l =
    let s = l.initial in
    (l.read ≡ l.b-index) × Going step_of longest (record { station = s.station; line = s.line }) l.input s.out l.out (record { station = l.station; line = l.line }) l.read l.written
