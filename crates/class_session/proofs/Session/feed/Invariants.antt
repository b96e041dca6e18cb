-- The invariant of `Session::feed`: the desk and the line kept make the session to which the bytes taken of the input lead, and what they
-- wrote stands at the start of the output.
use Rattle.std.proofs.Common.{◌≡◌}
use Rattle.text.proofs.Feeding.{Going}
use Rattle.class_replies.specs.Printing.{longest}
use Rattle.class_session.specs.Steps.{step_of}
use Rattle.class_session.proofs.Session.feed.Given as goal

abbrev pub invariant-loop-b : goal.invariant-loop-b
invariant-loop-b l =
    let s = l.initial in
    (l.read ≡ l.b-index) × Going step_of longest (record { desk = s.desk; line = s.line }) l.input s.out l.out (record { desk = l.desk; line = l.line }) l.read l.written
