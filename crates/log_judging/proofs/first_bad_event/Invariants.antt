-- `log_judging::first_bad_event`. The invariant: the first bad one of the events still to be judged is that of them all.
use Rattle.std.proofs.Common.{◌≡◌}
use Rattle.log_judging.proofs.Judged.{events_from}
use Rattle.log_judging.proofs.first_bad_event.Given as goal

abbrev pub invariant-loop-i : goal.invariant-loop-i
invariant-loop-i l = events_from l.form l.words l.i ≡ events_from l.form l.words 0
