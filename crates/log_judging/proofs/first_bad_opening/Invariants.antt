-- `log_judging::first_bad_opening`. The invariant: the first bad one of the openings still to be judged is that of them all.
use Rattle.std.proofs.Common.{◌≡◌}
use Rattle.log_judging.proofs.Judged.{openings_from}
use Rattle.log_judging.proofs.first_bad_opening.Given as goal

abbrev pub invariant-loop-i : goal.invariant-loop-i
invariant-loop-i l = openings_from l.most l.least l.words l.i ≡ openings_from l.most 0 l.words 0
