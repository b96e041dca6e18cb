-- `log_pairs::openings::same_openings`. The invariant: what is left of the openings is the same where all of them are.
use Rattle.std.proofs.Common.{◌≡◌, ◌+◌, ◌-◌, ◌*◌}
use Rattle.log_pairs.proofs.Differ.{same_left}
use Rattle.log_pairs.proofs.openings.same_openings.Given as goal

abbrev pub invariant-loop-k : goal.invariant-loop-k
invariant-loop-k l = same_left l.a l.b (l.start + 3 * l.k) (l.count - l.k) ≡ same_left l.a l.b l.start l.count
