-- `log_reading::bodies::scan_openings`. The invariant: what is left of the openings gives what all of them do.
use Rattle.std.proofs.Common.{◌≡◌, ◌+◌, ◌-◌, ◌*◌}
use Rattle.log_reading.proofs.Records.{openings}
use Rattle.log_reading.proofs.bodies.scan_openings.Given as goal

abbrev pub invariant-loop-k : goal.invariant-loop-k
invariant-loop-k l = openings l.most l.least l.log (l.start + 3 * l.k) (l.count - l.k) ≡ openings l.most 0 l.log l.start l.count
