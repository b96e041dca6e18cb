-- `log_reading::bodies::scan_events`. The invariant: what is left of the events gives what all of them do.
use Rattle.std.proofs.Common.{◌≡◌, ◌+◌, ◌-◌, ◌*◌}
use Rattle.log_reading.proofs.Records.{events}
use Rattle.log_reading.proofs.bodies.scan_events.Given as goal

abbrev pub invariant-loop-k : goal.invariant-loop-k
invariant-loop-k l = events l.form l.log (l.start + 4 * l.k) (l.count - l.k) ≡ events l.form l.log l.start l.count
