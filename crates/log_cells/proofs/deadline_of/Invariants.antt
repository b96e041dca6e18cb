-- `log_cells::deadline_of`. The invariant: the openings left give the deadline that all of them do.
use Rattle.std.proofs.Common.{◌≡◌, ◌+◌, ◌-◌, ◌*◌}
use Rattle.log_format.specs.Own.{opening_deadline}
use Rattle.log_format.specs.Reading.{openings_at}
use Rattle.log_cells.proofs.deadline_of.Given as goal

abbrev pub invariant-loop-k : goal.invariant-loop-k
invariant-loop-k l =
    opening_deadline (openings_at l.log (25 + 3 * l.k) (l.openings - l.k)) l.flow ≡ opening_deadline (openings_at l.log 25 l.openings) l.flow
