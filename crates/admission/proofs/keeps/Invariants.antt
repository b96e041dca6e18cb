-- `keeps` meets its contract. The invariant: every t from the one last passed to the horizon passes.
-- The measure is the one last passed.
use Rattle.std.proofs.Common.{◌+◌, ◌≤◌}
use Rattle.admission.proofs.Kept.{PassedTo}
use Rattle.admission.proofs.keeps.Given as goal

abbrev pub invariant-loop-passed : goal.invariant-loop-passed
invariant-loop-passed l = (l.passed ≤ l.horizon + 1) × PassedTo l.passed l.horizon l.list

abbrev pub decreases-loop-passed : goal.decreases-loop-passed
decreases-loop-passed l = l.passed
