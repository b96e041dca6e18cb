-- `least_failing` meets its contract. The invariant: the first of the slots left that fails is the first of all.
use Rattle.std.proofs.Common.{◌≡◌, ◌+◌, ◌-◌}
use Rattle.link.specs.Demand.{fails_from, least_failing}
use Rattle.admission.proofs.least_failing.Given as goal

abbrev pub invariant-loop-t : goal.invariant-loop-t
invariant-loop-t l = fails_from (l.horizon + 1 - l.t) l.t l.list ≡ least_failing l.horizon l.list
