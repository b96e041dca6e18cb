-- `link::floor_of` meets its contract. A period of 0 has no quotient, and 0 is told. While the part grows: it is the period doubled as often as steps were counted, goes into the slots,
-- is more than nothing, and is no fewer than the steps, so that their count fits. While it is halved again: the slots are so many parts and
-- what is left, less than a part (`Split`); the steps that are to come are those that were counted, less those that were taken.
use Rattle.std.proofs.Common.{◌≡◌, ◌+◌, ◌-◌, ◌≤◌, ◌<◌}
use Rattle.link.proofs.Floors.{Split, twice_over}
use Rattle.link.proofs.floor_of.Given as goal

abbrev pub invariant-loop-part : goal.invariant-loop-part
invariant-loop-part l = (l.part ≡ twice_over l.steps l.period) × (0 < l.part) × (l.part ≤ l.slots) × (l.steps ≤ l.part)

abbrev pub decreases-loop-part : goal.decreases-loop-part
decreases-loop-part l = l.slots + 1 - l.part

abbrev pub invariant-loop : goal.invariant-loop
invariant-loop l = Split l.slots l.period (l.steps - l.counter) l.part l.quotient l.left
