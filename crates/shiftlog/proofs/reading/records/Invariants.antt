-- `records` is safe. The invariant: what is written fits the room.
use Rattle.std.proofs.Common.{◌≡◌, ◌≤◌, length}
use Rattle.shiftlog.proofs.reading.records.Given as goal

abbrev pub invariant-loop-k : goal.invariant-loop-k
invariant-loop-k l = (l.w ≤ 65536) × (length l.out ≡ 65536)
