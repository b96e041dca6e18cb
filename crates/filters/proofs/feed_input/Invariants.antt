-- `feed_input` is safe and ends. The invariants: out keeps its length, which has room for a line, so that each turn of the inner loop takes
-- some byte of the piece. Its measure is the bytes left.
use Rattle.std.proofs.Common.{◌≡◌, ◌≤◌, length}
use Rattle.filters.proofs.feed_input.Given as goal

abbrev pub invariant-loop-piece : goal.invariant-loop-piece
invariant-loop-piece g l = (96 ≤ length l.out) × (length l.out ≡ length l.initial.out)

abbrev pub decreases-loop-piece : goal.decreases-loop-piece
decreases-loop-piece g l = length l.piece
