-- The invariant of `spell`: the i digits still to be put, in the bytes as they are, give what all k give.
use Rattle.std.proofs.Common.{◌≡◌, length}
use Rattle.text.specs.Decimal.{spelt_at}
use Rattle.text.proofs.writing.spell.Given as goal

abbrev pub invariant-loop-i : goal.invariant-loop-i
invariant-loop-i l = (length l.out ≡ length l.initial.out) × (spelt_at l.at l.i l.rest l.out ≡ spelt_at l.at l.k l.n l.initial.out)
