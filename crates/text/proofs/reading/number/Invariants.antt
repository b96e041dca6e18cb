-- The invariant of `number`: the number at `from` is what is read on from the value so far, at the place of the rest's next byte.
use Rattle.std.proofs.Common.{◌≡◌, ◌+◌, drop}
use Rattle.text.specs.Reading.{read_on, read_number}
use Rattle.text.proofs.reading.number.Given as goal

abbrev pub invariant-loop-i : goal.invariant-loop-i
invariant-loop-i l = read_number (drop l.from l.line) ≡ read_on l.value (drop (l.from + 1 + l.i) l.line)
