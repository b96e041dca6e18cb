-- The invariant of `part`: the word and the first numbers stand at the place, with no more than 21 bytes for each number.
use Rattle.std.proofs.Common.{map, ◌+◌, ◌*◌, ◌≤◌, length, take}
use Rattle.text.specs.Decimal.{decimal_of}
use Rattle.text.specs.Lines.{part_with, Put}
use Rattle.text.proofs.writing.part.Given as goal

abbrev pub invariant-loop-n : goal.invariant-loop-n
invariant-loop-n l =
    (l.at ≤ length l.fn.out)
    × (l.p ≤ l.at + length l.word + 21 * l.n-index)
    × Put (part_with l.word (map decimal_of (take l.n-index l.numbers))) l.fn.out l.at l.out l.p
