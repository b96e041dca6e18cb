-- `line` meets its contract: with room for all of it the part is put, and the line feed after it.
use Rattle.std.proofs.Common.{◌≡◌, true, leb, map, ◌+◌, ◌*◌, ◌≤◌, length, arith}
use borrow.Author.Tests.{leb-true}
use Rattle.text.specs.Decimal.{decimal_of}
use Rattle.text.specs.Lines.{room_for}
use Rattle.text.proofs.Placing.{line_put, placed_all}
use Rattle.text.proofs.writing.line.Goals as goal

pub returns : goal.returns
returns c =
    let s = c.args in
    let p = c.part-p.ensures in
    let e : leb (s.at + (length s.word.now + length s.numbers.now * 21 + 1)) (length s.out.now) ≡ true = cc in
    let room : s.at + (room_for s.word.now (length s.numbers.now) + 1) ≤ length s.out.now = leb-true _ _ e in
    placed_all room (omega (arith, p.within)) (line_put s.word.now (map decimal_of s.numbers.now) (omega (arith, room)) (omega (arith, room, p.within)) (p.fits (omega (arith, room))))
