-- With room for a line, some byte of what is left of the piece is taken at each turn.
use Rattle.std.proofs.Common.{ℕ, ◌<◌, length, arith, length-drop, length-take}
use Rattle.text.proofs.Feeding.{feed_takes}
use Rattle.filters.proofs.feed_input.Goals as goal

pub loop-piece-smaller : goal.loop-piece-smaller
loop-piece-smaller g c =
    let some : 0 < length c.loop-piece.piece.now = grind arith in
    let takes : 0 < c.feed-fed.result.read = feed_takes g.P.Filter.step 96 c.feed-fed.ensures (omega arith) some in
    omega (arith, length-drop {A = ℕ}, length-take {A = ℕ})
