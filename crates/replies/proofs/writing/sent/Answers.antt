-- `sent` meets its contract: a part and a line, one after the other.
use Rattle.std.proofs.Common.{append_assoc, arith}
use Rattle.text.proofs.Placing.{put_then}
use Rattle.replies.proofs.writing.sent.Goals as goal

pub returns : goal.returns
returns c =
    let p = c.part-p.ensures in
    let l = c.line.ensures in
    (simp append_assoc at (put_then (omega arith) (p.fits (omega arith)) (l.fits (omega (arith, p.within, p.long)))), omega (arith, l.within, p.within))
