-- `part` meets its contract: one number more after those before it.
use Rattle.std.proofs.Common.{arith}
use Rattle.text.proofs.Placing.{part_next}
use Rattle.text.proofs.writing.part.Goals as goal

pub loop-n-preserved : goal.loop-n-preserved
loop-n-preserved c =
    let l = c.loop-n in
    let f = c.field-p.ensures in
    (l.invariant.0, omega (arith, f.1), part_next c.args.word.now c.args.numbers.now l.n-index l.invariant.0 (omega arith) l.invariant.2 f.0)
