-- The openings here are not the same, or they are, or none is left.
use Rattle.std.proofs.Common.{◌≡◌, ◌+◌, ◌*◌, arith}
use Rattle.log_pairs.proofs.Differ.{other, same_on, same_done}
use Rattle.log_pairs.proofs.openings.same_openings.Goals as goal

pub returns-then-not-same_opening : goal.returns-then-not-same_opening
returns-then-not-same_opening c =
    let i = c.loop-k in
    other c.args.a.now c.args.b.now (c.args.start + 3 * i.k) c.args.count i.k _ i.invariant c.loop-k-test.true _ c.same_opening.ensures c.if-not-same_opening.true

pub loop-k-preserved : goal.loop-k-preserved
loop-k-preserved c =
    let i = c.loop-k in
    let at : c.args.start + 3 * i.k + 3 ≡ c.args.start + 3 * (i.k + 1) = omega arith in
    rw at at (same_on c.args.a.now c.args.b.now (c.args.start + 3 * i.k) c.args.count i.k _ i.invariant c.loop-k-test.true _ c.same_opening.ensures c.if-not-same_opening.false)

pub returns : goal.returns
returns c =
    let i = c.loop-k in
    same_done c.args.a.now c.args.b.now (c.args.start + 3 * i.k) c.args.count i.k _ i.invariant (omega arith)
