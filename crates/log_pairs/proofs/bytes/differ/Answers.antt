-- Here the logs differ, or they do further on, or past the shorter nothing does.
use Rattle.std.proofs.Common.{arith}
use Rattle.log_pairs.proofs.Differ.{differ_here, differ_on, differ_end}
use Rattle.log_pairs.proofs.bytes.differ.Goals as goal

pub returns-then-a-at : goal.returns-then-a-at
returns-then-a-at c =
    let i = c.loop-at in
    differ_here c.args.a.now c.args.b.now i.at _ i.invariant (omega arith) (omega arith) c.if-a-at.true

pub loop-at-preserved : goal.loop-at-preserved
loop-at-preserved c =
    let i = c.loop-at in
    differ_on c.args.a.now c.args.b.now i.at _ i.invariant (omega arith) (omega arith) c.if-a-at.false

pub returns : goal.returns
returns c =
    let i = c.loop-at in
    differ_end c.args.a.now c.args.b.now i.at _ i.invariant (omega arith)
