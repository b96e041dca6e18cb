-- `keeps` meets its contract: a t that fails is found, and from a demand that passes on every t passes.
use Rattle.std.proofs.Common.{arith}
use Rattle.admission.proofs.Kept.{passed_on, found_one, found_none}
use Rattle.admission.proofs.keeps.Goals as goal

pub returns-then-t-due : goal.returns-then-t-due
returns-then-t-due c =
    found_one c.loop-passed.passed c.args.horizon c.args.list.now (omega arith) c.loop-passed.invariant.0
    (rw c.demand-due.ensures at c.if-t-due.true)

pub loop-passed-preserved : goal.loop-passed-preserved
loop-passed-preserved c = (
  omega arith,
  passed_on c.loop-passed.passed c.args.horizon c.args.list.now (omega arith) c.loop-passed.invariant.1 _ c.demand-due.ensures c.if-t-due.false,
)

pub returns : goal.returns
returns c = found_none c.loop-passed.passed c.args.horizon c.args.list.now (omega arith) c.loop-passed.invariant.1
