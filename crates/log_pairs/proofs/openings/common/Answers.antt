-- `log_pairs::openings::common`: both are read, and their starts compared.
use Rattle.std.proofs.Common.{sym, ◌∙◌, arith}
use Rattle.log_pairs.proofs.Starts.{small, common_start, common_not, reads_as}
use Rattle.log_pairs.proofs.openings.common.Goals as goal

pub overflow_mul-result : goal.overflow_mul-result
overflow_mul-result c =
    omega (arith, small c.args.a.now c.args.b.now _ _ (reads_as c.args.a.now _ _ c.read.ensures c.in_ok-x.ensures.value) (reads_as c.args.b.now _ _ c.read-2.ensures c.in_ok-y.ensures.value))

pub overflow_add-result : goal.overflow_add-result
overflow_add-result c =
    omega (arith, small c.args.a.now c.args.b.now _ _ (reads_as c.args.a.now _ _ c.read.ensures c.in_ok-x.ensures.value) (reads_as c.args.b.now _ _ c.read-2.ensures c.in_ok-y.ensures.value))

pub overflow_mul-result-then-same_start : goal.overflow_mul-result-then-same_start
overflow_mul-result-then-same_start c =
    omega (arith, small c.args.a.now c.args.b.now _ _ (reads_as c.args.a.now _ _ c.read.ensures c.in_ok-x.ensures.value) (reads_as c.args.b.now _ _ c.read-2.ensures c.in_ok-y.ensures.value))

pub overflow_add-result-then-same_start : goal.overflow_add-result-then-same_start
overflow_add-result-then-same_start c =
    omega (arith, small c.args.a.now c.args.b.now _ _ (reads_as c.args.a.now _ _ c.read.ensures c.in_ok-x.ensures.value) (reads_as c.args.b.now _ _ c.read-2.ensures c.in_ok-y.ensures.value))

pub returns-then-same_start : goal.returns-then-same_start
returns-then-same_start c =
    common_start c.args.a.now c.args.b.now _ _ (reads_as c.args.a.now _ _ c.read.ensures c.in_ok-x.ensures.value) (reads_as c.args.b.now _ _ c.read-2.ensures c.in_ok-y.ensures.value) (sym c.same_start.ensures ∙ c.if-same_start.true)

pub returns-else-same_start : goal.returns-else-same_start
returns-else-same_start c =
    common_not c.args.a.now c.args.b.now _ _ (reads_as c.args.a.now _ _ c.read.ensures c.in_ok-x.ensures.value) (reads_as c.args.b.now _ _ c.read-2.ensures c.in_ok-y.ensures.value) (sym c.same_start.ensures ∙ c.if-same_start.false)
