-- `log_reading::read`: the table, the bodies, and then the end.
use Rattle.std.proofs.lemmas.Result.{err_from_is_err_and}
use Rattle.log_reading.proofs.Whole.{table_wrong, bodies_wrong, too_many, whole}
use Rattle.log_reading.proofs.read.Goals as goal

pub returns-in_err-layout : goal.returns-in_err-layout
returns-in_err-layout c =
    let p = err_from_is_err_and c.from_residual.result c.from_residual.ensures.1 in
    rw (p.1, p.2) (table_wrong c.args.log.now _ c.in_err-layout.ensures.value)

pub returns-in_err-bodies : goal.returns-in_err-bodies
returns-in_err-bodies c =
    let p = err_from_is_err_and c.from_residual-in_err-bodies.result c.from_residual-in_err-bodies.ensures.1 in
    rw (p.1, p.2) (bodies_wrong c.args.log.now _ c.in_ok-layout.ensures.value _ c.in_err-bodies.ensures)

pub returns-then-end-log : goal.returns-then-end-log
returns-then-end-log c = too_many c.args.log.now _ c.in_ok-layout.ensures.value c.in_ok-bodies.ensures c.if-end-log.true

pub returns : goal.returns
returns c = whole c.args.log.now _ c.in_ok-layout.ensures.value c.in_ok-bodies.ensures c.if-end-log.false
