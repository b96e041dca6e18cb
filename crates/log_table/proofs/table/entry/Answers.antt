-- `log_table::table::entry`: what is found in the offset, and then in the length.
use Rattle.std.proofs.Common.{◌∙◌}
use Rattle.std.proofs.lemmas.Result.{err_from_is_err_and}
use Rattle.log_table.proofs.Laws.{offset_wrong, offset_right}
use Rattle.log_table.proofs.table.entry.Goals as goal

pub returns-in_err-field : goal.returns-in_err-field
returns-in_err-field c =
    let p = err_from_is_err_and c.from_residual.result c.from_residual.ensures.1 in
    rw (p.1, p.2) (offset_wrong c.args.log.now c.args.at c.args.right c.args.bad_length _ c.number.ensures.value _ c.in_err-field.ensures)

pub returns : goal.returns
returns c =
    c.field-2.ensures ∙ offset_right c.args.log.now c.args.at c.args.right c.args.bad_length _ c.number.ensures.value c.in_ok-field.ensures
