-- `log_reading::bodies::bodies`: what is found in each body, one after the other.
use Rattle.std.proofs.Common.{◌∙◌}
use Rattle.std.proofs.lemmas.Result.{err_from_is_err_and}
use Rattle.log_reading.proofs.Records.{urgent_wrong, others}
use Rattle.log_reading.proofs.bodies.bodies.Goals as goal

pub returns-in_err-scan_openings : goal.returns-in_err-scan_openings
returns-in_err-scan_openings c =
    let l = c.args.layout in
    let p = err_from_is_err_and c.from_residual.result c.from_residual.ensures.1 in
    rw (p.1, p.2) (urgent_wrong l.form c.args.log.now l.urgent l.fair l.events _ c.in_err-scan_openings.ensures)

pub returns : goal.returns
returns c =
    let l = c.args.layout in
    c.and.ensures
    ∙ others l.form c.args.log.now l.urgent l.fair l.events c.in_ok-scan_openings.ensures _ _ c.scan_openings-in_fair.ensures c.scan_events-in_events.ensures
