-- `log_judging::first_bad`: one body after the other.
use Rattle.std.proofs.Common.{◌∙◌, arith}
use Rattle.log_judging.proofs.Judged.{opening_within, event_within, bad_urgent, bad_fair, bad_event_lem, no_bad}
use Rattle.log_judging.proofs.first_bad.Goals as goal

pub returns-in-Some : goal.returns-in-Some
returns-in-Some c = let a = c.args in bad_urgent a.form a.urgent.now a.fair.now a.events.now _ c.in-Some.ensures

pub overflow_add-result : goal.overflow_add-result
overflow_add-result c = omega (arith, opening_within 16 c.args.fair.now _ c.in-Some-first_bad_opening.ensures)

pub returns-in-Some-first_bad_opening : goal.returns-in-Some-first_bad_opening
returns-in-Some-first_bad_opening c =
    let a = c.args in
    bad_fair a.form a.urgent.now a.fair.now a.events.now c.in_default.ensures _ c.in-Some-first_bad_opening.ensures

pub returns-in_err-k : goal.returns-in_err-k
returns-in_err-k c =
    let a = c.args in
    c.from_residual.ensures
    ∙ no_bad a.form a.urgent.now a.fair.now a.events.now c.in_default.ensures c.in_default-first_bad_opening.ensures c.in_err-k.ensures

pub overflow_add-result-3 : goal.overflow_add-result-3
overflow_add-result-3 c = omega (arith, event_within c.args.form c.args.events.now _ c.in_ok-k.ensures)

pub returns : goal.returns
returns c =
    let a = c.args in
    bad_event_lem a.form a.urgent.now a.fair.now a.events.now c.in_default.ensures c.in_default-first_bad_opening.ensures _ c.in_ok-k.ensures
