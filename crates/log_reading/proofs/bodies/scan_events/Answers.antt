-- `log_reading::bodies::scan_events`: an event that is cut, bad or good, and the end.
use Rattle.std.proofs.Common.{sym, ◌∙◌, ◌+◌, ◌*◌, arith}
use Rattle.std.proofs.lemmas.Grind.{common_steps}
use Rattle.log_reading.proofs.Records.{event_cut, event_bad, event_good, events_done}
use Rattle.log_reading.proofs.bodies.scan_events.Goals as goal

pub returns-in_default-3 : goal.returns-in_default-3
returns-in_default-3 c =
    let i = c.loop-k in
    event_cut c.args.form c.args.log.now _ c.args.count i.k c.loop-k-test.true (grind (arith, common_steps)) ∙ i.invariant

pub returns-then-no_event : goal.returns-then-no_event
returns-then-no_event c =
    let i = c.loop-k in
    event_bad c.args.form c.args.log.now _ c.args.count i.k c.loop-k-test.true (grind (arith, common_steps)) (grind (arith, common_steps)) ∙ i.invariant

pub loop-k-preserved : goal.loop-k-preserved
loop-k-preserved c =
    let i = c.loop-k in
    let on =
    sym (event_good c.args.form c.args.log.now (c.args.start + 4 * i.k) c.args.count i.k c.loop-k-test.true (grind (arith, common_steps)) (grind (arith, common_steps))) ∙ i.invariant in
    grind (arith, common_steps, on)

pub returns : goal.returns
returns c =
    let i = c.loop-k in
    events_done c.args.form c.args.log.now _ c.args.count i.k c.loop-k-test.false ∙ i.invariant
