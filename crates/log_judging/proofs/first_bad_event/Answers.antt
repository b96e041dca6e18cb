-- `log_judging::first_bad_event`: an event that is bad, one that is good, and the end.
use Rattle.std.proofs.Common.{◌∙◌, arith}
use Rattle.log_judging.proofs.Judged.{event_bad, event_good, events_end}
use Rattle.log_judging.proofs.first_bad_event.Goals as goal

pub returns-then-no_event : goal.returns-then-no_event
returns-then-no_event c =
    let i = c.loop-i in
    event_bad c.args.form c.args.words.now i.i (omega arith) (cc) ∙ i.invariant

pub loop-i-preserved : goal.loop-i-preserved
loop-i-preserved c =
    let i = c.loop-i in
    event_good c.args.form c.args.words.now i.i (omega arith) (cc) ∙ i.invariant

pub returns : goal.returns
returns c =
    let i = c.loop-i in
    events_end c.args.form c.args.words.now i.i (omega arith) ∙ i.invariant
