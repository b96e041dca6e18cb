-- `log_judging::first_bad_opening`: an opening that is bad, one that is good, and the end.
use Rattle.std.proofs.Common.{◌∙◌, arith}
use Rattle.log_judging.proofs.Judged.{opening_bad, opening_good, openings_end}
use Rattle.log_judging.proofs.first_bad_opening.Goals as goal

pub returns-then-no_opening : goal.returns-then-no_opening
returns-then-no_opening c =
    let i = c.loop-i in
    opening_bad c.args.most i.least c.args.words.now i.i (omega arith) (cc) ∙ i.invariant

pub loop-i-preserved : goal.loop-i-preserved
loop-i-preserved c =
    let i = c.loop-i in
    let on = opening_good c.args.most i.least c.args.words.now i.i (omega arith) (cc) ∙ i.invariant in
    rw c.from-least.ensures on

pub returns : goal.returns
returns c =
    let i = c.loop-i in
    openings_end c.args.most i.least c.args.words.now i.i (omega arith) ∙ i.invariant
