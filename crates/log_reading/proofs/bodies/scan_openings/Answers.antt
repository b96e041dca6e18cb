-- `log_reading::bodies::scan_openings`: an opening that is cut, bad or good, and the end.
use Rattle.std.proofs.Common.{sym, ◌∙◌, ◌+◌, ◌*◌, arith}
use Rattle.std.proofs.lemmas.Grind.{common_steps}
use Rattle.log_reading.proofs.Records.{opening_cut, opening_bad, opening_good, openings_done}
use Rattle.log_reading.proofs.bodies.scan_openings.Goals as goal

pub returns-in_default-3 : goal.returns-in_default-3
returns-in_default-3 c =
    let i = c.loop-k in
    opening_cut c.args.most i.least c.args.log.now _ c.args.count i.k c.loop-k-test.true (grind (arith, common_steps)) ∙ i.invariant

pub returns-then-no_opening : goal.returns-then-no_opening
returns-then-no_opening c =
    let i = c.loop-k in
    opening_bad c.args.most i.least c.args.log.now _ c.args.count i.k c.loop-k-test.true (grind (arith, common_steps)) (grind (arith, common_steps)) ∙ i.invariant

pub loop-k-preserved : goal.loop-k-preserved
loop-k-preserved c =
    let i = c.loop-k in
    let on =
    sym (opening_good c.args.most i.least c.args.log.now (c.args.start + 3 * i.k) c.args.count i.k c.loop-k-test.true (grind (arith, common_steps)) (grind (arith, common_steps))) ∙ i.invariant in
    grind (arith, common_steps, on)

pub returns : goal.returns
returns c =
    let i = c.loop-k in
    openings_done c.args.most i.least c.args.log.now _ c.args.count i.k c.loop-k-test.false ∙ i.invariant
