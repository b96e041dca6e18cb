-- The opening here is the flow's, one of those after it is, or none is.
use Rattle.std.proofs.Common.{sym, ◌∙◌, ◌≡◌, ◌+◌, ◌*◌, ◌-◌, arith}
use Rattle.std.proofs.lemmas.Grind.{common_steps}
use Rattle.log_format.specs.Faults.{two_at}
use Rattle.log_cells.proofs.Own.{opened_here, opened_later, not_opened}
use Rattle.log_cells.proofs.deadline_of.Goals as goal

pub returns-then-log-place : goal.returns-then-log-place
returns-then-log-place c =
    let i = c.loop-k in
    let number : c.from_le_bytes.result ≡ two_at c.args.log.now (25 + 3 * i.k + 1) = grind (arith, common_steps) in
    number
    ∙ sym (opened_here c.args.log.now c.args.flow (25 + 3 * i.k) (c.args.openings - i.k) (omega arith) c.if-log-place.true)
    ∙ i.invariant

pub loop-k-preserved : goal.loop-k-preserved
loop-k-preserved c =
    let i = c.loop-k in
    let place : 25 + 3 * i.k + 3 ≡ 25 + 3 * (i.k + 1) = omega arith in
    rw place at (opened_later c.args.log.now c.args.flow (25 + 3 * i.k) (c.args.openings - i.k) (c.args.openings - (i.k + 1)) (omega arith) c.if-log-place.false)
    ∙ i.invariant

pub returns : goal.returns
returns c =
    let i = c.loop-k in
    sym (not_opened c.args.log.now c.args.flow (25 + 3 * i.k) (c.args.openings - i.k) (omega arith)) ∙ i.invariant
