-- `Session::feed` meets its contract: each byte is a step of the session.
use Rattle.std.proofs.Common.{◌≡◌, get_or, ◌∙◌, arith, rules}
use Rattle.text.proofs.Feeding.{going_starts, going_on, at_end, at_full}
use Rattle.text.proofs.Placing.{put_nothing}
use Rattle.replies.specs.Printing.{longest}
use Rattle.session.specs.Steps.{step_of}
use Rattle.session.proofs.Steps.{arrived, step_heard, step_other}
use Rattle.session.proofs.Session.feed.Goals as goal
use Rattle.session.proofs.Session.feed.Goals.{then-b-eq10, else-b-eq10}

pub loop-b-init : goal.loop-b-init
loop-b-init c = (search rules, going_starts step_of longest c.args.self c.args.input.now c.args.out.now)

pub loop-b-preserved : goal.loop-b-preserved
loop-b-preserved c =
    let l = c.loop-b in
    let b = get_or c.args.input.now l.b-index 0 in
    let room = c.if-out-written-lt96.false in
    let at : l.read ≡ l.b-index = l.invariant.0 in
    let going = rw at at l.invariant.1 in
    let on = going_on step_of longest going c.loop-b-test.true (omega (arith, room, going.long)) in (
      search rules,
      rw at
          (elim c.if-b-eq10.branch [
            | then-b-eq10 w ↦
                arrived w.out-is w.station-is (w.line-is ∙ w.end.ensures) w.written-is
                (on _ (step_heard (record { station = l.station; line = l.line }) b _ w.if-b-eq10.true w.asked.ensures w.answer-reply.ensures.station w.answer-reply.ensures.text) _ _
                (w.print-written.ensures.fits (omega (arith, room, going.fits, going.long))))
            | else-b-eq10 w ↦
                arrived w.out-is w.station-is (w.line-is ∙ w.keep.ensures) w.written-is
                (on _ (step_other (record { station = l.station; line = l.line }) b w.if-b-eq10.false) _ _ (put_nothing l.out l.written))
          ]),
    )

pub returns-after-loop-b : goal.returns-after-loop-b
returns-after-loop-b c = at_end step_of longest c.loop-b.invariant.1 (omega arith) (omega arith)

pub returns-then-out-written-lt96 : goal.returns-then-out-written-lt96
returns-then-out-written-lt96 c =
    let g = c.loop-b.invariant.1 in
    at_full step_of longest g (omega arith) (omega (arith, c.if-out-written-lt96.true, g.long))
