-- `Reading::feed` meets its contract: one byte more ends its line or goes on with it, until the input is at its end or the output full.
use Rattle.std.proofs.Common.{◌≡◌, get_or, arith, rules}
use Rattle.text.proofs.Feeding.{going_starts, going_on, at_end, at_full}
use Rattle.text.proofs.Placing.{put_nothing}
use Rattle.lists.specs.Printing.{longest}
use Rattle.lists.specs.Steps.{step_of}
use Rattle.lists.proofs.Steps.{step_end, step_on, arrived}
use Rattle.lists.proofs.Reading.feed.Goals as goal
use Rattle.lists.proofs.Reading.feed.Goals.{then-b-eq10, else-b-eq10}

pub loop-b-init : goal.loop-b-init
loop-b-init c = (search rules, going_starts step_of longest c.args.self c.args.input.now c.args.out.now)

pub loop-b-preserved : goal.loop-b-preserved
loop-b-preserved c =
    let l = c.loop-b in
    let b = get_or c.args.input.now l.b-index 0 in
    let room = c.if-out-written-lt96.false in
    let at : l.read ≡ l.b-index = l.invariant.0 in
    let going = rw at at l.invariant.1 in
    let on = going_on step_of longest going c.loop-b-test.true (omega (arith, room, going.long)) in (
      search rules,
      rw at
          (elim c.if-b-eq10.branch [
            | then-b-eq10 w ↦
                arrived w.out-is w.reading-is w.written-is (on _ (step_end l.reading b w.if-b-eq10.true w.judge.ensures w.fresh-reading.ensures) _ _ w.print-written.ensures)
            | else-b-eq10 w ↦
                arrived w.out-is w.reading-is w.written-is (on _ (step_on l.reading b w.if-b-eq10.false w.keep.ensures) _ _ (put_nothing l.out l.written))
          ]),
    )

pub returns-after-loop-b : goal.returns-after-loop-b
returns-after-loop-b c = at_end step_of longest c.loop-b.invariant.1 (omega arith) (omega arith)

pub returns-then-out-written-lt96 : goal.returns-then-out-written-lt96
returns-then-out-written-lt96 c =
    let g = c.loop-b.invariant.1 in
    at_full step_of longest g (omega arith) (omega (arith, c.if-out-written-lt96.true, g.long))
