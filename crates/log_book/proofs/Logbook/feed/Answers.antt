-- A line is heard, or has one byte more; and past the last byte the input has led where all of it leads.
use Rattle.std.proofs.Common.{refl, ◌∙◌, get_or, rules}
use Rattle.log_book.proofs.Steps.{together, step_heard, step_kept, going_on, going_ends, arrived}
use Rattle.log_book.proofs.Logbook.feed.Goals as goal
use Rattle.log_book.proofs.Logbook.feed.Goals.{then-ends, else-ends}

pub loop-b-preserved : goal.loop-b-preserved
loop-b-preserved c =
    let l = c.loop-b in
    let b = get_or c.args.input.now l.b-index 0 in
    let now = together l.recorder l.line in
    let on = going_on l.invariant c.loop-b-test.true in
    elim c.if-ends.branch [
      | then-ends w ↦
          arrived w.events-is w.recorder-is (w.line-is ∙ w.end.ensures)
          (on _ _ (step_heard now b l.events w.if-ends.true (w.hear-recorder.ensures.state, w.hear-recorder.ensures.room)) (search rules))
      | else-ends w ↦ arrived w.events-is w.recorder-is (w.line-is ∙ w.keep.ensures) (on _ _ (step_kept now b l.events w.if-ends.false) refl)
    ]

pub returns-clause-state : goal.returns-clause-state
returns-clause-state c = (going_ends c.loop-b.invariant c.loop-b-test.false).0

pub returns-clause-room : goal.returns-clause-room
returns-clause-room c = (going_ends c.loop-b.invariant c.loop-b-test.false).1
