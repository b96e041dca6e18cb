-- One place more is cleared where its cell's last slot is now.
use Rattle.std.proofs.Common.{length, refl, sym, ◌∙◌}
use Rattle.std.proofs.lemmas.List.{set-get_or}
use Rattle.places.proofs.Clear.{clear_starts, clear_gone, clear_kept, clear_ends}
use Rattle.urgent.specs.Lane.{free_cell, last_is}
use Rattle.urgent.proofs.turning.drop_due.Goals as goal
use Rattle.urgent.proofs.turning.drop_due.Goals.{then-is_due, else-is_due}

pub loop-cell-init : goal.loop-cell-init
loop-cell-init c = clear_starts (last_is c.args.now) free_cell free_cell (length c.args.cells.now) c.args.cells.now

pub loop-cell-preserved : goal.loop-cell-preserved
loop-cell-preserved c =
    let due = last_is c.args.now in
    let was = c.args.cells.now in
    let at = c.loop-cell in
    let here = c.loop-cell-test.true in
    elim c.if-is_due.branch [
      | then-is_due w ↦ rw (w.cells-is, w.missed-is) (clear_gone due free_cell free_cell (length was) was at.cells at.missed at.cell-index refl here at.invariant (sym c.is_due.ensures ∙ w.if-is_due.true))
      | else-is_due w ↦ rw (w.cells-is, w.missed-is, set-get_or at.cells at.cell-index free_cell) (clear_kept due free_cell free_cell (length was) was at.cells at.missed at.cell-index refl here at.invariant (sym c.is_due.ensures ∙ w.if-is_due.false))
    ]

pub returns-clause-dropped : goal.returns-clause-dropped
returns-clause-dropped c = (clear_ends (last_is c.args.now) free_cell free_cell (length c.args.cells.now) c.args.cells.now c.loop-cell.cells c.loop-cell.missed c.loop-cell.cell-index c.loop-cell.invariant refl c.loop-cell-test.false).0

pub returns-clause-missed : goal.returns-clause-missed
returns-clause-missed c = (clear_ends (last_is c.args.now) free_cell free_cell (length c.args.cells.now) c.args.cells.now c.loop-cell.cells c.loop-cell.missed c.loop-cell.cell-index c.loop-cell.invariant refl c.loop-cell-test.false).1
