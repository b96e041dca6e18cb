-- `drop_due` meets its contract: the places before the one at hand are cleared of the cells whose last slot is now, and `missed` counts those.
use Rattle.std.proofs.Common.{length}
use Rattle.places.proofs.Clear.{Cleared}
use Rattle.urgent.specs.Lane.{free_cell, last_is}
use Rattle.urgent.proofs.turning.drop_due.Given as goal

abbrev pub invariant-loop-cell : goal.invariant-loop-cell
invariant-loop-cell l = Cleared (last_is l.now) free_cell free_cell (length l.initial.cells) l.initial.cells l.cells l.missed l.cell-index
