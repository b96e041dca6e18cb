-- `Logbook::feed` meets its contract. The invariant: what is left of the input leads from the logbook and the room as they are now to
-- where the whole input leads from those that it was given.
use Rattle.log_book.proofs.Steps.{together, Going}
use Rattle.log_book.proofs.Logbook.feed.Given as goal

abbrev pub invariant-loop-b : goal.invariant-loop-b
invariant-loop-b l =
    Going (together l.initial.recorder l.initial.line) l.input l.initial.events l.events (together l.recorder l.line) l.b-index
