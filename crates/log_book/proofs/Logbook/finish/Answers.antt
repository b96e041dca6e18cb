-- `Logbook::finish` meets its contract: nothing for a line with no byte, and any other is noted as at a line feed.
use Rattle.std.proofs.Common.{sym}
use borrow.Author.Tests.{eqb-false}
use Rattle.log_book.proofs.Steps.{finish_fed}
use Rattle.log_book.proofs.Logbook.finish.Goals as goal

pub returns-clause-state : goal.returns-clause-state
returns-clause-state c =
    let s = c.args.self in
    (finish_fed s c.args.events.now (eqb-false s.line.count 0 (sym c.if-is_empty.ensures)) c.feed.ensures.state c.feed.ensures.room).0

pub returns-clause-room : goal.returns-clause-room
returns-clause-room c =
    let s = c.args.self in
    (finish_fed s c.args.events.now (eqb-false s.line.count 0 (sym c.if-is_empty.ensures)) c.feed.ensures.state c.feed.ensures.room).1
