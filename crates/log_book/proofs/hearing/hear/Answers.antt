-- `hear` meets its contract: a line asks for a call, or for none.
use Rattle.std.proofs.Common.{sym}
use Rattle.session.specs.Steps.{kept_as}
use Rattle.log_book.proofs.Steps.{noted_none, noted_call}
use Rattle.log_book.proofs.hearing.hear.Goals as goal

pub returns-in-Some-clause-state : goal.returns-in-Some-clause-state
returns-in-Some-clause-state c =
    let a = c.args in
    (noted_call a.recorder (kept_as a.line.now) a.events.now c.in-Some.call (sym c.in-Some.ensures) c.note.ensures.state c.note.ensures.room).0

pub returns-in-Some-clause-room : goal.returns-in-Some-clause-room
returns-in-Some-clause-room c =
    let a = c.args in
    (noted_call a.recorder (kept_as a.line.now) a.events.now c.in-Some.call (sym c.in-Some.ensures) c.note.ensures.state c.note.ensures.room).1

pub returns-in-None-clause-state : goal.returns-in-None-clause-state
returns-in-None-clause-state c = let a = c.args in (noted_none a.recorder (kept_as a.line.now) a.events.now (sym c.in-None.ensures)).0

pub returns-in-None-clause-room : goal.returns-in-None-clause-room
returns-in-None-clause-room c = let a = c.args in (noted_none a.recorder (kept_as a.line.now) a.events.now (sym c.in-None.ensures)).1
