-- `log_writing::write`: a law for each answer, and the bodies one after the other.
use Rattle.std.proofs.Common.{arith, length}
use Rattle.log_writing.proofs.Pieces.{openings_size, events_size, log_put}
use Rattle.log_writing.proofs.Wrote.{room_after_lem, answers_bad, few_urgent, few_fair, answers_long, answers_length}
use Rattle.log_writing.proofs.write.Goals as goal

pub returns-in-Some-clause-value : goal.returns-in-Some-clause-value
returns-in-Some-clause-value c =
    let a = c.args in
    answers_bad a.form a.urgent.now a.fair.now a.events.now (length a.room.now) _ c.in-Some.ensures

pub overflow_add-size-3 : goal.overflow_add-size-3
overflow_add-size-3 c =
    let a = c.args in
    omega (arith, few_urgent a.form a.urgent.now a.fair.now a.events.now c.in_default.ensures, few_fair a.form a.urgent.now a.fair.now a.events.now c.in_default.ensures)

pub returns-then-size-gt-MOST_BYTES-clause-value :
    goal.returns-then-size-gt-MOST_BYTES-clause-value
returns-then-size-gt-MOST_BYTES-clause-value c =
    let a = c.args in
    answers_long a.form a.urgent.now a.fair.now a.events.now c.in_default.ensures (length a.room.now) (λ l m. omega arith)

pub returns-then-room-size-clause-value : goal.returns-then-room-size-clause-value
returns-then-room-size-clause-value c =
    let a = c.args in
    answers_long a.form a.urgent.now a.fair.now a.events.now c.in_default.ensures (length a.room.now) (λ l m. omega arith)

pub put_words-requires : goal.put_words-requires
put_words-requires c = (omega (arith, openings_size c.args.urgent.now), omega arith)

pub put_words-requires-2 : goal.put_words-requires-2
put_words-requires-2 c = (omega (arith, openings_size c.args.fair.now), omega arith)

pub put_words-requires-3 : goal.put_words-requires-3
put_words-requires-3 c = (omega (arith, events_size c.args.events.now), omega arith)

pub returns-clause-value : goal.returns-clause-value
returns-clause-value c =
    let a = c.args in
    answers_length a.form a.urgent.now a.fair.now a.events.now c.in_default.ensures (length a.room.now) (omega arith) (omega arith)

pub returns-clause-room_holds : goal.returns-clause-room_holds
returns-clause-room_holds c =
    let a = c.args in
    room_after_lem a.form a.urgent.now a.fair.now a.events.now a.room.now _
    (log_put a.form a.urgent.now a.fair.now a.events.now a.room.now c.put_start.new.room c.put_words.new.room c.put_words-2.new.room c.put_words-3.new.room (omega arith) (omega arith) (omega arith) c.put_start.ensures c.put_words.ensures c.put_words-2.ensures c.put_words-3.ensures)
