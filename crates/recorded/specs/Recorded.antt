-- What a recorder and the room lent for its events hold, as a log; and what is answered for it.
use Rattle.std.specs.Prelude.{cond, List, ℕ, ltb, length, take, Result, Err}
use Rattle.log_format.specs.declared.Form.TheVariants.{Own}
use Rattle.log_format.specs.declared.Unwritten.{Unwritten}
use Rattle.log_format.specs.declared.Unwritten.TheVariants.{TooLong}
use Rattle.log_format.specs.Format.{Log}
use Rattle.log_format.specs.Words.{lent_log}
use Rattle.log_writing.specs.Writing.{written_of}
use Rattle.logging.specs.Listing.{openings_of}
use Rattle.recorder.specs.declared.Recorder.{Recorder}
use Rattle.recorder.specs.Laws.{words_in}

-- the openings listed, and as many events as were counted
abbrev pub held_log : Recorder → List ℕ → Log
held_log r events = lent_log Own (words_in (openings_of r.deadlines)) (words_in (openings_of r.weights)) (take r.events events)

-- the answer: 26 where more events were counted than have a word, and else the writer's for that log
abbrev pub wrote_of : Recorder → List ℕ → ℕ → Result ℕ Unwritten
wrote_of r events room = cond (ltb (length events) r.events) (Err TooLong) (written_of (held_log r events) room)
