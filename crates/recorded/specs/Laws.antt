-- What is written after any calls: the log of those calls.
use Rattle.std.specs.Prelude.{◌≡◌, List, ◌⊎◌, ℕ, ◌≤◌, ◌<◌, length, Result, Ok, Err}
use Rattle.station.specs.declared.Call.{Call}
use Rattle.log_format.specs.declared.Unwritten.{Unwritten}
use Rattle.log_format.specs.declared.Unwritten.TheVariants.{TooLong}
use Rattle.log_format.specs.Format.{size_of, most_bytes}
use Rattle.log_writing.specs.Writing.{written_of, room_after}
use Rattle.logging.specs.Logging.{log_of}
use Rattle.recorder.specs.Recording.{most_counted}
use Rattle.recorder.specs.Laws.{recorded}
use Rattle.recorder.specs.Laws as recorder
use Rattle.recorded.specs.Recorded.{held_log, wrote_of}

-- the answer after some calls, whose events went into a room lent for them, where so many bytes are lent to the writer
abbrev pub answer_after : List Call → List ℕ → ℕ → Result ℕ Unwritten
answer_after calls events bytes = wrote_of (recorded calls) (recorder.room_after calls events) bytes

-- the room lent for the events has a word for each of them, or for the 16,377 that a log can have
abbrev pub Enough : List Call → List ℕ → Type 0
Enough calls events = (length (log_of calls).events ≤ length events) ⊎ (16377 ≤ length events)

-- What is answered and what stands in the writer's room is what the log of the calls gives: 26 exactly where it is above 65,536 bytes or
-- the room, and else its length.
pub record WritesLog (calls : List Call) (events room : List ℕ) : Type 0 where
  pub answer : answer_after calls events (length room) ≡ written_of (log_of calls) (length room)
  pub bytes :
      room_after (answer_after calls events (length room)) (held_log (recorded calls) (recorder.room_after calls events)) room
      ≡ room_after (written_of (log_of calls) (length room)) (log_of calls) room
  pub long : (size_of (log_of calls) ≤ most_bytes → size_of (log_of calls) ≤ length room → ⊥) → answer_after calls events (length room) ≡ Err TooLong
  pub fits :
      size_of (log_of calls) ≤ most_bytes → size_of (log_of calls) ≤ length room
      → answer_after calls events (length room) ≡ Ok (size_of (log_of calls))

abbrev pub WritesLogs : Type 0
WritesLogs =
    (calls : List Call) (events room : List ℕ) → length events < most_counted
    → (Enough calls events → WritesLog calls events room)
    -- and where events found no word, the answer is 26
    × (length events < length (log_of calls).events → answer_after calls events (length room) ≡ Err TooLong)
