-- The log of a session does not hang on how its input is cut into pieces: it is the log of the calls that the station hears in its lines.
use Rattle.std.specs.Prelude.{◌≡◌, List, [], ◌∷◌, ℕ, ◌<◌, length}
use Rattle.text.specs.Input.{joined}
use Rattle.log_writing.specs.Writing.{written_of}
use Rattle.log_writing.specs.Writing as writer
use Rattle.logging.specs.Logging.{log_of}
use Rattle.recorder.specs.declared.Recorder.{Recorder}
use Rattle.recorder.specs.Recording.{most_counted}
use Rattle.recorder.specs.Laws.{recorded, room_after}
use Rattle.recorded.specs.Recorded.{held_log, wrote_of}
use Rattle.recorded.specs.Laws.{Enough}
use Rattle.log_book.specs.declared.Logbook.{Logbook}
use Rattle.log_book.specs.Whole.{calls_in}
use Rattle.log_book.specs.Steps.{fresh_logbook, fed_of, room_fed, finish_of, room_finished}

-- piece after piece
unfoldable pub pieces_of : Logbook → List (List ℕ) → Logbook
pieces_of s [] = s
pieces_of s (piece ∷ pieces) = pieces_of (fed_of s piece) pieces

unfoldable pub room_pieces : Logbook → List (List ℕ) → List ℕ → List ℕ
room_pieces s [] room = room
room_pieces s (piece ∷ pieces) room = room_pieces (fed_of s piece) pieces (room_fed s piece room)

-- the recorder after any pieces, one after the other, and the end of the input; and the room that was lent for the events
abbrev pub recorder_after : List (List ℕ) → Recorder
recorder_after pieces = (finish_of (pieces_of fresh_logbook pieces)).recorder

abbrev pub events_after : List (List ℕ) → List ℕ → List ℕ
events_after pieces room = room_finished (pieces_of fresh_logbook pieces) (room_pieces fresh_logbook pieces room)

-- The recorder has noted the calls of the whole input, and the room is as those calls leave it.
pub record FedInPieces (pieces : List (List ℕ)) (room : List ℕ) : Type 0 where
  pub recorder : recorder_after pieces ≡ recorded (calls_in (joined pieces))
  pub events : events_after pieces room ≡ room_after (calls_in (joined pieces)) room

-- With enough room for the events, the answer and the writer's room are then those of the log of the calls of the whole input.
pub record LogsSession (pieces : List (List ℕ)) (events room : List ℕ) : Type 0 where
  pub answer :
      wrote_of (recorder_after pieces) (events_after pieces events) (length room)
      ≡ written_of (log_of (calls_in (joined pieces))) (length room)
  pub bytes :
      writer.room_after (wrote_of (recorder_after pieces) (events_after pieces events) (length room))
      (held_log (recorder_after pieces) (events_after pieces events)) room
      ≡ writer.room_after (written_of (log_of (calls_in (joined pieces))) (length room)) (log_of (calls_in (joined pieces))) room

abbrev pub LogsSessions : Type 0
LogsSessions =
    (pieces : List (List ℕ)) (events room : List ℕ) → Enough (calls_in (joined pieces)) events → length events < most_counted
    → LogsSession pieces events room
