-- What all calls noted from a fresh recorder come to: the log of those calls.
use Rattle.std.specs.Prelude.{◌≡◌, List, [], ◌∷◌, ◌++◌, map, ℕ, min, ◌≤◌, ◌<◌, length, take, drop}
use Rattle.station.specs.declared.Call.{Call}
use Rattle.log_format.specs.declared.Form.TheVariants.{Own}
use Rattle.log_format.specs.Format.{size_of, most_bytes}
use Rattle.log_format.specs.Words.{event_word, lent_log}
use Rattle.recorder.specs.declared.Recorder.{Recorder}
use Rattle.logging.specs.declared.Openings.{Openings}
use Rattle.logging.specs.Listing.{openings_of}
use Rattle.logging.specs.Logging.{listed, log_of}
use Rattle.recorder.specs.Recording.{fresh_recorder, most_counted, note_of, room_noted}

-- the recorder after a list of calls, and the room that was lent to it
unfoldable pub recorded_from : Recorder → List Call → Recorder
recorded_from r [] = r
recorded_from r (call ∷ calls) = recorded_from (note_of r call) calls

unfoldable pub room_from : Recorder → List Call → List ℕ → List ℕ
room_from r [] room = room
room_from r (call ∷ calls) room = room_from (note_of r call) calls (room_noted r call room)

abbrev pub recorded : List Call → Recorder
recorded calls = recorded_from fresh_recorder calls

abbrev pub room_after : List Call → List ℕ → List ℕ
room_after calls room = room_from fresh_recorder calls room

-- the words of some openings
abbrev pub words_in : Openings → List ℕ
words_in o = take o.count o.words

-- A list of calls goes on where a shorter one left off.
pub record NotesOn (xs ys : List Call) : Type 0 where
  pub state : recorded (xs ++ ys) ≡ recorded_from (recorded xs) ys
  pub room : (room : List ℕ) → room_after (xs ++ ys) room ≡ room_from (recorded xs) ys (room_after xs room)

-- The recorder holds the log of the calls. (No room that is lent has as many words as the count can tell.)
pub record Records (calls : List Call) : Type 0 where
  pub urgent : listed 0 (recorded calls).deadlines ≡ (log_of calls).urgent
  pub fair : listed 0 (recorded calls).weights ≡ (log_of calls).fair
  pub count : (recorded calls).events ≡ min (length (log_of calls).events) most_counted
  -- the room has the words of the events as far as it reaches, and is after them as it was
  pub kept :
      (room : List ℕ) → length room < most_counted
      → room_after calls room ≡ take (length room) (map event_word (log_of calls).events) ++ drop (length (log_of calls).events) room
  -- where the events fit the room, the log is what is lent to the writer
  pub lent :
      (room : List ℕ) → length room < most_counted → (recorded calls).events ≤ length room
      → lent_log Own (words_in (openings_of (recorded calls).deadlines)) (words_in (openings_of (recorded calls).weights))
      (take (recorded calls).events (room_after calls room))
      ≡ log_of calls
  -- and where they do not, though it has place for 16,377, the log is too long for any room
  pub too_long : (room : List ℕ) → 16377 ≤ length room → length room < (recorded calls).events → most_bytes < size_of (log_of calls)
