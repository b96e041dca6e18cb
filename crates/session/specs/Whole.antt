-- A whole session, bytes to bytes: what a reader of the station's output may expect of its input.
use Rattle.std.specs.Prelude.{cond, List, [], ◌∷◌, ◌++◌, ℕ, leb, length, Option, None, Some}
use Rattle.station.specs.Calls.{fresh_station, call_of}
use Rattle.station.specs.declared.Station.{Station}
use Rattle.station.specs.declared.Call.{Call}
use Rattle.lines.specs.Reading.{read_call}
use Rattle.text.specs.Input.{lines_of}
use Rattle.replies.specs.Printing.{no_command_line, line_of}

-- the call that a line asks for: none where it has more than 32 bytes, or is no text of a call with numbers small enough
abbrev pub heard_as : List ℕ → Option Call
heard_as line = cond (leb (length line) 32) (read_call line) None

-- the station after a line, and the line that it answers
pub record Answered : Type 0 where
  pub station : Station
  pub text : List ℕ

-- a call is answered by its reply; a line that is no command is answered once, and the station is as it was
abbrev pub answer_of : Station → Option Call → Answered
answer_of s None = record { station = s; text = no_command_line }
answer_of s (Some c) = record { station = (call_of s c).station; text = line_of (call_of s c).reply }

-- one line after the other, the station going on from each to the next
unfoldable pub answers_of : Station → List (List ℕ) → List ℕ
answers_of s [] = []
answers_of s (line ∷ lines) = (answer_of s (heard_as line)).text ++ answers_of (answer_of s (heard_as line)).station lines

-- what a fresh station answers to the whole input
abbrev pub session_of : List ℕ → List ℕ
session_of bytes = answers_of fresh_station (lines_of bytes)
