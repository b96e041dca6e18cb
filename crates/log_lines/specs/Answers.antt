-- The line that each answer of the log program is written as, and each record of a log as a session's line.
use Rattle.std.specs.Prelude.{Bool, cond, List, [], ◌∷◌, ◌++◌, ℕ, Option, None, Some, Result, Ok, Err}
use Rattle.text.specs.Decimal.{decimal_of}
use Rattle.text.specs.Lines.{line_feed, no_word, line_with}
use Rattle.station.specs.declared.Call.{Call}
use Rattle.lines.specs.Grammar.{text_of}
use Rattle.log_format.specs.declared.Contents.{Contents}
use Rattle.log_format.specs.declared.Flaw.{Flaw}
use Rattle.log_format.specs.declared.Unwritten.{Unwritten}
use Rattle.log_format.specs.declared.Unwritten.TheVariants.{BadRecord, TooLong}
use Rattle.log_format.specs.Format.{first_byte}
use Rattle.log_format.specs.Refusals.{fault_number}
use Rattle.log_format.specs.Words.{opening_of, event_of}
use Rattle.logging.specs.Replay.{open_urgent, open_fair, call_in}

-- the words ok, at and none
abbrev pub ok_word : List ℕ
ok_word = 111 ∷ 107 ∷ []

abbrev pub at_word : List ℕ
at_word = 97 ∷ 116 ∷ []

abbrev pub none_word : List ℕ
none_word = 110 ∷ 111 ∷ 110 ∷ 101 ∷ []

-- a good log tells its first byte, how many records each body has, and its length in bytes; a bad one the refusal's number and place
abbrev pub verdict_line : Result Contents Flaw → ℕ → List ℕ
verdict_line (Ok c) length =
    line_with ok_word (decimal_of (first_byte c.form) ∷ decimal_of c.urgent ∷ decimal_of c.fair ∷ decimal_of c.events ∷ decimal_of length ∷ [])
verdict_line (Err flaw) length = line_with no_word (decimal_of (fault_number flaw.fault) ∷ decimal_of flaw.place ∷ [])

-- a log that was written tells its length in bytes, one with a bad record the record's position, and one that is too long nothing more
abbrev pub written_line : Result ℕ Unwritten → List ℕ
written_line (Err (BadRecord position)) = line_with no_word (decimal_of 22 ∷ decimal_of position ∷ [])
written_line (Err TooLong) = line_with no_word (decimal_of 26 ∷ [])
written_line (Ok n) = line_with ok_word (decimal_of n ∷ [])

-- the place where two logs first differ, or that there is none
abbrev pub difference_line : Option ℕ → List ℕ
difference_line (Some place) = line_with at_word (decimal_of place ∷ [])
difference_line None = line_with none_word []

-- the call of a record, an event with its cell's own deadline: what a station gets when the log is gone through again
abbrev pub opening_call : Bool → ℕ → Call
opening_call urgent word = cond urgent (open_urgent (opening_of word)) (open_fair (opening_of word))

abbrev pub event_call : ℕ → Call
event_call word = call_in (event_of word)

-- a record is shown as its call, a line of a session
abbrev pub shown : Call → List ℕ
shown call = text_of call ++ line_feed ∷ []

abbrev pub shown_opening : Bool → ℕ → List ℕ
shown_opening urgent word = shown (opening_call urgent word)

abbrev pub shown_event : ℕ → List ℕ
shown_event word = shown (event_call word)

-- room that every line has enough of: a word of two letters, five numbers and a line feed
abbrev pub longest : ℕ
longest = 108
