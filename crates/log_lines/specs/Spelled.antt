-- The lines of the log program as the rules spell them: each answer and each record of a log beside its words, letters and numbers.
use Rattle.std.specs.Prelude.{Bool, true, false, [], ◌∷◌, ◌≡◌, ℕ, ◌≤◌, None, Some, Ok, Err}
use Rattle.text.specs.Spelled.{bytes_of, field, spelled}
use Rattle.lines.specs.Grammar.{text_of}
use Rattle.lines.specs.Reading.{read_call}
use Rattle.log_format.specs.declared.Contents.{Contents}
use Rattle.log_format.specs.declared.Flaw.{Flaw}
use Rattle.log_format.specs.declared.Unwritten.TheVariants.{BadRecord, TooLong}
use Rattle.log_format.specs.Format.{first_byte}
use Rattle.log_format.specs.Refusals.{verdict_told, written_told}
use Rattle.log_format.specs.Words.{opening_of, event_of}
use Rattle.log_lines.specs.Answers.{verdict_line, written_line, difference_line, opening_call, event_call, shown_opening, shown_event}

-- Each answer beside its line.
pub record AnswersSpelled : Type 0 where
  -- a good log: its first byte, the openings of each lane, the events, and its length
  pub good :
      (c : Contents) (length : ℕ)
      → verdict_line (Ok c) length
      ≡ spelled (bytes_of "ok" ∷ field (first_byte c.form) ∷ field c.urgent ∷ field c.fair ∷ field c.events ∷ field length ∷ [])
  -- a refusal of the reader: the number that is told of it, and its place
  pub refused :
      (flaw : Flaw) (length : ℕ) → verdict_line (Err flaw) length ≡ spelled (bytes_of "no" ∷ field (verdict_told (Err flaw)).number ∷ field flaw.place ∷ [])
  -- a log written: its length
  pub written : (length : ℕ) → written_line (Ok length) ≡ spelled (bytes_of "ok" ∷ field length ∷ [])
  -- a refusal of the writer: the number that is told of it, and the bad record's position
  pub bad_record : (position : ℕ) → written_line (Err (BadRecord position)) ≡ spelled (bytes_of "no" ∷ field (written_told (Err (BadRecord position))).number ∷ field position ∷ [])
  pub too_long : written_line (Err TooLong) ≡ spelled (bytes_of "no" ∷ field (written_told (Err TooLong)).number ∷ [])
  -- the first place where two logs differ, or that there is none
  pub differ : (place : ℕ) → difference_line (Some place) ≡ spelled (bytes_of "at" ∷ field place ∷ [])
  pub nowhere : difference_line None ≡ spelled (bytes_of "none" ∷ [])

-- Each record beside its line, which is the line of a session; an event goes by its kind, and a kind that no log holds as an end.
pub record RecordsSpelled : Type 0 where
  pub urgent : (w : ℕ) → shown_opening true w ≡ spelled (bytes_of "U" ∷ field (opening_of w).flow ∷ field (opening_of w).number ∷ [])
  pub fair : (w : ℕ) → shown_opening false w ≡ spelled (bytes_of "F" ∷ field (opening_of w).flow ∷ field (opening_of w).number ∷ [])
  pub open_turn : (w : ℕ) → (event_of w).kind ≡ 0 → shown_event w ≡ spelled (bytes_of "t" ∷ [])
  pub lost_turn : (w : ℕ) → (event_of w).kind ≡ 1 → shown_event w ≡ spelled (bytes_of "x" ∷ [])
  pub cell : (w : ℕ) → (event_of w).kind ≡ 2 → shown_event w ≡ spelled (bytes_of "u" ∷ field (event_of w).flow ∷ field (event_of w).number ∷ [])
  pub packet : (w : ℕ) → (event_of w).kind ≡ 3 → shown_event w ≡ spelled (bytes_of "f" ∷ field (event_of w).flow ∷ field (event_of w).number ∷ [])
  pub begin : (w : ℕ) → (event_of w).kind ≡ 4 → shown_event w ≡ spelled (bytes_of "b" ∷ [])
  pub end : (w : ℕ) → 5 ≤ (event_of w).kind → shown_event w ≡ spelled (bytes_of "e" ∷ [])
  -- and a session reads the line as the record's call
  pub opening_read : (urgent : Bool) (w : ℕ) → w ≤ 4294967295 → read_call (text_of (opening_call urgent w)) ≡ Some (opening_call urgent w)
  pub event_read : (w : ℕ) → w ≤ 4294967295 → read_call (text_of (event_call w)) ≡ Some (event_call w)
