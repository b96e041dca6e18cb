-- What the reader gives for bytes: the log, or the first fault on the way through them.
use Rattle.std.specs.Prelude.{Bool, true, false, cond, not, ◌||◌, List, [], ◌∷◌, ◌++◌, ℕ, zero, suc, ◌+◌, ◌/◌, ◌%◌, ltb, eqb, length, Option, None, Some, Result, Ok, Err}
use Rattle.log_format.specs.declared.Fault.{Fault}
use Rattle.log_format.specs.declared.Fault.TheVariants.{FirstByte, TableField, BadRecord, EndsEarly, ByteTooMany}
use Rattle.log_format.specs.declared.Form.{Form}
use Rattle.log_format.specs.declared.Contents.{Contents}
use Rattle.log_format.specs.declared.Flaw.{Flaw}
use Rattle.log_format.specs.Format.{Opening, Event, Log, bad_opening, bad_event, most_deadline, most_weight, most_bytes}
use Rattle.log_format.specs.Faults.{byte_at, two_at, four_at, form_at, urgent_length, fair_length, event_length, urgent_start, fair_start, event_start, log_end}

pub data Reading : Type 0 where
  Good : Log → Reading
  Bad : Fault → ℕ → Reading

-- ---- the log that stands in bytes, unjudged
abbrev pub opening_at : List ℕ → ℕ → Opening
opening_at s at = record { flow = byte_at s at; number = two_at s (at + 1) }

unfoldable pub openings_at : List ℕ → ℕ → ℕ → List Opening
openings_at s at zero = []
openings_at s at (suc k) = opening_at s at ∷ openings_at s (at + 3) k

abbrev pub event_at : List ℕ → ℕ → Event
event_at s at = record { kind = byte_at s at; flow = byte_at s (at + 1); number = two_at s (at + 2) }

unfoldable pub events_at : List ℕ → ℕ → ℕ → List Event
events_at s at zero = []
events_at s at (suc k) = event_at s at ∷ events_at s (at + 4) k

abbrev pub log_at : List ℕ → Log
log_at s =
    record {
      form = form_at s;
      urgent = openings_at s urgent_start (urgent_length s / 3);
      fair = openings_at s (fair_start s) (fair_length s / 3);
      events = events_at s (event_start s) (event_length s / 4);
    }

-- ---- the judgement
-- a part of the bytes that is judged once it is whole: where it starts, how long it is, whether it is bad, and what it then is
pub record Part : Type 0 where
  pub start : ℕ
  pub size : ℕ
  pub bad : Bool
  pub fault : Fault

-- the first part that is bad or not whole, of so many bytes
unfoldable pub first_fault : ℕ → List Part → Option (Fault × ℕ)
first_fault n [] = None
first_fault n (p ∷ ps) =
    cond (ltb n (p.start + p.size)) (Some (EndsEarly, n)) (cond p.bad (Some (p.fault, p.start)) (first_fault n ps))

-- whether a first byte tells a form
abbrev pub is_first : ℕ → Bool
is_first first = eqb first 1 || eqb first 2

abbrev pub field : ℕ → Bool → Part
field at bad = record { start = at; size = 4; bad = bad; fault = TableField }

abbrev pub bad_opening_length : ℕ → Bool
bad_opening_length n = not (eqb (n % 3) 0) || ltb 48 n

abbrev pub bad_event_length : ℕ → ℕ → Bool
bad_event_length n end = not (eqb (n % 4) 0) || ltb most_bytes end

-- the first byte
abbrev pub first_part : List ℕ → Part
first_part s = record { start = 0; size = 1; bad = not (is_first (byte_at s 0)); fault = FirstByte }

-- the first byte and the table
abbrev pub table_parts : List ℕ → List Part
table_parts s =
    first_part s
    ∷ field 1 (not (eqb (four_at s 1) urgent_start))
    ∷ field 5 (bad_opening_length (urgent_length s))
    ∷ field 9 (not (eqb (four_at s 9) (fair_start s)))
    ∷ field 13 (bad_opening_length (fair_length s))
    ∷ field 17 (not (eqb (four_at s 17) (event_start s)))
    ∷ field 21 (bad_event_length (event_length s) (log_end s))
    ∷ []

-- so many openings from a place on
unfoldable pub opening_parts : ℕ → ℕ → List ℕ → ℕ → ℕ → List Part
opening_parts most least s at zero = []
opening_parts most least s at (suc k) =
    record { start = at; size = 3; bad = bad_opening most least (byte_at s at) (two_at s (at + 1)); fault = BadRecord }
    ∷ opening_parts most (byte_at s at + 1) s (at + 3) k

-- so many events from a place on
unfoldable pub event_parts : Form → List ℕ → ℕ → ℕ → List Part
event_parts form s at zero = []
event_parts form s at (suc k) =
    record { start = at; size = 4; bad = bad_event form (byte_at s at) (byte_at s (at + 1)) (two_at s (at + 2)); fault = BadRecord }
    ∷ event_parts form s (at + 4) k

-- the three bodies
abbrev pub urgent_body : List ℕ → List Part
urgent_body s = opening_parts most_deadline 0 s urgent_start (urgent_length s / 3)

abbrev pub fair_body : List ℕ → List Part
fair_body s = opening_parts most_weight 0 s (fair_start s) (fair_length s / 3)

abbrev pub event_body : List ℕ → List Part
event_body s = event_parts (form_at s) s (event_start s) (event_length s / 4)

abbrev pub body_parts : List ℕ → List Part
body_parts s = urgent_body s ++ (fair_body s ++ event_body s)

-- past the last part there is nothing
abbrev pub ended : List ℕ → Bool → Reading
ended s true = Bad ByteTooMany (log_end s)
ended s false = Good (log_at s)

abbrev pub after_bodies : List ℕ → Option (Fault × ℕ) → Reading
after_bodies s (Some found) = Bad found.0 found.1
after_bodies s None = ended s (ltb (log_end s) (length s))

-- the bodies are looked at only where the table is good
abbrev pub after_table : List ℕ → Option (Fault × ℕ) → Reading
after_table s (Some found) = Bad found.0 found.1
after_table s None = after_bodies s (first_fault (length s) (body_parts s))

unfoldable pub read_of : List ℕ → Reading
read_of s = after_table s (first_fault (length s) (table_parts s))

-- ---- the reader's answer: a log by its form and its counts
abbrev pub contents_of : Log → Contents
contents_of log = record { form = log.form; urgent = length log.urgent; fair = length log.fair; events = length log.events }

abbrev pub verdict_of : Reading → Result Contents Flaw
verdict_of (Good log) = Ok (contents_of log)
verdict_of (Bad fault place) = Err (record { fault = fault; place = place })
