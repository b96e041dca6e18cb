-- A record as one number, its lowest byte first: so a log is lent to the writer, and its records are handed out.
use Rattle.std.specs.Prelude.{◌≡◌, List, map, ℕ, ◌+◌, ◌*◌, ◌/◌, ◌%◌, ◌<◌}
use Rattle.log_format.specs.declared.Form.{Form}
use Rattle.log_format.specs.Format.{Opening, Event, Log}

-- an opening: flow + 256 * number
abbrev pub opening_of : ℕ → Opening
opening_of w = record { flow = w % 256; number = w / 256 }

abbrev pub opening_word : Opening → ℕ
opening_word o = o.flow + 256 * o.number

-- an event: kind + 256 * flow + 65,536 * number
abbrev pub event_of : ℕ → Event
event_of w = record { kind = w % 256; flow = w / 256 % 256; number = w / 65536 }

abbrev pub event_word : Event → ℕ
event_word e = e.kind + 256 * e.flow + 65536 * e.number

-- the log of a form, and of the openings and events that some numbers are
abbrev pub lent_log : Form → List ℕ → List ℕ → List ℕ → Log
lent_log form urgent fair events =
    record { form = form; urgent = map opening_of urgent; fair = map opening_of fair; events = map event_of events }

-- A record and its number, there and back: so what is read can be written as it was read.
pub record WordsBack : Type 0 where
  pub opening : (w : ℕ) → opening_word (opening_of w) ≡ w
  pub event : (w : ℕ) → event_word (event_of w) ≡ w
  pub opening_back : (o : Opening) → o.flow < 256 → opening_of (opening_word o) ≡ o
  pub event_back : (e : Event) → e.kind < 256 → e.flow < 256 → event_of (event_word e) ≡ e
