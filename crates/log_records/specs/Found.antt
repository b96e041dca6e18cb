-- A record by its body and index, out of bytes that are said to hold so many records of each body.
use Rattle.std.specs.Prelude.{cond, ◌&&◌, List, ℕ, ◌+◌, ◌*◌, ltb, leb, length, slice_range, Option, None, Some}
use Rattle.log_format.specs.declared.Contents.{Contents}
use Rattle.log_format.specs.Words.{opening_word, event_word}
use Rattle.log_format.specs.Reading.{opening_at, event_at}

-- the n bytes of record k of a body that has so many from a place on, if they are all there
abbrev pub record_in : ℕ → List ℕ → ℕ → ℕ → ℕ → Option (List ℕ)
record_in n s start count k =
    cond (ltb k count && leb (start + n * k + n) (length s)) (Some (slice_range s (start + n * k) (start + n * k + n))) None

-- opening k of a body that has so many from a place on, if its bytes are all there
abbrev pub opening_in : List ℕ → ℕ → ℕ → ℕ → Option ℕ
opening_in s start count k = cond (ltb k count && leb (start + 3 * k + 3) (length s)) (Some (opening_word (opening_at s (start + 3 * k)))) None

-- event k of a body that has so many from a place on, if its bytes are all there
abbrev pub event_in : List ℕ → ℕ → ℕ → ℕ → Option ℕ
event_in s start count k = cond (ltb k count && leb (start + 4 * k + 4) (length s)) (Some (event_word (event_at s (start + 4 * k)))) None

-- ---- each body starts where the one before it ends, by the counts
abbrev pub urgent_found : List ℕ → Contents → ℕ → Option ℕ
urgent_found s c k = opening_in s 25 c.urgent k

abbrev pub fair_found : List ℕ → Contents → ℕ → Option ℕ
fair_found s c k = opening_in s (25 + 3 * c.urgent) c.fair k

abbrev pub event_found : List ℕ → Contents → ℕ → Option ℕ
event_found s c k = event_in s (25 + 3 * c.urgent + 3 * c.fair) c.events k
