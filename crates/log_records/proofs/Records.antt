-- Of bytes that were read as a log, the records by index are the log's.
use mathlib.Core.Path.{◌≡◌, sym, ◌∙◌, ap, subst}
use mathlib.Core.List.{List}
use Prim.Native.Nat.{ℕ, ◌+◌, ◌*◌, ◌/◌, ◌≤◌, ◌<◌}
use native.Mathlib.Omega.{arith}
use lib.ListN.{length, get_or}
use Rattle.log_format.specs.declared.Contents.{Contents}
use Rattle.std.specs.Prelude.{Some}
use Rattle.log_format.specs.Format.{Opening, Event, Log}
use Rattle.log_format.specs.Faults.{urgent_length, fair_length, event_length, fair_start, event_start}
use Rattle.log_format.specs.Words.{opening_word, event_word}
use Rattle.log_format.specs.Reading.{Reading, Good, Bad, openings_at, events_at, log_at, contents_of, read_of, verdict_of}
use Rattle.log_format.proofs.ByIndex.{by_index}
use Rattle.log_format.proofs.Held.{Held, held}
use Rattle.log_records.specs.Found.{opening_in, event_in, urgent_found, fair_found, event_found}
use Rattle.log_records.specs.Laws.{RecordsFound}
use Rattle.log_records.proofs.Found.{opening_past, opening_there, event_past, event_there}

-- a body within the bytes, by index
module _ (s : List ℕ) (start count k : ℕ) where
  opening_is : (d : Opening) → k < count → start + 3 * count ≤ length s → opening_in s start count k ≡ Some (opening_word (get_or (openings_at s start count) k d))
  opening_is d l m =
      opening_there s start count k l (omega arith)
      ∙ ap (λ (o : Opening). Some (opening_word o)) (sym ((by_index s start count k).opening d l))

  event_is : (d : Event) → k < count → start + 4 * count ≤ length s → event_in s start count k ≡ Some (event_word (get_or (events_at s start count) k d))
  event_is d l m =
      event_there s start count k l (omega arith)
      ∙ ap (λ (e : Event). Some (event_word e)) (sym ((by_index s start count k).event d l))

module _ (s : List ℕ) (reads : read_of s ≡ Good (log_at s)) where
  abbrev c : Contents
  c = contents_of (log_at s)

  abbrev H : Held s c
  H = held s c (sym (ap verdict_of reads))

  -- the bodies start by the counts where they start by the table
  fair_start_lem : 25 + 3 * c.urgent ≡ fair_start s
  fair_start_lem = omega (arith, H.urgent_long)

  event_start_lem : 25 + 3 * c.urgent + 3 * c.fair ≡ event_start s
  event_start_lem = omega (arith, H.urgent_long, H.fair_long)

  urgent : (k : ℕ) (d : Opening) → k < c.urgent → urgent_found s c k ≡ Some (opening_word (get_or (log_at s).urgent k d))
  urgent k d l =
      ap (λ (n : ℕ). opening_in s 25 n k) H.urgent
      ∙ opening_is s 25 (urgent_length s / 3) k d (omega (arith, l, H.urgent)) (omega (arith, H.urgent, H.urgent_long, H.all))

  fair : (k : ℕ) (d : Opening) → k < c.fair → fair_found s c k ≡ Some (opening_word (get_or (log_at s).fair k d))
  fair k d l =
      ap (λ (x : ℕ). opening_in s x c.fair k) fair_start_lem
      ∙ ap (λ (n : ℕ). opening_in s (fair_start s) n k) H.fair
      ∙ opening_is s (fair_start s) (fair_length s / 3) k d (omega (arith, l, H.fair)) (omega (arith, H.fair, H.fair_long, H.all))

  events : (k : ℕ) (d : Event) → k < c.events → event_found s c k ≡ Some (event_word (get_or (log_at s).events k d))
  events k d l =
      ap (λ (x : ℕ). event_in s x c.events k) event_start_lem
      ∙ ap (λ (n : ℕ). event_in s (event_start s) n k) H.events
      ∙ event_is s (event_start s) (event_length s / 4) k d (omega (arith, l, H.events)) (omega (arith, H.events, H.events_long, H.all))

  standing : RecordsFound s (log_at s)
  standing =
      record {
        urgent = urgent;
        urgent_past = λ k l. opening_past s 25 c.urgent k l;
        fair = fair;
        fair_past = λ k l. opening_past s (25 + 3 * c.urgent) c.fair k l;
        events = events;
        events_past = λ k l. event_past s (25 + 3 * c.urgent + 3 * c.fair) c.events k l;
      }

-- the log of a reading that is good
abbrev log_in : Reading → Log → Log
log_in (Good log) d = log
log_in (Bad fault place) d = d

pub records_found : (s : List ℕ) (log : Log) → read_of s ≡ Good log → RecordsFound s log
records_found s log e =
    let h = held s (contents_of log) (sym (ap verdict_of e)) in
    let is : log_at s ≡ log = ap (λ (r : Reading). log_in r log) (sym h.reads ∙ e) in
    subst (RecordsFound s) is (standing s h.reads)
