-- Of bytes that were read as a log, the events by index with their cells' own deadlines are the log's.
use mathlib.Core.Path.{◌≡◌, sym, ◌∙◌, ap, subst}
use mathlib.Core.List.{List}
use Prim.Native.Nat.{ℕ, ◌<◌}
use lib.ListN.{length, get_or}
use Rattle.log_format.specs.declared.Form.{Form}
use Rattle.std.specs.Prelude.{Some}
use Rattle.log_format.specs.Format.{Opening, Event, Log, GoodLog, GoodEvents}
use Rattle.log_format.specs.Words.{event_of, event_word}
use Rattle.log_format.specs.Own.{own_event}
use Rattle.log_format.specs.Reading.{Good, openings_at, log_at, contents_of, read_of, verdict_of}
use Rattle.log_format.proofs.Encoded.{event_bytes_lem}
use Rattle.log_format.proofs.Words.{words_back}
use Rattle.log_format.proofs.Held.{held}
use Rattle.log_format.proofs.Own.{own_at, good_at}
use Rattle.log_records.proofs.Records.{records_found}
use Rattle.log_cells.specs.Own.{own_of}
use Rattle.log_cells.specs.Laws.{OwnFound}

-- an event of a good log is well formed, so that it is had back from its number
back_at : (form : Form) (es : List Event) (k : ℕ) (d : Event) → GoodEvents form es → k < length es → event_of (event_word (get_or es k d)) ≡ get_or es k d
back_at form es k d g l =
    let e = get_or es k d in
    let small = event_bytes_lem form e.kind e.flow e.number (good_at form es k d g l) in
    words_back.event_back e small.0 small.1

pub own_found : (s : List ℕ) (log : Log) → read_of s ≡ Good log → OwnFound s log
own_found s log reads =
    let h = held s (contents_of log) (sym (ap verdict_of reads)) in
    let is : log_at s ≡ log = cc in
    let openings : openings_at s 25 (length log.urgent) ≡ log.urgent = ap (openings_at s 25) h.urgent ∙ ap (λ (x : Log). x.urgent) is in
    let good = subst GoodLog is h.good in
    let records = records_found s log reads in
    let own = own_of log.form (openings_at s 25 (length log.urgent)) in
    record {
      event = λ k d l.
          ap own (records.events k d l)
          ∙ ap (λ (e : Event). Some (event_word (own_event log.form (openings_at s 25 (length log.urgent)) e))) (back_at log.form log.events k d good.events l)
          ∙ ap (λ (os : List Opening). Some (event_word (own_event log.form os (get_or log.events k d)))) openings
          ∙ ap (λ (e : Event). Some (event_word e)) (sym (own_at log k d l));
      past = λ k l. ap own (records.events_past k l);
    }
