-- L7: the log of a list of calls is good, and replays as the calls went.
use mathlib.Core.Path.{◌≡◌, refl, sym, ◌∙◌, ap, ap₂, subst}
use mathlib.Core.List.{List, ◌++◌, map}
use lib.ListN.{replicate}
use Rattle.station.specs.declared.Station.{Station}
use Rattle.station.specs.declared.Reply.{Reply}
use Rattle.station.specs.declared.Call.{Call}
use Rattle.station.specs.Calls.{fresh_station}
use Rattle.promises.specs.Run.{run, fresh, replies}
use Rattle.log_format.specs.Format.{Event, Log}
use Rattle.log_format.specs.Own.{own_log}
use Rattle.log_format.proofs.Own.{own_log_lem}
use Rattle.logging.specs.Logging.{Opened, nothing_opened, log_with, log_of}
use Rattle.logging.specs.Replay.{open_urgent, open_fair, call_in, openings_in, calls_of}
use Rattle.logging.proofs.Sorts.{event_only, event_good}
use Rattle.logging.proofs.Halves.{events_in, opened_after, log_is}
use Rattle.logging.proofs.Good.{valid, is_good}
use Rattle.promises_log.specs.Marks.{marks_of, opening_part, pick}
use Rattle.promises_log.specs.Logged.{opening_replies, Logged}
use Rattle.promises_log.proofs.Again.{again}
use Rattle.promises_log.proofs.Beyond.{Limited, limited_fresh}
use Rattle.promises_log.proofs.Lanes.{station_with, fresh_is}
use Rattle.promises_log.proofs.Events.{picked, answered, opened_part, station_from, replies_append, station_append, run_station}
use Rattle.promises_log.proofs.Openings.{urgent_made, fair_made}

nothing_limited : Limited (station_with nothing_opened)
nothing_limited = subst Limited (sym fresh_is) limited_fresh

module _ (calls : List Call) where
  abbrev o : Opened
  o = opened_after nothing_opened calls

  abbrev log : Log
  log = log_with o (events_in calls)

  is : log_of calls ≡ log
  is = log_is nothing_opened calls

  -- its events tell each cell's own deadline already
  own_events : (own_log log).events ≡ events_in calls
  own_events = ap (λ (l : Log). l.events) ((own_log_lem log).stays refl)

  -- the openings, made from a fresh station
  openings_replies : replies (station_with nothing_opened) (openings_in log) ≡ opening_replies log
  openings_replies =
      let u = urgent_made (replicate 16 0) o.deadlines (valid calls).sixteen (valid calls).deadlines in
      let f = fair_made o.deadlines o.weights (valid calls).sixteen_weights (valid calls).weights in
      replies_append (station_with nothing_opened) (map open_urgent log.urgent) (map open_fair log.fair)
      ∙ ap₂ (λ (xs ys : List Reply). xs ++ ys) u.0 (ap (λ (s : Station). replies s (map open_fair log.fair)) u.1 ∙ f.0)

  pub openings_station : station_from (station_with nothing_opened) (openings_in log) ≡ station_with o
  openings_station =
      let u = urgent_made (replicate 16 0) o.deadlines (valid calls).sixteen (valid calls).deadlines in
      let f = fair_made o.deadlines o.weights (valid calls).sixteen_weights (valid calls).weights in
      station_append (station_with nothing_opened) (map open_urgent log.urgent) (map open_fair log.fair)
      ∙ ap (λ (s : Station). station_from s (map open_fair log.fair)) u.1
      ∙ f.1

  opened_alike : (run (openings_in log)).station ≡ (run (opening_part calls)).station
  opened_alike =
      run_station fresh (openings_in log)
      ∙ ap (λ (s : Station). station_from s (openings_in log)) (sym fresh_is)
      ∙ openings_station
      ∙ sym (opened_part nothing_opened nothing_limited calls)
      ∙ ap (λ (s : Station). station_from s (opening_part calls)) fresh_is
      ∙ sym (run_station fresh (opening_part calls))

  replayed_alike : replies fresh_station (calls_of log) ≡ opening_replies log ++ pick (marks_of calls) (replies fresh_station calls)
  replayed_alike =
      ap (λ (s : Station). replies s (calls_of log)) (sym fresh_is)
      ∙ ap (λ (es : List Event). replies (station_with nothing_opened) (openings_in log ++ map call_in es)) own_events
      ∙ replies_append (station_with nothing_opened) (openings_in log) (map call_in (events_in calls))
      ∙ ap₂ (λ (xs ys : List Reply). xs ++ ys) openings_replies
      (ap (λ (s : Station). replies s (map call_in (events_in calls))) openings_station
      ∙ answered nothing_opened nothing_limited calls
      ∙ ap (λ (s : Station). pick (marks_of calls) (replies s calls)) fresh_is)

pub is_opened : (calls : List Call) → (run (openings_in (log_of calls))).station ≡ (run (opening_part calls)).station
is_opened calls = ap (λ (l : Log). (run (openings_in l)).station) (is calls) ∙ opened_alike calls

pub is_picked : (calls : List Call) → map call_in (log_of calls).events ≡ pick (marks_of calls) calls
is_picked calls = ap (λ (l : Log). map call_in l.events) (is calls) ∙ picked calls

pub is_replayed : (calls : List Call) → replies fresh_station (calls_of (log_of calls)) ≡ opening_replies (log_of calls) ++ pick (marks_of calls) (replies fresh_station calls)
is_replayed calls =
    subst (λ (l : Log). replies fresh_station (calls_of l) ≡ opening_replies l ++ pick (marks_of calls) (replies fresh_station calls)) (sym (is calls)) (replayed_alike calls)

pub logged : Logged
logged =
    record {
      form = λ calls. ap (λ (l : Log). l.form) (is calls);
      good = is_good;
      openings = is_opened;
      events = is_picked;
      replayed = is_replayed;
      event_good = event_good;
      event_only = event_only;
      again = again;
      again_own = λ log e. (own_log_lem log).stays e;
    }
