-- The log of a list of calls in two halves: what was opened before the first event, and the events.
use mathlib.Core.Path.{◌≡◌, refl}
use mathlib.Core.List.{List, [], ◌∷◌}
use Rattle.station.specs.declared.Call.{Call}
use Rattle.log_format.specs.Format.{Event}
use Rattle.logging.specs.Sorts.{Sort, beyond, opens_urgent, opens_fair, closes, happens, sort_of}
use Rattle.logging.specs.Logging.{Opened, with_urgent, with_fair, events_of, log_with, log_by, log_from}

abbrev pub start_by : Sort → List Event → List Event → List Event
start_by beyond rest more = rest
start_by (opens_urgent flow deadline) rest more = rest
start_by (opens_fair flow weight) rest more = rest
start_by closes rest more = []
start_by (happens e) rest more = e ∷ more

unfoldable pub events_in : List Call → List Event
events_in [] = []
events_in (call ∷ calls) = start_by (sort_of call) (events_in calls) (events_of calls)

abbrev pub after_by : Opened → Sort → (Opened → Opened) → Opened
after_by o beyond rest = rest o
after_by o (opens_urgent flow deadline) rest = rest (with_urgent o flow deadline)
after_by o (opens_fair flow weight) rest = rest (with_fair o flow weight)
after_by o closes rest = o
after_by o (happens e) rest = o

unfoldable pub opened_after : Opened → List Call → Opened
opened_after o [] = o
opened_after o (call ∷ calls) = after_by o (sort_of call) (λ (p : Opened). opened_after p calls)

pub log_is : (o : Opened) (calls : List Call) → log_from o calls ≡ log_with (opened_after o calls) (events_in calls)
unfolding log_from opened_after events_in
log_is o [] = refl
log_is o (call ∷ calls) = go (sort_of call) (λ p. log_is p calls)
  where
    go : (x : Sort) → ((p : Opened) → log_from p calls ≡ log_with (opened_after p calls) (events_in calls))
        → log_by o x (λ (p : Opened). log_from p calls) (events_of calls) ≡ log_with (after_by o x (λ (p : Opened). opened_after p calls)) (start_by x (events_in calls) (events_of calls))
    go beyond again = again o
    go (opens_urgent flow deadline) again = again (with_urgent o flow deadline)
    go (opens_fair flow weight) again = again (with_fair o flow weight)
    go closes again = refl
    go (happens e) again = refl
