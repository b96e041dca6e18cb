-- The log's events, made again after what was opened, are the logged calls, and are answered as those were.
use mathlib.Core.Path.{◌≡◌, refl, sym, ◌∙◌, ap, ap₂, subst}
use mathlib.Core.Bool.{Bool, true, false}
use mathlib.Core.List.{List, [], ◌∷◌, ◌++◌, map}
use Prim.Native.Nat.{ℕ, ◌≤◌}
use Rattle.units.specs.Limits.{bad_weight, bad_deadline}
use Rattle.urgent.specs.declared.Urgent.{Urgent as UrgentLane}
use Rattle.fair.specs.declared.Fair.{Fair as FairLane}
use Rattle.station.specs.declared.Station.{Station}
use Rattle.station.specs.declared.Reply.{Reply}
use Rattle.station.specs.declared.Call.{Call}
use Rattle.station.specs.declared.Call.TheVariants.{OpenUrgent, OpenFair}
use Rattle.station.specs.Calls.{call_of}
use Rattle.promises.specs.Run.{Run, after, run_from, replies}
use Rattle.logging.specs.Sorts.{Sort, beyond, opens_urgent, opens_fair, closes, happens, sort_of}
use Rattle.logging.specs.Logging.{Opened, with_urgent, with_fair, events_by, events_of}
use Rattle.logging.specs.Replay.{call_in}
use Rattle.logging.proofs.Sorts.{View, is_beyond_lem, is_urgent, is_fair, is_closing, is_event_lem, view}
use Rattle.logging.proofs.Halves.{start_by, events_in, after_by, opened_after}
use Rattle.promises_log.specs.Marks.{marked_by, marks_from, pick, before_by, opening_part}
use Rattle.promises_log.proofs.Beyond.{Limited, limited_after, beyond_same}
use Rattle.promises_log.proofs.Lanes.{urgent_with, fair_with, station_with, urgent_open, fair_open}

-- ---- the station after some calls
unfoldable pub station_from : Station → List Call → Station
station_from s [] = s
station_from s (call ∷ calls) = station_from (call_of s call).station calls

pub replies_append : (s : Station) (xs ys : List Call) → replies s (xs ++ ys) ≡ replies s xs ++ replies (station_from s xs) ys
unfolding replies station_from
replies_append s [] ys = refl
replies_append s (x ∷ xs) ys = ap (λ (t : List Reply). (call_of s x).reply ∷ t) (replies_append (call_of s x).station xs ys)

pub station_append : (s : Station) (xs ys : List Call) → station_from s (xs ++ ys) ≡ station_from (station_from s xs) ys
unfolding station_from
station_append s [] ys = refl
station_append s (x ∷ xs) ys = station_append (call_of s x).station xs ys

pub run_station : (r : Run) (calls : List Call) → (run_from r calls).station ≡ station_from r.station calls
unfolding run_from station_from
run_station r [] = refl
run_station r (call ∷ calls) = run_station (after r call) calls

-- ---- the events are the marked calls
picked_on : (calls : List Call) → map call_in (events_of calls) ≡ pick (marks_from true calls) calls
unfolding events_of marks_from pick
picked_on [] = refl
picked_on (call ∷ calls) = go (sort_of call) (view call) (picked_on calls)
  where
    go : (x : Sort) → View call x → map call_in (events_of calls) ≡ pick (marks_from true calls) calls
        → map call_in (events_by x (events_of calls)) ≡ pick (marked_by true x (λ (b : Bool). marks_from b calls)) (call ∷ calls)
    go beyond (is_beyond_lem q) again = again
    go (opens_urgent flow deadline) (is_urgent f d q l b) again = refl
    go (opens_fair flow weight) (is_fair f w q l b) again = refl
    go closes is_closing again = refl
    go (happens e) (is_event_lem d b q) again = ap₂ (λ (c : Call) (cs : List Call). c ∷ cs) q again

pub picked : (calls : List Call) → map call_in (events_in calls) ≡ pick (marks_from false calls) calls
unfolding events_in marks_from pick
picked [] = refl
picked (call ∷ calls) = go (sort_of call) (view call) (picked calls)
  where
    go : (x : Sort) → View call x → map call_in (events_in calls) ≡ pick (marks_from false calls) calls
        → map call_in (start_by x (events_in calls) (events_of calls)) ≡ pick (marked_by false x (λ (b : Bool). marks_from b calls)) (call ∷ calls)
    go beyond (is_beyond_lem q) again = again
    go (opens_urgent flow deadline) (is_urgent f d q l b) again = again
    go (opens_fair flow weight) (is_fair f w q l b) again = again
    go closes is_closing again = refl
    go (happens e) (is_event_lem d b q) again = ap₂ (λ (c : Call) (cs : List Call). c ∷ cs) q (picked_on calls)

-- ---- and are answered as they were
answered_on : (s : Station) → Limited s → (calls : List Call) → replies s (map call_in (events_of calls)) ≡ pick (marks_from true calls) (replies s calls)
unfolding events_of marks_from pick replies
answered_on s g [] = refl
answered_on s g (call ∷ calls) = go (sort_of call) (view call) (λ t h. answered_on t h calls)
  where
    go : (x : Sort) → View call x → ((t : Station) → Limited t → replies t (map call_in (events_of calls)) ≡ pick (marks_from true calls) (replies t calls))
        → replies s (map call_in (events_by x (events_of calls))) ≡ pick (marked_by true x (λ (b : Bool). marks_from b calls)) ((call_of s call).reply ∷ replies (call_of s call).station calls)
    go beyond (is_beyond_lem q) again = rw (beyond_same s g call q) (again s g)
    go (opens_urgent flow deadline) (is_urgent f d q l b) again = refl
    go (opens_fair flow weight) (is_fair f w q l b) again = refl
    go closes is_closing again = refl
    go (happens e) (is_event_lem d b q) again = rw q (ap (λ (t : List Reply). (call_of s call).reply ∷ t) (again (call_of s call).station (limited_after s call g)))

-- an opening within the limits
module _ (o : Opened) where
  made_urgent : (call : Call) (flow deadline : ℕ) → call ≡ OpenUrgent flow deadline → flow ≤ 15 → bad_deadline deadline ≡ false
      → (call_of (station_with o) call).station ≡ station_with (with_urgent o flow deadline)
  unfolding call_of
  made_urgent call flow deadline q l b =
      rw q (ap (λ (u : UrgentLane). record { urgent = u; fair = fair_with o.weights }) (urgent_open o.deadlines flow deadline l b))

  made_fair : (call : Call) (flow weight : ℕ) → call ≡ OpenFair flow weight → flow ≤ 15 → bad_weight weight ≡ false
      → (call_of (station_with o) call).station ≡ station_with (with_fair o flow weight)
  unfolding call_of
  made_fair call flow weight q l b =
      rw q (ap (λ (u : FairLane). record { urgent = urgent_with o.deadlines; fair = u }) (fair_open o.weights flow weight l b))

  -- and the deadlines of what was opened stay within the limits
  limited_urgent : Limited (station_with o) → (call : Call) (flow deadline : ℕ) → call ≡ OpenUrgent flow deadline → flow ≤ 15 → bad_deadline deadline ≡ false
      → Limited (station_with (with_urgent o flow deadline))
  limited_urgent g call flow deadline q l b = subst Limited (made_urgent call flow deadline q l b) (limited_after (station_with o) call g)

  limited_fair : Limited (station_with o) → (call : Call) (flow weight : ℕ) → call ≡ OpenFair flow weight → flow ≤ 15 → bad_weight weight ≡ false
      → Limited (station_with (with_fair o flow weight))
  limited_fair g call flow weight q l b = subst Limited (made_fair call flow weight q l b) (limited_after (station_with o) call g)

pub opened_part : (o : Opened) → Limited (station_with o) → (calls : List Call) → station_from (station_with o) (opening_part calls) ≡ station_with (opened_after o calls)
unfolding station_from opening_part opened_after
opened_part o g [] = refl
opened_part o g (call ∷ calls) = go (sort_of call) (view call) (λ p h. opened_part p h calls)
  where
    go : (x : Sort) → View call x → ((p : Opened) → Limited (station_with p) → station_from (station_with p) (opening_part calls) ≡ station_with (opened_after p calls))
        → station_from (station_with o) (before_by call x (opening_part calls)) ≡ station_with (after_by o x (λ (p : Opened). opened_after p calls))
    go beyond (is_beyond_lem q) again = ap (λ (t : Station). station_from t (opening_part calls)) (beyond_same (station_with o) g call q) ∙ again o g
    go (opens_urgent flow deadline) (is_urgent f d q l b) again =
        ap (λ (t : Station). station_from t (opening_part calls)) (made_urgent o call flow deadline q l b) ∙ again (with_urgent o flow deadline) (limited_urgent o g call flow deadline q l b)
    go (opens_fair flow weight) (is_fair f w q l b) again =
        ap (λ (t : Station). station_from t (opening_part calls)) (made_fair o call flow weight q l b) ∙ again (with_fair o flow weight) (limited_fair o g call flow weight q l b)
    go closes is_closing again = refl
    go (happens e) (is_event_lem d b q) again = refl

pub answered : (o : Opened) → Limited (station_with o) → (calls : List Call)
    → replies (station_with (opened_after o calls)) (map call_in (events_in calls)) ≡ pick (marks_from false calls) (replies (station_with o) calls)
unfolding events_in marks_from pick replies opened_after
answered o g [] = refl
answered o g (call ∷ calls) = go (sort_of call) (view call) (λ p h. answered p h calls)
  where
    go : (x : Sort) → View call x
        → ((p : Opened) → Limited (station_with p) → replies (station_with (opened_after p calls)) (map call_in (events_in calls)) ≡ pick (marks_from false calls) (replies (station_with p) calls))
        → replies (station_with (after_by o x (λ (p : Opened). opened_after p calls))) (map call_in (start_by x (events_in calls) (events_of calls)))
        ≡ pick (marked_by false x (λ (b : Bool). marks_from b calls)) ((call_of (station_with o) call).reply ∷ replies (call_of (station_with o) call).station calls)
    go beyond (is_beyond_lem q) again = again o g ∙ ap (λ (t : Station). pick (marks_from false calls) (replies t calls)) (sym (beyond_same (station_with o) g call q))
    go (opens_urgent flow deadline) (is_urgent f d q l b) again =
        again (with_urgent o flow deadline) (limited_urgent o g call flow deadline q l b) ∙ ap (λ (t : Station). pick (marks_from false calls) (replies t calls)) (sym (made_urgent o call flow deadline q l b))
    go (opens_fair flow weight) (is_fair f w q l b) again =
        again (with_fair o flow weight) (limited_fair o g call flow weight q l b) ∙ ap (λ (t : Station). pick (marks_from false calls) (replies t calls)) (sym (made_fair o call flow weight q l b))
    go closes is_closing again = refl
    go (happens e) (is_event_lem d b q) again =
        ap (λ (c : Call). (call_of (station_with o) c).reply ∷ replies (call_of (station_with o) c).station (map call_in (events_of calls))) q
        ∙ ap (λ (t : List Reply). (call_of (station_with o) call).reply ∷ t) (answered_on (call_of (station_with o) call).station (limited_after (station_with o) call g) calls)
