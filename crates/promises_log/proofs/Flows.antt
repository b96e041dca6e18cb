-- L7-flow: while a log's events are gone through, no flow is opened or closed. So each open flow has the deadline of its opening in the log, and
-- a cell of any other flow is refused, whatever its deadline.
use mathlib.Core.Path.{◌≡◌, refl, sym, ◌∙◌, ap, subst}
use mathlib.Core.Bool.{Bool, true, false, cond, not, ◌||◌, true≢false}
use mathlib.Core.List.{List, [], ◌∷◌, map}
use Prim.Native.Nat.{ℕ, zero, suc, ◌+◌, ◌≤◌, ◌<◌}
use native.Mathlib.Omega.{arith}
use borrow.Author.Tests.{eq-eqb, ne_eqb, eqb-true, ltb-false}
use lib.Dec.{eqb, ltb}
use lib.ListN.{length, get_or, take, get_or-map}
use Rattle.units.specs.Limits.{no_such_flow, bad_deadline, bad_length}
use Rattle.places.specs.Marks.{open_in}
use Rattle.urgent.specs.declared.Flow.{Flow as UrgentFlow}
use Rattle.urgent.specs.declared.Answer.{Answer}
use Rattle.urgent.specs.declared.Answer.TheVariants.{Refused, Opened, Closed, Accepted, Sent, Idle}
use Rattle.urgent.specs.Lane.{flow_at}
use Rattle.station.specs.declared.Station.{Station}
use Rattle.station.specs.declared.Reply.{Reply}
use Rattle.station.specs.declared.Reply.TheVariants.{Urgent, Fair}
use Rattle.station.specs.declared.Call.{Call}
use Rattle.station.specs.declared.Call.TheVariants.{OfferCell, OfferPacket, OpenTurn, LostTurn, Begin, End}
use Rattle.station.specs.Calls.{call_of, by_urgent}
use Rattle.promises_urgent.specs.Cells.{Cells, deadline_in}
use Rattle.promises_urgent.specs.Notes.{note_offer, note_turn}
use Rattle.promises.specs.Run.{Run, note_cells, run, after, run_from, fresh}
use Rattle.promises.proofs.Run.{good_run}
use Rattle.promises.proofs.Promises.{promises}
use Rattle.log_format.specs.declared.Form.{Form}
use Rattle.log_format.specs.declared.Form.TheVariants.{Flow, Own}
use Rattle.log_format.specs.Format.{Opening, Event, Log, GoodLog, GoodOpenings, GoodEvents, bad_event, most_deadline}
use Rattle.log_format.specs.Own.{opening_deadline, own_event, own_log}
use Rattle.log_format.proofs.Own.{own_log_lem, own_at, good_at}
use Rattle.log_format.proofs.Tests.{or_false}
use Rattle.logging.specs.Sorts.{sort_of, happens}
use Rattle.logging.specs.Logging.{Opened as Openings, nothing_opened, listed, log_with}
use Rattle.logging.specs.Replay.{call_in, openings_in, calls_of}
use Rattle.logging.proofs.Sorts.{event_only, event_good}
use Rattle.logging.proofs.Halves.{events_in, opened_after, log_is}
use Rattle.promises_log.specs.Logged.{flow_event, calls_before, EventMeant, FlowLogged}
use Rattle.promises_log.proofs.Lanes.{urgent_with, urgent_flow, station_with, fresh_is}
use Rattle.promises_log.proofs.Events.{station_from, run_station}
use Rattle.promises_log.proofs.Again.{again}
use Rattle.promises_log.proofs.Logged.{openings_station}
use Rattle.promises_log.proofs.UrgentCalls.{offered_closed}

-- ---- an event opens and closes no flow
offer_marks : (h : Cells) (flow deadline : ℕ) (a : Answer) → (note_offer h flow deadline a).marks ≡ h.marks
offer_marks h flow deadline (Refused r) = refl
offer_marks h flow deadline Opened = refl
offer_marks h flow deadline Closed = refl
offer_marks h flow deadline (Accepted number last) = refl
offer_marks h flow deadline (Sent f n m) = refl
offer_marks h flow deadline (Idle m) = refl

turn_marks : (h : Cells) (usable : Bool) (a : Answer) → (note_turn h usable a).marks ≡ h.marks
turn_marks h usable (Refused r) = refl
turn_marks h usable Opened = refl
turn_marks h usable Closed = refl
turn_marks h usable (Accepted number last) = refl
turn_marks h usable (Sent f n m) = refl
turn_marks h usable (Idle m) = refl

event_marks : (h : Cells) (e : Event) (reply : Reply) → (note_cells h (call_in e) reply).marks ≡ h.marks
event_marks h e (Fair a) = refl
event_marks h e (Urgent a) = go (eqb e.kind 0) (eqb e.kind 1) (eqb e.kind 2) (eqb e.kind 3) (eqb e.kind 4)
  where
    go : (usable lost cell packet begin : Bool)
        → (note_cells h (cond usable OpenTurn (cond lost LostTurn (cond cell (OfferCell e.flow e.number) (cond packet (OfferPacket e.flow e.number) (cond begin Begin End))))) (Urgent a)).marks ≡ h.marks
    go true lost cell packet begin = turn_marks h true a
    go false true cell packet begin = turn_marks h false a
    go false false true packet begin = offer_marks h e.flow e.number a
    go false false false true begin = refl
    go false false false false true = refl
    go false false false false false = refl

events_marks : (r : Run) (es : List Event) → (run_from r (map call_in es)).cells.marks ≡ r.cells.marks
unfolding run_from
events_marks r [] = refl
events_marks r (e ∷ es) = events_marks (after r (call_in e)) es ∙ event_marks r.cells e (call_of r.station (call_in e)).reply

-- ---- a flow that was opened is listed with its number
listed_number : (start : ℕ) (ns : List ℕ) (i flow : ℕ) → flow ≡ start + i → eqb (get_or ns i 0) 0 ≡ false → opening_deadline (listed start ns) flow ≡ get_or ns i 0
unfolding listed opening_deadline
listed_number start [] i flow f e = absurd (true≢false e)
listed_number start (n ∷ ns) zero flow f e = rw (e, eq-eqb start flow (omega arith))
listed_number start (n ∷ ns) (suc i) flow f e = go (eqb n 0) (listed_number (start + 1) ns i flow (omega arith) e)
  where
    go : (t : Bool) → opening_deadline (listed (start + 1) ns) flow ≡ get_or ns i 0
        → opening_deadline (cond t (listed (start + 1) ns) (record { flow = start; number = n } ∷ listed (start + 1) ns)) flow ≡ get_or ns i 0
    go true again = again
    go false again = rw (ne_eqb start flow (λ q. omega arith)) again

-- ---- the calls of a good log
module _ (log : Log) (g : GoodLog log) where
  -- what its openings open
  abbrev o : Openings
  o = opened_after nothing_opened (calls_of log)

  made : own_log log ≡ log_with o (events_in (calls_of log))
  made = sym (again log g) ∙ log_is nothing_opened (calls_of log)

  listed_so : log.urgent ≡ listed 0 o.deadlines
  listed_so = ap (λ (l : Log). l.urgent) made

  opened_so : (run (openings_in log)).station ≡ station_with o
  opened_so =
      run_station fresh (openings_in log)
      ∙ ap (λ (s : Station). station_from s (openings_in log)) (sym fresh_is)
      ∙ ap (λ (l : Log). station_from (station_with nothing_opened) (openings_in l)) made
      ∙ openings_station (calls_of log)

  module _ (k flow : ℕ) (l : flow ≤ 15) where
    marks_so : (run (calls_before log k)).cells.marks ≡ (run (openings_in log)).cells.marks
    marks_so =
        ap (λ (r : Run). r.cells.marks) (promises.run_on (openings_in log) (map call_in (take k (own_log log).events)))
        ∙ events_marks (run (openings_in log)) (take k (own_log log).events)

    -- the flow's record after the openings
    record_so : flow_at (run (openings_in log)).station.urgent flow ≡ urgent_flow (get_or o.deadlines flow 0)
    unfolding urgent_with
    record_so = ap (λ (s : Station). flow_at s.urgent flow) opened_so ∙ get_or-map urgent_flow o.deadlines flow 0

    told : open_in (run (openings_in log)).cells.marks flow ≡ true → opening_deadline log.urgent flow ≡ deadline_in (run (openings_in log)).cells flow
    told e =
        let kept = (good_run (openings_in log)).kept in
        let mark : not (eqb (get_or o.deadlines flow 0) 0) ≡ true =
        sym (ap (λ (x : UrgentFlow). x.opened) record_so) ∙ kept.open_flows flow (omega arith) ∙ e in
        ap (λ (os : List Opening). opening_deadline os flow) listed_so
        ∙ listed_number 0 o.deadlines flow flow (omega arith) (opened_number (eqb (get_or o.deadlines flow 0) 0) mark)
        ∙ sym (ap (λ (x : UrgentFlow). x.deadline) record_so)
        ∙ kept.deadlines flow (omega arith)
      where
        opened_number : (t : Bool) → not t ≡ true → t ≡ false
        opened_number true q = absurd (true≢false (sym q))
        opened_number false q = refl

    opened_deadline : open_in (run (calls_before log k)).cells.marks flow ≡ true → opening_deadline log.urgent flow ≡ deadline_in (run (calls_before log k)).cells flow
    opened_deadline e = told (rw marks_so at e) ∙ rw marks_so

    shut_alike : open_in (run (calls_before log k)).cells.marks flow ≡ false → (one other : ℕ)
        → call_of (run (calls_before log k)).station (OfferCell flow one) ≡ call_of (run (calls_before log k)).station (OfferCell flow other)
    unfolding call_of
    shut_alike e one other =
        let u = (run (calls_before log k)).station.urgent in
        let no : not (flow_at u flow).opened ≡ true = rw ((good_run (calls_before log k)).kept.open_flows flow (omega arith), e) in
        ap (by_urgent (run (calls_before log k)).station) (sym (offered_closed u flow one l no) ∙ offered_closed u flow other l no)

-- ---- an event of a good log of form Flow
module _ (log : Log) (g : GoodLog log) (f : log.form ≡ Flow) (k : ℕ) (d : Event) (l : k < length log.events) where
  abbrev e : Event
  e = get_or log.events k d

  abbrev own : Event
  own = get_or (own_log log).events k d

  own_is : own ≡ own_event Flow log.urgent e
  own_is = own_at log k d l ∙ ap (λ (form : Form). own_event form log.urgent e) f

  module _ (two : e.kind ≡ 2) where
    small : e.flow ≤ 15
    small =
        let b = good_at Flow log.events k d (subst (λ (form : Form). GoodEvents form log.events) f g.events) l in
        let c : (no_such_flow e.flow || ltb 0 e.number) ≡ false = rw two at b in
        ltb-false 15 e.flow (or_false (no_such_flow e.flow) (ltb 0 e.number) c).0

    call_so : call_in own ≡ OfferCell e.flow (opening_deadline log.urgent e.flow)
    call_so = ap call_in own_is ∙ rw two

  meant_so : EventMeant log k e own
  meant_so =
      record {
        cell_open = λ two q. call_so two ∙ ap (OfferCell e.flow) (opened_deadline log g k e.flow (small two) q);
        cell_shut = λ two q deadline.
            ap (call_of (run (calls_before log k)).station) (call_so two)
            ∙ shut_alike log g k e.flow (small two) q (opening_deadline log.urgent e.flow) deadline;
        other = λ n. own_is ∙ rw (ne_eqb e.kind 2 n);
      }

-- ---- which events a log of form Flow has
module _ (urgent : List Opening) (e : Event) (g : GoodOpenings most_deadline 0 urgent) (b : bad_event Flow e.kind e.flow e.number ≡ false) where
  own_good : bad_event Own e.kind e.flow (own_event Flow urgent e).number ≡ false
  own_good = ((own_log_lem (record { form = Flow; urgent = urgent; fair = []; events = e ∷ [] })).good (record { urgent = g; fair = tt; events = (b, tt) })).events.0

  told_back : flow_event (own_event Flow urgent e) ≡ e
  told_back = ap (λ (n : ℕ). record { kind = e.kind; flow = e.flow; number = n }) (go (eqb e.kind 2) refl)
    where
      go : (t : Bool) → eqb e.kind 2 ≡ t → cond t 0 (cond t (opening_deadline urgent e.flow) e.number) ≡ e.number
      go true p =
          let two : e.kind ≡ 2 = eqb-true e.kind 2 p in
          let c : (no_such_flow e.flow || ltb 0 e.number) ≡ false = rw two at b in
          omega (arith, ltb-false 0 e.number (or_false (no_such_flow e.flow) (ltb 0 e.number) c).1)
      go false p = refl

flow_only : (call : Call) (e : Event) → sort_of call ≡ happens e → bad_event Flow e.kind e.flow (flow_event e).number ≡ false
flow_only call e q = go (eqb e.kind 3) refl (eqb e.kind 2) refl (event_only call e q).0
  where
    go : (packet : Bool) → eqb e.kind 3 ≡ packet → (cell : Bool) → eqb e.kind 2 ≡ cell
        → cond packet (no_such_flow e.flow || bad_length e.number) (cond cell (no_such_flow e.flow || bad_deadline e.number) (ltb 5 e.kind || ltb 0 e.flow || ltb 0 e.number)) ≡ false
        → cond packet (no_such_flow e.flow || bad_length (cond cell 0 e.number)) (cond cell (no_such_flow e.flow || ltb 0 (cond cell 0 e.number)) (ltb 5 e.kind || ltb 0 e.flow || ltb 0 (cond cell 0 e.number))) ≡ false
    go true p true c b = absurd (omega (arith, eqb-true e.kind 3 p, eqb-true e.kind 2 c))
    go true p false c b = b
    go false p true c b = rw (or_false (no_such_flow e.flow) (bad_deadline e.number) b).0
    go false p false c b = b

pub flow_logged : FlowLogged
flow_logged =
    record {
      event_good = λ urgent e g b. (event_good (own_event Flow urgent e) (own_good urgent e g b), told_back urgent e g b);
      event_only = flow_only;
      meant = λ log g f k d l. meant_so log g f k d l;
    }
