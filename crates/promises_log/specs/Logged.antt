-- What is promised of the log of a list of calls, and of the calls of a log of either form.
use Rattle.std.specs.Prelude.{◌≡◌, true, false, cond, List, ◌++◌, map, ℕ, ◌<◌, eqb, length, get_or, take}
use Rattle.places.specs.Marks.{open_in}
use Rattle.station.specs.declared.Call.{Call}
use Rattle.station.specs.declared.Call.TheVariants.{OfferCell}
use Rattle.station.specs.declared.Reply.{Reply}
use Rattle.station.specs.declared.Reply.TheVariants.{Urgent, Fair}
use Rattle.station.specs.Calls.{fresh_station, call_of}
use Rattle.urgent.specs.declared.Answer.TheVariants.{Opened}
use Rattle.packets.specs.declared.Answer.TheVariants.{Opened as FairOpened}
use Rattle.promises_urgent.specs.Cells.{deadline_in}
use Rattle.promises.specs.Run.{run, replies}
use Rattle.log_format.specs.declared.Form.TheVariants.{Flow, Own}
use Rattle.log_format.specs.Format.{Opening, Event, Log, GoodLog, GoodOpenings, bad_event, most_deadline}
use Rattle.log_format.specs.Own.{own_event, own_log}
use Rattle.logging.specs.Sorts.{sort_of, happens}
use Rattle.logging.specs.Logging.{log_of}
use Rattle.logging.specs.Replay.{call_in, openings_in, calls_of}
use Rattle.promises_log.specs.Marks.{pick, marks_of, opening_part}

-- every opening of a log is made
abbrev pub opening_replies : Log → List Reply
opening_replies log = map (λ (o : Opening). Urgent Opened) log.urgent ++ map (λ (o : Opening). Fair FairOpened) log.fair

-- L7: the log of a list of calls
pub record Logged : Type 0 where
  -- it tells each cell's own deadline, and its records are well formed
  pub form : (calls : List Call) → (log_of calls).form ≡ Own
  pub good : (calls : List Call) → GoodLog (log_of calls)
  -- its openings bring a fresh station to where it was before the first event
  pub openings : (calls : List Call) → (run (openings_in (log_of calls))).station ≡ (run (opening_part calls)).station
  -- its events are the logged calls, in order
  pub events : (calls : List Call) → map call_in (log_of calls).events ≡ pick (marks_of calls) calls
  -- its openings are all made, and its events are answered, from a fresh station, as the logged calls were
  pub replayed :
      (calls : List Call)
      → replies fresh_station (calls_of (log_of calls)) ≡ opening_replies (log_of calls) ++ pick (marks_of calls) (replies fresh_station calls)
  -- an event is well formed exactly where it is that of a call (L7-sorts has which calls have one)
  pub event_good : (e : Event) → bad_event Own e.kind e.flow e.number ≡ false → sort_of (call_in e) ≡ happens e
  pub event_only : (call : Call) (e : Event) → sort_of call ≡ happens e → (bad_event Own e.kind e.flow e.number ≡ false) × (call_in e ≡ call)
  -- the log of a good log's calls is that log, with each cell's own deadline; a log that tells these already is itself
  pub again : (log : Log) → GoodLog log → log_of (calls_of log) ≡ own_log log
  pub again_own : (log : Log) → log.form ≡ Own → own_log log ≡ log

-- an event as a log of form Flow tells it: a cell without its deadline
abbrev pub flow_event : Event → Event
flow_event e = record { kind = e.kind; flow = e.flow; number = cond (eqb e.kind 2) 0 e.number }

-- the calls of a log before event k
abbrev pub calls_before : Log → ℕ → List Call
calls_before log k = openings_in log ++ map call_in (take k (own_log log).events)

-- what event k of a log, e, means when the log is gone through again: it is gone through as own
pub record EventMeant (log : Log) (k : ℕ) (e own : Event) : Type 0 where
  -- a cell of an open flow is offered with the deadline that the flow has then
  pub cell_open :
      e.kind ≡ 2 → open_in (run (calls_before log k)).cells.marks e.flow ≡ true
      → call_in own ≡ OfferCell e.flow (deadline_in (run (calls_before log k)).cells e.flow)
  -- a cell of any other flow is answered as with whatever deadline
  pub cell_shut :
      e.kind ≡ 2 → open_in (run (calls_before log k)).cells.marks e.flow ≡ false
      → (deadline : ℕ) → call_of (run (calls_before log k)).station (call_in own) ≡ call_of (run (calls_before log k)).station (OfferCell e.flow deadline)
  -- and any other event is itself
  pub other : (e.kind ≡ 2 → ⊥) → own ≡ e

-- L7-flow: a log of form Flow, whose cells are of their flows' own deadlines
pub record FlowLogged : Type 0 where
  -- an event is well formed in it exactly where it is that of a call with a cell's deadline left out
  pub event_good :
      (urgent : List Opening) (e : Event) → GoodOpenings most_deadline 0 urgent → bad_event Flow e.kind e.flow e.number ≡ false
      → (sort_of (call_in (own_event Flow urgent e)) ≡ happens (own_event Flow urgent e)) × (flow_event (own_event Flow urgent e) ≡ e)
  pub event_only : (call : Call) (e : Event) → sort_of call ≡ happens e → bad_event Flow e.kind e.flow (flow_event e).number ≡ false
  -- gone through again, its cells are offered with their flows' own deadlines
  pub meant :
      (log : Log) → GoodLog log → log.form ≡ Flow → (k : ℕ) (d : Event) → k < length log.events
      → EventMeant log k (get_or log.events k d) (get_or (own_log log).events k d)
