-- A log with each cell's own deadline: where none is told, that of its flow's opening.
use Rattle.std.specs.Prelude.{◌≡◌, cond, List, [], ◌∷◌, map, ℕ, eqb, length}
use Rattle.log_format.specs.declared.Form.{Form}
use Rattle.log_format.specs.declared.Form.TheVariants.{Flow, Own}
use Rattle.log_format.specs.Format.{Opening, Event, Log, GoodLog}

-- the deadline with which a flow was opened; 1 for a flow that was not, whose cells are refused whatever their deadline
unfoldable pub opening_deadline : List Opening → ℕ → ℕ
opening_deadline [] flow = 1
opening_deadline (o ∷ os) flow = cond (eqb o.flow flow) o.number (opening_deadline os flow)

-- the number of an event, given the form and the urgent openings of its log: a cell's is its own deadline
abbrev pub own_number : Form → List Opening → Event → ℕ
own_number Flow urgent e = cond (eqb e.kind 2) (opening_deadline urgent e.flow) e.number
own_number Own urgent e = e.number

abbrev pub own_event : Form → List Opening → Event → Event
own_event form urgent e = record { kind = e.kind; flow = e.flow; number = own_number form urgent e }

-- the log of form Own that says the same
abbrev pub own_log : Log → Log
own_log log =
    record { form = Own; urgent = log.urgent; fair = log.fair; events = map (own_event log.form log.urgent) log.events }

-- It has as many events, it is good where the log is, and a log that tells each cell's own deadline stays as it is.
pub record OwnLog (log : Log) : Type 0 where
  pub many : length (own_log log).events ≡ length log.events
  pub good : GoodLog log → GoodLog (own_log log)
  pub stays : log.form ≡ Own → own_log log ≡ log
