-- The log of a list of calls, from a fresh station.
use Rattle.std.specs.Prelude.{cond, List, [], ◌∷◌, ℕ, ◌+◌, eqb, get_or, set, replicate}
use Rattle.station.specs.declared.Call.{Call}
use Rattle.log_format.specs.declared.Form.TheVariants.{Own}
use Rattle.log_format.specs.Format.{Opening, Event, Log}
use Rattle.logging.specs.Sorts.{Sort, beyond, opens_urgent, opens_fair, closes, happens, sort_of}

-- ---- the openings
-- the number with which each flow was opened, 0 where it was not
pub record Opened : Type 0 where
  pub deadlines : List ℕ
  pub weights : List ℕ

abbrev pub nothing_opened : Opened
nothing_opened = record { deadlines = replicate 16 0; weights = replicate 16 0 }

-- the first opening of a flow counts: the station refuses any further one
abbrev pub opened_with : List ℕ → ℕ → ℕ → List ℕ
opened_with numbers flow number = cond (eqb (get_or numbers flow 0) 0) (set numbers flow number) numbers

abbrev pub with_urgent : Opened → ℕ → ℕ → Opened
with_urgent o flow deadline = record { deadlines = opened_with o.deadlines flow deadline; weights = o.weights }

abbrev pub with_fair : Opened → ℕ → ℕ → Opened
with_fair o flow weight = record { deadlines = o.deadlines; weights = opened_with o.weights flow weight }

-- the openings by rising flow, in whatever order they were made
unfoldable pub listed : ℕ → List ℕ → List Opening
listed flow [] = []
listed flow (number ∷ numbers) =
    cond (eqb number 0) (listed (flow + 1) numbers) (record { flow = flow; number = number } ∷ listed (flow + 1) numbers)

-- ---- the events
-- once one has come, those of the calls up to a closing or a further opening
abbrev pub events_by : Sort → List Event → List Event
events_by beyond rest = rest
events_by (opens_urgent flow deadline) rest = []
events_by (opens_fair flow weight) rest = []
events_by closes rest = []
events_by (happens e) rest = e ∷ rest

unfoldable pub events_of : List Call → List Event
events_of [] = []
events_of (call ∷ calls) = events_by (sort_of call) (events_of calls)

-- ---- the log, which tells each cell's own deadline
abbrev pub log_with : Opened → List Event → Log
log_with o events = record { form = Own; urgent = listed 0 o.deadlines; fair = listed 0 o.weights; events = events }

-- before the first event openings are gathered, and a closing ends the log there too
abbrev pub log_by : Opened → Sort → (Opened → Log) → List Event → Log
log_by o beyond rest events = rest o
log_by o (opens_urgent flow deadline) rest events = rest (with_urgent o flow deadline)
log_by o (opens_fair flow weight) rest events = rest (with_fair o flow weight)
log_by o closes rest events = log_with o []
log_by o (happens e) rest events = log_with o (e ∷ events)

unfoldable pub log_from : Opened → List Call → Log
log_from o [] = log_with o []
log_from o (call ∷ calls) = log_by o (sort_of call) (λ (p : Opened). log_from p calls) (events_of calls)

abbrev pub log_of : List Call → Log
log_of calls = log_from nothing_opened calls
