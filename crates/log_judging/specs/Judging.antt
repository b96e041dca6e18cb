-- Which records of a log are bad, and which of them is the first.
use Rattle.std.specs.Prelude.{◌≡◌, Bool, true, false, cond, List, [], ◌∷◌, ◌++◌, ℕ, ◌+◌, ◌<◌, length, get_or, Option, None, Some}
use Rattle.log_format.specs.declared.Form.{Form}
use Rattle.log_format.specs.Format.{Opening, Event, Log, GoodLog, bad_opening, bad_event, most_deadline, most_weight}

-- the openings of a body, bad or not: an opening's flow has to be above that of the opening before it
unfoldable pub bad_openings : ℕ → ℕ → List Opening → List Bool
bad_openings most least [] = []
bad_openings most least (o ∷ os) = bad_opening most least o.flow o.number ∷ bad_openings most (o.flow + 1) os

unfoldable pub bad_events : Form → List Event → List Bool
bad_events form [] = []
bad_events form (e ∷ es) = bad_event form e.kind e.flow e.number ∷ bad_events form es

abbrev pub bad_records : Log → List Bool
bad_records log = bad_openings most_deadline 0 log.urgent ++ (bad_openings most_weight 0 log.fair ++ bad_events log.form log.events)

-- the position of the first bad record, if one is bad; and the same of records of which the first has the position i
unfoldable pub first_from : ℕ → List Bool → Option ℕ
first_from i [] = None
first_from i (bad ∷ rest) = cond bad (Some i) (first_from (i + 1) rest)

abbrev pub first_bad : List Bool → Option ℕ
first_bad bads = first_from 0 bads

-- What that position means: the record there is bad and none before it is, and where there is none the log is good.
pub record Judged (log : Log) : Type 0 where
  pub bad :
      (position : ℕ) → first_bad (bad_records log) ≡ Some position
      → (position < length (bad_records log)) × (get_or (bad_records log) position false ≡ true) × ((k : ℕ) → k < position → get_or (bad_records log) k false ≡ false)
  pub is_bad :
      (position : ℕ) → get_or (bad_records log) position false ≡ true → ((k : ℕ) → k < position → get_or (bad_records log) k false ≡ false)
      → (first_bad (bad_records log) ≡ Some position) × (position < length (bad_records log))
  pub good : first_bad (bad_records log) ≡ None → GoodLog log
  pub is_good : GoodLog log → first_bad (bad_records log) ≡ None
