-- What the records by index are, of bytes that were read as a log.
use Rattle.std.specs.Prelude.{◌≡◌, List, ℕ, ◌≤◌, ◌<◌, length, get_or, None, Some}
use Rattle.log_format.specs.Format.{Opening, Event, Log}
use Rattle.log_format.specs.Words.{opening_word, event_word}
use Rattle.log_format.specs.Reading.{contents_of}
use Rattle.log_records.specs.Found.{urgent_found, fair_found, event_found}

-- With the counts of the log, each record is the log's own, and past the last of a body there is none.
pub record RecordsFound (s : List ℕ) (log : Log) : Type 0 where
  pub urgent : (k : ℕ) (d : Opening) → k < length log.urgent → urgent_found s (contents_of log) k ≡ Some (opening_word (get_or log.urgent k d))
  pub urgent_past : (k : ℕ) → length log.urgent ≤ k → urgent_found s (contents_of log) k ≡ None
  pub fair : (k : ℕ) (d : Opening) → k < length log.fair → fair_found s (contents_of log) k ≡ Some (opening_word (get_or log.fair k d))
  pub fair_past : (k : ℕ) → length log.fair ≤ k → fair_found s (contents_of log) k ≡ None
  pub events : (k : ℕ) (d : Event) → k < length log.events → event_found s (contents_of log) k ≡ Some (event_word (get_or log.events k d))
  pub events_past : (k : ℕ) → length log.events ≤ k → event_found s (contents_of log) k ≡ None
