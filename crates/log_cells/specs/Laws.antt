-- What the events with their cells' own deadlines are, of bytes that were read as a log.
use Rattle.std.specs.Prelude.{◌≡◌, List, ℕ, ◌≤◌, ◌<◌, length, get_or, None, Some}
use Rattle.log_format.specs.Format.{Event, Log}
use Rattle.log_format.specs.Words.{event_word}
use Rattle.log_format.specs.Own.{own_log}
use Rattle.log_format.specs.Reading.{contents_of}
use Rattle.log_cells.specs.Own.{own_found}

-- With the form and the counts of the log, each event is that of the log with each cell's own deadline, and past the last there is none.
pub record OwnFound (s : List ℕ) (log : Log) : Type 0 where
  pub event : (k : ℕ) (d : Event) → k < length log.events → own_found s (contents_of log) k ≡ Some (event_word (get_or (own_log log).events k d))
  pub past : (k : ℕ) → length log.events ≤ k → own_found s (contents_of log) k ≡ None
