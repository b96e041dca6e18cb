-- The worked session: the definitions compute.
use mathlib.Core.Path.{refl}
use Rattle.log_format.specs.Format.{opening_bytes, event_bytes}
use Rattle.log_format.specs.Own.{opening_deadline}
use Rattle.logging.specs.Logging.{listed, events_of, log_from}
use Rattle.promises_log.specs.Marks.{marks_from}
use Rattle.promises_log.specs.Worked.{Worked}

pub worked : Worked
unfolding opening_deadline marks_from listed events_of log_from opening_bytes event_bytes
worked = record { log = refl; bytes = refl; marks = refl; refused = refl; flow = refl }
