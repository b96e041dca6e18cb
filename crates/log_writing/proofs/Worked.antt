-- The worked answers: the definitions compute.
use mathlib.Core.Path.{refl}
use Rattle.log_format.specs.Format.{opening_bytes, event_bytes}
use Rattle.log_judging.specs.Judging.{bad_openings, bad_events, first_from}
use Rattle.log_writing.specs.Writing.{written_of}
use Rattle.log_writing.specs.Worked.{Worked}

pub worked : Worked
unfolding opening_bytes event_bytes bad_openings bad_events first_from written_of
worked =
    record {
      enough = refl;
      short = refl;
      bad = refl;
      bad_urgent = refl;
      bad_fair = refl;
      past = refl;
      own = refl;
      bad_own = refl;
      bad_late = refl;
      bad_told = refl;
      first = refl;
    }
