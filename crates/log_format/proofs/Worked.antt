-- The worked logs: the definitions compute.
use mathlib.Core.Path.{refl}
use Rattle.log_format.specs.Format.{opening_bytes, event_bytes}
use Rattle.log_format.specs.Faults.{form_of, urgent_length, fair_length, event_length}
use Rattle.log_format.specs.Reading.{read_of, first_fault, opening_parts, event_parts, openings_at, events_at}
use Rattle.log_format.specs.Pairs.{same_openings, rest_of, differ_from}
use Rattle.log_format.specs.Worked.{Worked}

pub worked : Worked
unfolding opening_bytes event_bytes form_of urgent_length fair_length event_length read_of first_fault opening_parts event_parts openings_at events_at same_openings rest_of differ_from
worked =
    record {
      empty = refl;
      empty_read = refl;
      small = refl;
      small_read = refl;
      own = refl;
      own_read = refl;
      no_20 = refl;
      no_bytes = refl;
      no_21_offset = refl;
      no_21_urgent = refl;
      no_21_many = refl;
      no_21_events = refl;
      no_21_long = refl;
      no_22 = refl;
      no_22_falling = refl;
      no_22_equal = refl;
      rising = refl;
      no_22_zero = refl;
      no_22_late = refl;
      no_22_told = refl;
      no_23 = refl;
      no_23_field = refl;
      no_24 = refl;
      tail = refl;
      differ = refl;
      tail_own = refl;
      differ_own = refl;
      tail_forms = refl;
      differ_forms = refl;
      limit = refl;
      over = refl;
      numbers = refl;
    }
