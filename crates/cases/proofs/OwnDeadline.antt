-- The cells with deadlines of their own: the definitions compute.
use mathlib.Core.Path.{refl}
use Rattle.units.specs.Refusals.{first_of}
use Rattle.places.specs.Places.{count, first_free}
use Rattle.places.specs.Choice.{comes_before, better, least}
use Rattle.urgent.specs.Calls.{open_of, close_of, offer_of, turn_of}
use Rattle.station.specs.Calls.{call_of}
use Rattle.text.specs.Reading.{read_on}
use Rattle.text.specs.Input.{lines_of}
use Rattle.text.specs.Decimal.{decimal_within, decimal_of}
use Rattle.text.specs.Spelled.{bytes_of}
use Rattle.session.specs.Whole.{answers_of}
use Rattle.cases.specs.Table.{told_by}
use Rattle.cases.specs.OwnDeadline.{slow, OwnDeadlines}

pub own_deadlines : OwnDeadlines
unfolding told_by slow bytes_of lines_of answers_of read_on call_of open_of close_of offer_of turn_of first_of count first_free comes_before better least decimal_of decimal_within
own_deadlines =
    record {
      out_of_order_lem = refl;
      last_goes_first_lem = refl;
      full_flow_lem = refl;
      own_limit_lem = refl;
      own_window_lem = refl;
      session = refl;
    }
