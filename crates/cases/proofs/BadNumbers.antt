-- The bad numbers: the definitions compute.
use mathlib.Core.Path.{refl}
use Rattle.units.specs.Refusals.{first_of}
use Rattle.places.specs.Places.{count, first_free}
use Rattle.link.specs.Verdicts.{by_numbers}
use Rattle.urgent.specs.Calls.{open_of as open_urgent_of}
use Rattle.tags.specs.Tags.{finish_of}
use Rattle.packets.specs.Quotes.{quote_of}
use Rattle.packets.specs.Calls.{open_of as open_in, put_of}
use Rattle.fair.specs.Calls.{open_of, offer_of}
use Rattle.station.specs.Calls.{call_of}
use Rattle.text.specs.Reading.{read_on}
use Rattle.text.specs.Input.{lines_of}
use Rattle.text.specs.Decimal.{decimal_within, decimal_of}
use Rattle.text.specs.Spelled.{bytes_of}
use Rattle.session.specs.Whole.{answers_of}
use Rattle.cases.specs.Table.{told_by}
use Rattle.cases.specs.BadNumbers.{BadNumbers}

pub bad_numbers : BadNumbers
unfolding told_by bytes_of lines_of answers_of read_on call_of open_urgent_of open_of open_in offer_of put_of quote_of finish_of first_of by_numbers count first_free decimal_of decimal_within
bad_numbers =
    record {
      deadlines = refl;
      weights = refl;
      lists = refl;
      session = refl;
    }
