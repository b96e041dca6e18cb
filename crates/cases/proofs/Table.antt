-- The table's one proof: the definitions compute.
use mathlib.Core.Path.{refl}
use Rattle.units.specs.Refusals.{first_of}
use Rattle.places.specs.Places.{count, first_free}
use Rattle.places.specs.Choice.{comes_before, better, least}
use Rattle.urgent.specs.Calls.{turn_of}
use Rattle.urgent.specs.Calls.{open_of as open_urgent_of}
use Rattle.urgent.specs.Calls.{offer_of as offer_cell_of}
use Rattle.tags.specs.Tags.{finish_of}
use Rattle.packets.specs.Quotes.{quote_of}
use Rattle.packets.specs.Calls.{open_of as open_in, put_of, begin_by, end_of as end_in}
use Rattle.fair.specs.Calls.{open_of, offer_of, begin_of, end_of}
use Rattle.link.specs.Demand.{demand_of, fails_from}
use Rattle.link.specs.Rate.{rate_of, greatest_of}
use Rattle.link.specs.Verdicts.{by_numbers}
use Rattle.station.specs.Calls.{call_of}
use Rattle.cases.specs.Table.{told_by, Cases}

pub cases : Cases
unfolding told_by call_of open_urgent_of offer_cell_of turn_of open_of open_in offer_of put_of quote_of finish_of begin_of begin_by end_of end_in first_of count first_free comes_before better least fails_from demand_of rate_of greatest_of by_numbers
cases = refl
