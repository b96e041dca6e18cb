-- What the examples' calls and their replies come to, computed.
use mathlib.Core.Path.{◌≡◌, refl}
use mathlib.Core.List.{List, [], ◌∷◌}
use Rattle.std.proofs.Common.{None, Some}
use Rattle.units.specs.Refusals.{first_of}
use Rattle.units.specs.declared.Refusal.TheVariants.{PlacesFull}
use Rattle.places.specs.Places.{count, first_free}
use Rattle.places.specs.Choice.{comes_before, better, least}
use Rattle.places.specs.Marks.{Mark, opens, closes, in_force}
use Rattle.urgent.specs.Calls.{open_of, close_of, offer_of, turn_of}
use Rattle.tags.specs.Tags.{finish_of}
use Rattle.packets.specs.Quotes.{quote_of}
use Rattle.packets.specs.Calls.{open_of as open_in, put_of}
use Rattle.fair.specs.Calls.{open_of as open_fair_of, offer_of as offer_packet_of}
use Rattle.station.specs.Calls.{call_of}
use Rattle.station.specs.declared.Call.TheVariants.{OfferCell}
use Rattle.station.specs.Answers.{refusal_in}
use Rattle.promises.specs.Run.{run, run_from, reply_to}
use Rattle.guarantee.specs.Arrivals.{Arrival}
use Rattle.guarantee.specs.Conditions.{arrivals}
use Rattle.guarantee.specs.Example.{cell, gone, calls, offered}

-- the cells that the example's calls bring
abbrev pub brought : List Arrival
brought = cell 1 5 ∷ cell 0 5 ∷ cell 1 3 ∷ cell 1 1 ∷ cell 0 1 ∷ cell 0 1 ∷ []

-- the openings and closings that they are answered ok for
abbrev pub marks : List Mark
marks = opens 1 2 ∷ closes 1 ∷ opens 5 9 ∷ opens 1 2 ∷ opens 0 3 ∷ []

-- what the calls bring, send and mark
pub history :
    (arrivals calls ≡ brought)
    × ((run calls).cells.sent ≡ gone 0 2 6 ∷ gone 1 2 5 ∷ gone 1 1 4 ∷ gone 0 1 3 ∷ gone 0 0 2 ∷ gone 1 0 1 ∷ [])
    × ((run calls).cells.marks ≡ marks)
unfolding run_from call_of open_of close_of offer_of turn_of open_fair_of open_in offer_packet_of put_of quote_of finish_of first_of count first_free comes_before better least in_force
history = (refl, refl, refl)

-- fifteen cells wait, and the next is taken; then sixteen, and the next is refused
pub answers : (refusal_in (reply_to (offered 15) (OfferCell 0 16)) ≡ None) × (refusal_in (reply_to (offered 16) (OfferCell 0 16)) ≡ Some PlacesFull)
unfolding run_from call_of open_of offer_of first_of count first_free in_force
answers = (refl, refl)
