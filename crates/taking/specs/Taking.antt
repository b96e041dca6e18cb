-- Taking a flow's packet of least number into service.
use Rattle.std.specs.Prelude.{Bool, true, false, List, [], ◌∷◌, ℕ, ◌+◌, ◌*◌}
use Rattle.units.specs.Limits.{place_count}
use Rattle.units.specs.Refusals.{Ground, first_of, unless}
use Rattle.units.specs.declared.Refusal.TheVariants.{PacketInService, NothingWaits}
use Rattle.places.specs.Places.{places_of}
use Rattle.places.specs.Choice.{Key, Choice, nothing, at, least_held}
use Rattle.tags.specs.declared.Packet.{Packet}
use Rattle.tags.specs.Tags.{is_held}
use Rattle.packets.specs.declared.Queue.{Queue}
use Rattle.packets.specs.Kept.{Kept}
use Rattle.packets.specs.Calls.{refused, begun}

-- what the choice goes by: the number, then the place
abbrev pub by_number : ℕ → Packet → Key
by_number place p = record { rank = p.number; flow = 0; number = place }

-- of a choice among a flow's places, the same among all
abbrev pub among_all : ℕ → Choice Packet → Choice Packet
among_all flow nothing = nothing
among_all flow (at k p) = at (flow * place_count + k) p

-- the flow's waiting packet of least number
abbrev pub lowest_of : Queue → ℕ → Choice Packet
lowest_of q flow = among_all flow (least_held is_held by_number (places_of place_count flow q.packets))

-- there is none
abbrev pub is_none : Choice Packet → Bool
is_none nothing = true
is_none (at place p) = false

-- the refusals, in the order in which they are given
abbrev pub take_grounds : Queue → ℕ → List Ground
take_grounds q flow = (PacketInService, q.service.busy) ∷ (NothingWaits, is_none (lowest_of q flow)) ∷ []

-- what taking gives
unfoldable pub take_of : Queue → ℕ → Kept
take_of q flow = unless (refused q) (first_of (take_grounds q flow)) (begun q (lowest_of q flow))
