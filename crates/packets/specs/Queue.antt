-- The state of a queue of packets: what waits where, what is in service, what goes first, and the conditions under which begin and end are
-- refused.
use Rattle.std.specs.Prelude.{Bool, false, not, ◌&&◌, List, [], ◌∷◌, ℕ, eqb, get_or, replicate}
use Rattle.units.specs.Limits.{place_count}
use Rattle.units.specs.Refusals.{Ground}
use Rattle.units.specs.declared.Refusal.TheVariants.{PacketInService, NothingWaits, NothingInService}
use Rattle.places.specs.Places.{count, places_of, flow_of}
use Rattle.places.specs.Choice.{Key, Choice, least_held}
use Rattle.tags.specs.declared.Flow.{Flow}
use Rattle.tags.specs.declared.Packet.{Packet}
use Rattle.tags.specs.Tags.{free_packet, is_held, shut_flow}
use Rattle.packets.specs.declared.Service.{Service}
use Rattle.packets.specs.declared.Queue.{Queue}

-- no packet is in service
abbrev pub idle : Service
idle = record { busy = false; flow = 0; number = 0; length = 0; finish = record { 0 = 0 } }

-- the queue before any call
abbrev pub fresh_queue : Queue
fresh_queue = record { service = idle; flows = replicate 16 shut_flow; packets = replicate 256 free_packet }

-- the record of a flow
abbrev pub flow_at : Queue → ℕ → Flow
flow_at q flow = get_or q.flows flow shut_flow

-- what a place holds
abbrev pub packet_at : Queue → ℕ → Packet
packet_at q place = get_or q.packets place free_packet

-- how many packets of a flow wait
abbrev pub waiting_of : Queue → ℕ → ℕ
waiting_of q flow = count is_held (places_of place_count flow q.packets)

-- how many packets wait in all
abbrev pub waiting : Queue → ℕ
waiting q = count is_held q.packets

-- the service is busy with a packet of the flow
abbrev pub busy_with : Service → ℕ → Bool
busy_with v flow = v.busy && eqb v.flow flow

-- what a queue ranks its waiting packets by, of a packet's start and finish tags: the smallest goes first
abbrev pub Rank : Type 0
Rank = (start finish : ℕ) → ℕ

-- by start tag
abbrev pub by_start : Rank
by_start start finish = start

-- what the choice goes by: the rank, then the flow, then the number
abbrev pub key_by : Rank → ℕ → Packet → Key
key_by rank place p = record { rank = rank p.start.0 p.finish.0; flow = flow_of place_count place; number = p.number }

-- the waiting packet that goes first
abbrev pub chosen_by : Rank → Queue → Choice Packet
chosen_by rank q = least_held is_held (key_by rank) q.packets

-- the refusals of begin, in the order in which they are given
abbrev pub begin_grounds : Queue → List Ground
begin_grounds q = (PacketInService, q.service.busy) ∷ (NothingWaits, eqb (waiting q) 0) ∷ []

-- the refusal of end
abbrev pub end_grounds : Queue → List Ground
end_grounds q = (NothingInService, not q.service.busy) ∷ []
