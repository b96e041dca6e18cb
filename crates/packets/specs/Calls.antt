-- What each call of a queue of packets gives, over every state.
use Rattle.std.specs.Prelude.{true, false, Option, None, Some, is_none, List, [], ◌∷◌, ◌++◌, ℕ, ◌+◌, ◌*◌, ◌%◌, ◌^◌, set}
use Rattle.units.specs.Limits.{place_count}
use Rattle.units.specs.Refusals.{Ground, first_of, unless}
use Rattle.units.specs.declared.Refusal.{Refusal}
use Rattle.units.specs.declared.Refusal.TheVariants.{TagsUsedUp, NothingWaits}
use Rattle.places.specs.Places.{places_of, flow_of, first_free}
use Rattle.places.specs.Choice.{Choice, nothing, at}
use Rattle.tags.specs.declared.Flow.{Flow}
use Rattle.tags.specs.declared.Packet.{Packet}
use Rattle.tags.specs.Tags.{free_packet, is_held}
use Rattle.tags.specs.Grounds.{opening_grounds, closing_grounds, waiting_grounds}
use Rattle.packets.specs.declared.Queue.{Queue}
use Rattle.packets.specs.declared.Quote.{Quote}
use Rattle.packets.specs.Kept.{Kept, Flows}
use Rattle.packets.specs.declared.Answer.{Answer}
use Rattle.packets.specs.declared.Answer.TheVariants.{Refused, Opened, Closed, Accepted, Begun, Ended}
use Rattle.packets.specs.Queue.{idle, flow_at, waiting_of, busy_with, Rank, chosen_by, begin_grounds, end_grounds}

-- a refused call hands back what it was given
abbrev pub refused_flows : Queue → Refusal → Flows
refused_flows q r = record { flows = q.flows; answer = Refused r }

abbrev pub refused : Queue → Refusal → Kept
refused q r = record { queue = q; answer = Refused r }

-- the queue with the flows that a call gave
abbrev pub queue_with : Queue → Flows → Queue
queue_with q d = record { service = q.service; flows = d.flows; packets = q.packets }

-- the flows with another record of one
abbrev pub with_flow : Queue → ℕ → Flow → Answer → Flows
with_flow q flow x answer = record { flows = set q.flows flow x; answer = answer }

-- opening: the flow's numbers and its last finish go on where they stood
abbrev pub opened : Queue → ℕ → ℕ → Flows
opened q flow weight =
    with_flow q flow (record { opened = true; weight = weight; next = (flow_at q flow).next; finish = (flow_at q flow).finish }) Opened

-- what opening a flow with a weight gives
unfoldable pub open_of : Queue → ℕ → ℕ → Flows
open_of q flow weight = unless (refused_flows q) (first_of (opening_grounds flow weight (flow_at q flow))) (opened q flow weight)

-- closing: the flow's record keeps its weight, its numbers and its last finish, and loses its mark
abbrev pub closed : Queue → ℕ → Flows
closed q flow =
    with_flow q flow
    (record { opened = false; weight = (flow_at q flow).weight; next = (flow_at q flow).next; finish = (flow_at q flow).finish }) Closed

-- what closing a flow gives
unfoldable pub close_of : Queue → ℕ → Flows
close_of q flow =
    unless (refused_flows q) (first_of (closing_grounds flow (flow_at q flow) (waiting_of q flow) (busy_with q.service flow))) (closed q flow)

-- a packet is put: it gets the flow's next number and the tags that it was quoted, and takes the flow's first free place. A number past the
-- largest of its type would be 0 again; no calls come so far
abbrev pub placed : Queue → ℕ → ℕ → Quote → Kept
placed q flow length quote =
    record {
      queue =
          record {
            service = q.service;
            flows =
                set q.flows flow
                (record { opened = true; weight = (flow_at q flow).weight; next = ((flow_at q flow).next + 1) % 2 ^ 64; finish = quote.finish });
            packets =
                set q.packets (flow * place_count + first_free is_held (places_of place_count flow q.packets))
                (record { held = true; number = (flow_at q flow).next; length = length; start = quote.start; finish = quote.finish });
          };
      answer = Accepted (flow_at q flow).next quote.start quote.finish;
    }

-- the refusals of a packet that is put: what needs no tag, then that it is quoted none
abbrev pub put_grounds : Queue → ℕ → ℕ → Option Quote → List Ground
put_grounds q flow length quote = waiting_grounds flow (flow_at q flow) (waiting_of q flow) length ++ (TagsUsedUp, is_none quote) ∷ []

-- a packet is put by its quote, if it has one
abbrev pub placed_by : Queue → ℕ → ℕ → Option Quote → Kept
placed_by q flow length None = refused q TagsUsedUp
placed_by q flow length (Some quote) = placed q flow length quote

-- what putting a packet of a length gives
unfoldable pub put_of : Queue → ℕ → ℕ → Option Quote → Kept
put_of q flow length quote = unless (refused q) (first_of (put_grounds q flow length quote)) (placed_by q flow length quote)

-- begin: the packet that goes first leaves its place for the service
abbrev pub begun : Queue → Choice Packet → Kept
begun q nothing = refused q NothingWaits
begun q (at place p) =
    record {
      queue =
          record {
            service = record { busy = true; flow = flow_of place_count place; number = p.number; length = p.length; finish = p.finish };
            flows = q.flows;
            packets = set q.packets place free_packet;
          };
      answer = Begun (flow_of place_count place) p.number p.length p.start;
    }

-- what begin gives
unfoldable pub begin_by : Rank → Queue → Kept
begin_by rank q = unless (refused q) (first_of (begin_grounds q)) (begun q (chosen_by rank q))

-- end: the service is idle again
abbrev pub ended : Queue → Kept
ended q =
    record {
      queue = record { service = idle; flows = q.flows; packets = q.packets };
      answer = Ended q.service.flow q.service.number q.service.length;
    }

-- what end gives
unfoldable pub end_of : Queue → Kept
end_of q = unless (refused q) (first_of (end_grounds q)) (ended q)
