-- What each call of the class lane gives, over every state: what the queue gives, and what becomes of the tree.
use Rattle.std.specs.Prelude.{true, List, [], ◌∷◌, ℕ}
use Rattle.units.specs.Limits.{place_count}
use Rattle.units.specs.Refusals.{Ground, first_of, unless}
use Rattle.units.specs.declared.Refusal.{Refusal}
use Rattle.units.specs.declared.Refusal.TheVariants.{NothingWaits}
use Rattle.places.specs.Places.{flow_of}
use Rattle.places.specs.Choice.{Choice, nothing, at}
use Rattle.tags.specs.declared.Packet.{Packet}
use Rattle.tags.specs.Grounds.{opening_grounds, closing_grounds, waiting_grounds}
use Rattle.packets.specs.declared.Quote.{Quote}
use Rattle.packets.specs.declared.Queue.{Queue}
use Rattle.packets.specs.Queue.{flow_at, waiting_of, busy_with, end_grounds}
use Rattle.packets.specs.Calls.{queue_with, placed}
use Rattle.packets.specs.Calls.{opened as opened_in, closed as closed_in, begun as begun_in, ended as ended_in}
use Rattle.tree.specs.declared.Tree.{Tree}
use Rattle.tree.specs.Tree.{no_tag, node_of, node_at, with_node}
use Rattle.tree.specs.Steps.{weighed_node}
use Rattle.ascent.specs.Ascent.{offered_to, begun_from, ended_from}
use Rattle.classes.specs.declared.Classes.{Classes}
use Rattle.classes.specs.declared.Done.{Done}
use Rattle.classes.specs.declared.Call.{Call}
use Rattle.classes.specs.declared.Call.TheVariants.{Open, Close, Offer, Begin, End}
use Rattle.classes.specs.declared.Answer.{Answer}
use Rattle.classes.specs.declared.Answer.TheVariants.{Refused, Opened, Closed, Taken, Begun, Ended}
use Rattle.classes.specs.Lane.{chosen, begin_grounds}

-- a refused call leaves the lane as it was
abbrev pub refused : Classes → Refusal → Done
refused u r = record { lane = u; answer = Refused r }

-- the lane after a call, and the answer
abbrev pub done : Tree → Queue → Answer → Done
done t q answer = record { lane = record { tree = t; queue = q }; answer = answer }

-- opening: the flow has this weight among the children of its class
abbrev pub opened : Classes → ℕ → ℕ → Done
opened u flow weight =
    done (with_node u.tree (node_of flow) (weighed_node weight (node_at u.tree (node_of flow))))
    (queue_with u.queue (opened_in u.queue flow weight)) Opened

-- what opening a flow with a weight gives
unfoldable pub open_of : Classes → ℕ → ℕ → Done
open_of u flow weight = unless (refused u) (first_of (opening_grounds flow weight (flow_at u.queue flow))) (opened u flow weight)

-- closing: the tree stays
abbrev pub closed : Classes → ℕ → Done
closed u flow = done u.tree (queue_with u.queue (closed_in u.queue flow)) Closed

-- what a closing may be refused for
abbrev pub close_grounds : Classes → ℕ → List Ground
close_grounds u flow = closing_grounds flow (flow_at u.queue flow) (waiting_of u.queue flow) (busy_with u.queue.service flow)

-- what closing a flow gives
unfoldable pub close_of : Classes → ℕ → Done
close_of u flow = unless (refused u) (first_of (close_grounds u flow)) (closed u flow)

-- a packet of a class has no tags of its own: those of its flow and of the classes above it are kept in the tree
abbrev pub untagged : Quote
untagged = record { start = no_tag; finish = no_tag }

-- offering: the packet is put, each node above it counts it, and it is answered its number
abbrev pub taken : Classes → ℕ → ℕ → Done
taken u flow length =
    done (offered_to u.tree flow) (placed u.queue flow length untagged).queue (Taken (flow_at u.queue flow).next)

-- what an offer may be refused for
abbrev pub offer_grounds : Classes → ℕ → ℕ → List Ground
offer_grounds u flow length = waiting_grounds flow (flow_at u.queue flow) (waiting_of u.queue flow) length

-- what offering a packet of a length gives
unfoldable pub offer_of : Classes → ℕ → ℕ → Done
offer_of u flow length = unless (refused u) (first_of (offer_grounds u flow length)) (taken u flow length)

-- begin: the packet goes into service, and each child on its way gets its finish; the start that is answered is the flow's, in its own class
abbrev pub begun : Classes → Choice Packet → Done
begun u nothing = refused u NothingWaits
begun u (at place p) =
    done (begun_from u.tree (flow_of place_count place) p.length) (begun_in u.queue (at place p)).queue
    (Begun (flow_of place_count place) p.number p.length (node_at u.tree (node_of (flow_of place_count place))).start)

-- what begin gives
unfoldable pub begin_of : Classes → Done
begin_of u = unless (refused u) (first_of (begin_grounds u)) (begun u (chosen u))

-- end: the service is idle, and each class on the way of the packet takes its child's finish
abbrev pub ended : Classes → Done
ended u =
    done (ended_from u.tree u.queue.service.flow) (ended_in u.queue).queue
    (Ended u.queue.service.flow u.queue.service.number u.queue.service.length)

-- what end gives
unfoldable pub end_of : Classes → Done
end_of u = unless (refused u) (first_of (end_grounds u.queue)) (ended u)

-- what each call gives
abbrev pub call_of : Classes → Call → Done
call_of u (Open flow weight) = open_of u flow weight
call_of u (Close flow) = close_of u flow
call_of u (Offer flow length) = offer_of u flow length
call_of u Begin = begin_of u
call_of u End = end_of u

-- and what it may be refused for, in the order in which the refusals are given
abbrev pub grounds_of : Classes → Call → List Ground
grounds_of u (Open flow weight) = opening_grounds flow weight (flow_at u.queue flow)
grounds_of u (Close flow) = close_grounds u flow
grounds_of u (Offer flow length) = offer_grounds u flow length
grounds_of u Begin = begin_grounds u
grounds_of u End = end_grounds u.queue

-- the answers to all calls of a list
unfoldable pub answers : Classes → List Call → List Answer
answers u [] = []
answers u (call ∷ calls) = (call_of u call).answer ∷ answers (call_of u call).lane calls
