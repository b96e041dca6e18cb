-- The promises of any queue of packets, each as a statement about a queue, what the calls and answers so far tell of its packets, or both.
use Rattle.std.specs.Prelude.{◌≡◌, Bool, true, false, ◌&&◌, ◌||◌, List, [], ◌∷◌, ℕ, ◌+◌, eqb}
use Rattle.units.specs.Limits.{place_count}
use Rattle.units.specs.Charges.{charge_of}
use Rattle.places.specs.Members.{Each, Any}
use Rattle.places.specs.Marks.{open_in}
use Rattle.places.specs.Numbers.{of_flow, Numbered}
use Rattle.places.specs.Places.{bit, count, count_at, flow_of}
use Rattle.places.specs.Choice.{Key, comes_before}
use Rattle.tags.specs.declared.Packet.{Packet as Place}
use Rattle.packets.specs.declared.Queue.{Queue}
use Rattle.packets.specs.declared.Answer.{Answer}
use Rattle.packets.specs.declared.Answer.TheVariants.{Refused, Opened, Closed, Accepted, Begun, Ended}
use Rattle.packets.specs.Queue.{Rank}
use Rattle.promises_queue.specs.Packets.{Packet, its_flow, its_number, Moment, began, ceased, Packets, weight_in, waits, is_served}

-- how many packets of a flow were accepted
abbrev pub accepted_of : Packets → ℕ → ℕ
accepted_of h flow = of_flow its_flow flow h.accepted

-- a question about a packet: its flow, its number, its length and its tags
abbrev pub Question : Type 0
Question = (flow number length start finish : ℕ) → Bool

-- a place is held, and by a packet of which the answer is yes
abbrev pub holds : Question → ℕ → Place → Bool
holds ask place p = p.held && ask (flow_of place_count place) p.number p.length p.start.0 p.finish.0

-- what begin's choice goes by: the rank of the packet's tags, then its flow, then its number
abbrev pub packet_key : Rank → Packet → Key
packet_key rank a = record { rank = rank a.start a.finish; flow = a.flow; number = a.number }

-- A begin that is not refused answers flow, number, length and start tag of a packet accepted and not begun, and no such packet comes
-- before it by rank, flow and number.
abbrev pub FirstBy : Rank → Packets → Answer → Type 0
FirstBy rank h (Begun flow number length start) =
    Any
    (λ (a : Packet).
    (waits h a ≡ true)
    × (a.flow ≡ flow)
    × (a.number ≡ number)
    × (a.length ≡ length)
    × (a.start ≡ start.0)
    × Each (λ (b : Packet). waits h b ≡ true → comes_before (packet_key rank b) (packet_key rank a) ≡ false) h.accepted)
    h.accepted
FirstBy rank h (Refused r) = Unit {0}
FirstBy rank h Opened = ⊥
FirstBy rank h Closed = ⊥
FirstBy rank h (Accepted n s f) = ⊥
FirstBy rank h (Ended f n l) = ⊥

-- how many packets of a flow were begun
unfoldable pub begun_of : List Moment → ℕ → ℕ
begun_of [] flow = 0
begun_of (began f n l s p ∷ ms) flow = bit (eqb f flow) + begun_of ms flow
begun_of (ceased f n l p e w ∷ ms) flow = begun_of ms flow

-- within a flow packets are begun in the order of their numbers, from 0
abbrev pub InOrder : List Moment → Type 0
InOrder [] = Unit {0}
InOrder (began f n l s p ∷ ms) = (n ≡ begun_of ms f) × InOrder ms
InOrder (ceased f n l p e w ∷ ms) = InOrder ms

-- Each flow's packets were begun in the order of their numbers; and the places held are, packet for packet, those accepted and not
-- begun: whatever is asked of a packet's flow, number, length and tags, as many places as waiting packets answer to it.
pub record PlacesInOrder (q : Queue) (h : Packets) : Type 0 where
  pub in_order : InOrder h.moments
  pub packet_for_packet :
      (ask : Question)
      → count_at (holds ask) 0 q.packets
      ≡ count (λ (a : Packet). ask a.flow a.number a.length a.start a.finish && waits h a) h.accepted

-- An end that is not refused answers flow, number and length of the packet last begun, which has not ended.
abbrev pub LastBegun : List Moment → Answer → Type 0
LastBegun (began f n l s p ∷ ms) (Ended flow number length) = (flow ≡ f) × (number ≡ n) × (length ≡ l)
LastBegun (ceased f n l p e w ∷ ms) (Ended flow number length) = ⊥
LastBegun [] (Ended flow number length) = ⊥
LastBegun ms (Refused r) = Unit {0}
LastBegun ms Opened = ⊥
LastBegun ms Closed = ⊥
LastBegun ms (Accepted n s f) = ⊥
LastBegun ms (Begun f n l s) = ⊥

-- Each accepted packet's number, as answered, is how many of its flow were accepted before it.
abbrev pub PacketsNumbered : List Packet → Type 0
PacketsNumbered packets = Numbered its_flow its_number packets

-- A packet that waits or is in service is of an open flow, and its charge is that of the weight still in force.
abbrev pub TermsStand : Packets → Type 0
TermsStand h =
    Each
    (λ (a : Packet).
    (waits h a || is_served h.moments a) ≡ true
    → (open_in h.marks a.flow ≡ true) × (a.charge ≡ charge_of (weight_in h a.flow)))
    h.accepted
