-- What has become of a queue's packets, read off the calls and their answers alone. Each list has the newest first.
use Rattle.std.specs.Prelude.{Bool, true, false, not, cond, ◌&&◌, ◌||◌, List, [], ◌∷◌, ℕ, eqb}
use Rattle.places.specs.Places.{count}
use Rattle.places.specs.Marks.{Mark, in_force}
use Rattle.places.specs.Numbers.{is_this}

-- an accepted packet: its flow, its number, start and finish tags as answered, its length, the charge of the weight then in force, and the
-- position of the accepting call in the list of calls, from 0
pub record Packet : Type 0 where
  pub flow : ℕ
  pub number : ℕ
  pub start : ℕ
  pub finish : ℕ
  pub length : ℕ
  pub charge : ℕ
  pub position : ℕ

-- a packet is known by its flow
abbrev pub its_flow : Packet → ℕ
its_flow a = a.flow

-- and its number
abbrev pub its_number : Packet → ℕ
its_number a = a.number

-- the packet of this flow and number
abbrev pub is_packet : ℕ → ℕ → Packet → Bool
is_packet flow number a = is_this its_flow its_number flow number a

-- what happened to the service: a packet was begun, as the begin answered, or ended, as the end answered; with the position of the
-- call in the list of calls, from 0, and for an end the finish tag of the packet as it was accepted and how many accepted packets were not
-- begun then
pub data Moment : Type 0 where
  began : (flow number length start position : ℕ) → Moment
  ceased : (flow number length position finish left : ℕ) → Moment

-- what the calls and answers so far tell of the packets
pub record Packets : Type 0 where
  -- how many calls there were
  pub calls : ℕ
  -- the openings and closings that were answered ok
  pub marks : List Mark
  pub accepted : List Packet
  pub moments : List Moment

-- before any call
abbrev pub no_packets : Packets
no_packets = record { calls = 0; marks = []; accepted = []; moments = [] }

-- the weight in force: that of the flow's newest opening, 0 before any
abbrev pub weight_in : Packets → ℕ → ℕ
weight_in h flow = in_force h.marks flow

-- the finish tag of the accepted packet of this flow and number, 0 where there is none
unfoldable pub finish_in : List Packet → ℕ → ℕ → ℕ
finish_in [] flow number = 0
finish_in (a ∷ rest) flow number = cond (is_packet flow number a) a.finish (finish_in rest flow number)

-- the packet was begun: it is known by its flow and its number
unfoldable pub was_begun : List Moment → ℕ → ℕ → Bool
was_begun [] flow number = false
was_begun (began f n l s p ∷ ms) flow number = (eqb f flow && eqb n number) || was_begun ms flow number
was_begun (ceased f n l p e w ∷ ms) flow number = was_begun ms flow number

-- an accepted packet waits: it is not begun
abbrev pub waits : Packets → Packet → Bool
waits h a = not (was_begun h.moments a.flow a.number)

-- how many packets wait
abbrev pub waiting_all : Packets → ℕ
waiting_all h = count (waits h) h.accepted

-- a packet is in service: a begin was answered, and no end since
abbrev pub in_service : List Moment → Bool
in_service [] = false
in_service (began f n l s p ∷ ms) = true
in_service (ceased f n l p e w ∷ ms) = false

-- a packet of this flow is in service
abbrev pub serving : List Moment → ℕ → Bool
serving [] flow = false
serving (began f n l s p ∷ ms) flow = eqb f flow
serving (ceased f n l p e w ∷ ms) flow = false

-- this packet is in service
abbrev pub is_served : List Moment → Packet → Bool
is_served [] a = false
is_served (began f n l s p ∷ ms) a = eqb f a.flow && eqb n a.number
is_served (ceased f n l p e w ∷ ms) a = false
