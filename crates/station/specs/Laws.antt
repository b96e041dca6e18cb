-- What holds of every call in every state.
use Rattle.std.specs.Prelude.{◌≡◌, Bool, true, false, List, [], ◌∷◌, map, ℕ, Some}
use Rattle.units.specs.Refusals.{Ground, number_of, first_of}
use Rattle.units.specs.Answers.{number_in}
use Rattle.units.specs.declared.Refusal.{Refusal}
use Rattle.urgent.specs.Lane.{opening_grounds as urgent_opening, closing_grounds as urgent_closing, offering_grounds as cell_offering, turn_grounds}
use Rattle.packets.specs.Queue.{flow_at, waiting_of, busy_with, begin_grounds, end_grounds}
use Rattle.fair.specs.Lane.{start_of}
use Rattle.tags.specs.Grounds.{opening_grounds as fair_opening, closing_grounds as fair_closing, offering_grounds as packet_offering}
use Rattle.station.specs.declared.Station.{Station}
use Rattle.station.specs.declared.Call.{Call}
use Rattle.station.specs.declared.Call.TheVariants.{OpenUrgent, OpenFair, CloseUrgent, CloseFair, OfferCell, OfferPacket, OpenTurn, LostTurn, Begin, End}
use Rattle.station.specs.Calls.{call_of}
use Rattle.station.specs.Answers.{told, refusal_in}

-- what a call may be refused for, in the order in which the refusals are given
abbrev pub grounds_of : Station → Call → List Ground
grounds_of s (OpenUrgent flow deadline) = urgent_opening s.urgent flow deadline
grounds_of s (OpenFair flow weight) = fair_opening flow weight (flow_at s.fair.queue flow)
grounds_of s (CloseUrgent flow) = urgent_closing s.urgent flow
grounds_of s (CloseFair flow) = fair_closing flow (flow_at s.fair.queue flow) (waiting_of s.fair.queue flow) (busy_with s.fair.queue.service flow)
grounds_of s (OfferCell flow deadline) = cell_offering s.urgent flow deadline
grounds_of s (OfferPacket flow length) = packet_offering flow (flow_at s.fair.queue flow) (waiting_of s.fair.queue flow) (start_of s.fair flow) length
grounds_of s OpenTurn = turn_grounds s.urgent
grounds_of s LostTurn = turn_grounds s.urgent
grounds_of s Begin = begin_grounds s.fair.queue
grounds_of s End = end_grounds s.fair.queue

-- A call is refused exactly for the first of its grounds that holds.
abbrev pub RefusedFirst : Type 0
RefusedFirst = (s : Station) (call : Call) → refusal_in (call_of s call).reply ≡ first_of (grounds_of s call)

-- The number that a reply tells is that of the first ground that holds, 0 where none does.
abbrev pub NumberTold : Type 0
NumberTold = (s : Station) (call : Call) → (told (call_of s call).reply).number ≡ number_in (first_of (grounds_of s call))

-- the numbers that a call can be refused with, in the order in which they are judged
abbrev pub order_of : Call → List ℕ
order_of (OpenUrgent flow deadline) = 1 ∷ 3 ∷ 14 ∷ []
order_of (OpenFair flow weight) = 1 ∷ 3 ∷ 13 ∷ []
order_of (CloseUrgent flow) = 1 ∷ 2 ∷ 12 ∷ []
order_of (CloseFair flow) = 1 ∷ 2 ∷ 12 ∷ []
order_of (OfferCell flow deadline) = 1 ∷ 2 ∷ 14 ∷ 5 ∷ 7 ∷ []
order_of (OfferPacket flow length) = 1 ∷ 2 ∷ 15 ∷ 5 ∷ 6 ∷ []
order_of OpenTurn = 7 ∷ []
order_of LostTurn = 7 ∷ []
order_of Begin = 8 ∷ 9 ∷ []
order_of End = 10 ∷ []

-- The grounds of every call have just these numbers, in this order.
abbrev pub GroundsInOrder : Type 0
GroundsInOrder = (s : Station) (call : Call) → map (λ (g : Ground). number_of g.0) (grounds_of s call) ≡ order_of call

-- A refused call leaves the station as it was.
abbrev pub RefusedSame : Type 0
RefusedSame = (s : Station) (call : Call) (r : Refusal) → refusal_in (call_of s call).reply ≡ Some r → (call_of s call).station ≡ s

-- a call of the urgent lane
abbrev pub is_urgent : Call → Bool
is_urgent (OpenUrgent flow deadline) = true
is_urgent (OpenFair flow weight) = false
is_urgent (CloseUrgent flow) = true
is_urgent (CloseFair flow) = false
is_urgent (OfferCell flow deadline) = true
is_urgent (OfferPacket flow length) = false
is_urgent OpenTurn = true
is_urgent LostTurn = true
is_urgent Begin = false
is_urgent End = false

-- The lanes share nothing: a call of one lane leaves the other as it was, and its reply and what becomes of its own lane are the
-- same whatever the other lane is.
pub record LanesApart : Type 0 where
  pub urgent_call : (s : Station) (call : Call) → is_urgent call ≡ true → (call_of s call).station.fair ≡ s.fair
  pub fair_call : (s : Station) (call : Call) → is_urgent call ≡ false → (call_of s call).station.urgent ≡ s.urgent
  pub urgent_alone :
      (s t : Station) (call : Call) → is_urgent call ≡ true → s.urgent ≡ t.urgent
      → ((call_of s call).reply ≡ (call_of t call).reply) × ((call_of s call).station.urgent ≡ (call_of t call).station.urgent)
  pub fair_alone :
      (s t : Station) (call : Call) → is_urgent call ≡ false → s.fair ≡ t.fair
      → ((call_of s call).reply ≡ (call_of t call).reply) × ((call_of s call).station.fair ≡ (call_of t call).station.fair)
