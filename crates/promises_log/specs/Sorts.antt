-- What each call is to the log, in the rules' own numbers: which calls are beyond the limits, and what the others are.
use Rattle.std.specs.Prelude.{◌≡◌, ℕ, ◌≤◌, ◌<◌}
use Rattle.station.specs.declared.Call.{Call}
use Rattle.station.specs.declared.Call.TheVariants.{OpenUrgent, OpenFair, CloseUrgent, CloseFair, OfferCell, OfferPacket, OpenTurn, LostTurn, Begin, End}
use Rattle.logging.specs.Sorts.{Sort, beyond, opens_urgent, opens_fair, closes, happens, event, sort_of}

-- a call with a flow: of flows 0 to 15 it is this, and with any other it is beyond the limits
pub record ByFlow (call : ℕ → Call) (sort : ℕ → Sort) : Type 0 where
  pub within : (flow : ℕ) → flow ≤ 15 → sort_of (call flow) ≡ sort flow
  pub flow_above : (flow : ℕ) → 15 < flow → sort_of (call flow) ≡ beyond

-- one with a number too, which is 1 to most
pub record ByNumber (most : ℕ) (call : ℕ → ℕ → Call) (sort : ℕ → ℕ → Sort) : Type 0 where
  pub within : (flow number : ℕ) → flow ≤ 15 → 1 ≤ number → number ≤ most → sort_of (call flow number) ≡ sort flow number
  pub flow_above : (flow number : ℕ) → 15 < flow → sort_of (call flow number) ≡ beyond
  pub number_0 : (flow : ℕ) → sort_of (call flow 0) ≡ beyond
  pub number_above : (flow number : ℕ) → most < number → sort_of (call flow number) ≡ beyond

pub record CallsSorted : Type 0 where
  -- openings have a deadline of 1 to 4,096 or a weight of 1 to 16
  pub open_urgent : ByNumber 4096 OpenUrgent opens_urgent
  pub open_fair : ByNumber 16 OpenFair opens_fair
  -- closings
  pub close_urgent : ByFlow CloseUrgent (λ flow. closes)
  pub close_fair : ByFlow CloseFair (λ flow. closes)
  -- events: a cell of deadline 1 to 4,096, a packet of 1 to 1,500 bytes, turns, begin and end
  pub cell : ByNumber 4096 OfferCell (λ flow deadline. happens (event 2 flow deadline))
  pub packet : ByNumber 1500 OfferPacket (λ flow length. happens (event 3 flow length))
  pub open_turn : sort_of OpenTurn ≡ happens (event 0 0 0)
  pub lost_turn : sort_of LostTurn ≡ happens (event 1 0 0)
  pub begin : sort_of Begin ≡ happens (event 4 0 0)
  pub end : sort_of End ≡ happens (event 5 0 0)
