-- A call beyond the limits is refused, so that the station stays. Of a cell this rests on its flow: every flow's deadline is within the limits, from a fresh
-- station on and after any call.
use mathlib.Core.Path.{◌≡◌, refl, sym, ◌∙◌, ap}
use mathlib.Core.Bool.{Bool, true, false, ◌||◌, true≢false}
use Prim.Native.Nat.{ℕ, ◌≤◌, zero-le}
use native.Mathlib.Omega.{arith}
use borrow.Author.Tests.{le-ltb}
use Rattle.units.specs.Limits.{no_such_flow, outside_of, bad_weight, bad_deadline, bad_length}
use Rattle.units.proofs.Limits.{inside}
use Rattle.places.specs.Choice.{Choice, nothing, at}
use Rattle.places.specs.Members.{Each}
use Rattle.places.proofs.Members.{each_anywhere, each_set, each_replicate}
use Rattle.urgent.specs.declared.Urgent.{Urgent as UrgentLane}
use Rattle.urgent.specs.declared.Flow.{Flow}
use Rattle.urgent.specs.declared.Cell.{Cell}
use Rattle.urgent.specs.declared.Done.{Done as UrgentDone}
use Rattle.urgent.specs.Lane.{shut_flow, flow_at}
use Rattle.urgent.specs.Calls.{open_of, close_of, offer_of, chosen, turned, turn_of}
use Rattle.urgent.proofs.Cases.{open_cases, close_cases, offer_cases, turn_cases}
use Rattle.fair.specs.declared.Fair.{Fair as FairLane}
use Rattle.fair.proofs.Cases.{open_cases as fair_open, close_cases as fair-close, offer_cases as packet-offer}
use Rattle.station.specs.declared.Station.{Station}
use Rattle.station.specs.declared.Call.{Call}
use Rattle.station.specs.declared.Call.TheVariants.{OpenUrgent, OpenFair, CloseUrgent, CloseFair, OfferCell, OfferPacket, OpenTurn, LostTurn, Begin, End}
use Rattle.station.specs.Calls.{fresh_station, call_of}
use Rattle.logging.specs.Sorts.{beyond, opens_urgent, opens_fair, closes, happens, event, sort_of}
use Rattle.logging.proofs.Sorts.{is_beyond, is_past}

-- a flow that there is, and a number within its limit, are not beyond the limits
flow_past : (flow : ℕ) → no_such_flow flow ≡ true → flow ≤ 15 → ⊥
flow_past flow e l = true≢false (sym e ∙ le-ltb 15 flow l)

pair_past : (flow : ℕ) (bad : Bool) → (no_such_flow flow || bad) ≡ true → flow ≤ 15 → bad ≡ false → ⊥
pair_past flow bad e l b = true≢false (sym e ∙ rw (le-ltb 15 flow l, b))

-- a number that is within some limit is within a higher one
smaller : (n low most : ℕ) → outside_of n low ≡ false → low ≤ most → outside_of n most ≡ false
smaller n low most e l = let w = inside n low e in rw (le-ltb n 1 w.0, le-ltb most n (omega (arith, w.1)))

-- ---- every flow's deadline is within the limits
abbrev Small : Flow → Type 0
Small x = x.deadline ≤ 4096

abbrev pub Limited : Station → Type 0
Limited s = Each Small s.urgent.flows

module _ (u : UrgentLane) (g : Each Small u.flows) where
  abbrev After : UrgentDone → Type 0
  After d = Each Small d.lane.flows

  -- the deadline of any flow, also of one that there is not
  flow_small : (flow : ℕ) → (flow_at u flow).deadline ≤ 4096
  flow_small flow = each_anywhere Small shut_flow zero-le u.flows flow g

  after_turned : (x : Choice Cell) → After (turned u x)
  after_turned nothing = g
  after_turned (at place c) = g

  after_open : (flow deadline : ℕ) → After (open_of u flow deadline)
  after_open flow deadline = open_cases u After (λ r. g) flow deadline (λ l o b. each_set Small u.flows flow _ (inside deadline 4096 b).1 g)

  after_close : (flow : ℕ) → After (close_of u flow)
  after_close flow = close_cases u After (λ r. g) flow (λ l w. each_set Small u.flows flow _ (flow_small flow) g)

  after_offer : (flow deadline : ℕ) → After (offer_of u flow deadline)
  after_offer flow deadline = offer_cases u After (λ r. g) flow deadline (λ l o b w. each_set Small u.flows flow _ (flow_small flow) g)

  after_turn : (usable : Bool) → After (turn_of u usable)
  after_turn usable = turn_cases u After (λ r. g) usable (λ l. after_turned (chosen u usable))

pub limited_after : (s : Station) (call : Call) → Limited s → Limited (call_of s call).station
unfolding call_of
limited_after s (OpenUrgent flow deadline) g = after_open s.urgent g flow deadline
limited_after s (OpenFair flow weight) g = g
limited_after s (CloseUrgent flow) g = after_close s.urgent g flow
limited_after s (CloseFair flow) g = g
limited_after s (OfferCell flow deadline) g = after_offer s.urgent g flow deadline
limited_after s (OfferPacket flow length) g = g
limited_after s OpenTurn g = after_turn s.urgent g true
limited_after s LostTurn g = after_turn s.urgent g false
limited_after s Begin g = g
limited_after s End g = g

pub limited_fresh : Limited fresh_station
limited_fresh = each_replicate Small 16 shut_flow zero-le

-- ---- each lane of the station, with the other as it is
module _ (s : Station) (g : Limited s) where
  abbrev with_urgent_lane : UrgentLane → Station
  with_urgent_lane u = record { urgent = u; fair = s.fair }

  abbrev with_fair_lane : FairLane → Station
  with_fair_lane u = record { urgent = s.urgent; fair = u }

  pub beyond_same : (call : Call) → sort_of call ≡ beyond → (call_of s call).station ≡ s
  unfolding call_of
  beyond_same (OpenUrgent flow deadline) e =
      let t = is_past (no_such_flow flow || bad_deadline deadline) (opens_urgent flow deadline) refl e in
      ap with_urgent_lane (open_cases s.urgent (λ d. d.lane ≡ s.urgent) (λ r. refl) flow deadline (λ l o b. absurd (pair_past flow (bad_deadline deadline) t l b)))
  beyond_same (OpenFair flow weight) e =
      let t = is_past (no_such_flow flow || bad_weight weight) (opens_fair flow weight) refl e in
      ap with_fair_lane (fair_open s.fair (λ d. d.lane ≡ s.fair) (λ r. refl) flow weight (λ l o b. absurd (pair_past flow (bad_weight weight) t l b)))
  beyond_same (CloseUrgent flow) e =
      let t = is_past (no_such_flow flow) closes refl e in
      ap with_urgent_lane (close_cases s.urgent (λ d. d.lane ≡ s.urgent) (λ r. refl) flow (λ l w. absurd (flow_past flow t l)))
  beyond_same (CloseFair flow) e =
      let t = is_past (no_such_flow flow) closes refl e in
      ap with_fair_lane (fair-close s.fair (λ d. d.lane ≡ s.fair) (λ r. refl) flow (λ l w b. absurd (flow_past flow t l)))
  beyond_same (OfferCell flow deadline) e =
      let t = is_past (no_such_flow flow || bad_deadline deadline) (happens (event 2 flow deadline)) refl e in
      ap with_urgent_lane (offer_cases s.urgent (λ d. d.lane ≡ s.urgent) (λ r. refl) flow deadline
      (λ l o b w. absurd (pair_past flow (bad_deadline deadline) t l (smaller deadline (flow_at s.urgent flow).deadline 4096 b (flow_small s.urgent g flow)))))
  beyond_same (OfferPacket flow length) e =
      let t = is_past (no_such_flow flow || bad_length length) (happens (event 3 flow length)) refl e in
      ap with_fair_lane (packet-offer s.fair (λ d. d.lane ≡ s.fair) (λ r. refl) flow length (λ l o b w t₁ n. absurd (pair_past flow (bad_length length) t l b)))
  beyond_same OpenTurn e = absurd (true≢false (sym (ap is_beyond e)))
  beyond_same LostTurn e = absurd (true≢false (sym (ap is_beyond e)))
  beyond_same Begin e = absurd (true≢false (sym (ap is_beyond e)))
  beyond_same End e = absurd (true≢false (sym (ap is_beyond e)))
