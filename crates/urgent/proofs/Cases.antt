-- What holds of each way that a call can go holds of what the call gives.
use Rattle.std.proofs.Common.{◌≡◌, ℕ, ◌<◌, ◌≤◌, Bool, true, false, ltb-false, leb-false}
use borrow.Author.Tests.{not-false}
use Rattle.units.specs.Limits.{slot_limit, outside_of, bad_deadline}
use Rattle.units.specs.declared.Refusal.{Refusal}
use Rattle.units.proofs.Refusals.{first_cases}
use Rattle.urgent.specs.declared.Urgent.{Urgent}
use Rattle.urgent.specs.declared.Done.{Done}
use Rattle.urgent.specs.Lane.{flow_at, waiting_of, opening_grounds, closing_grounds, offering_grounds, turn_grounds}
use Rattle.urgent.specs.Calls.{refused, opened, open_of, closed, close_of, accepted, offer_of, chosen, turned, turn_of}

module _ (u : Urgent) (P : Done → Type 0) (no_way : (r : Refusal) → P (refused u r)) where
  pub open_cases : (flow deadline : ℕ) → (flow ≤ 15 → (flow_at u flow).opened ≡ false → bad_deadline deadline ≡ false → P (opened u flow deadline)) → P (open_of u flow deadline)
  unfolding open_of
  open_cases flow deadline ok =
      first_cases (refused u) P no_way (opening_grounds u flow deadline) (opened u flow deadline) (λ h. ok (ltb-false 15 flow h.0) h.1.0 h.1.1.0)

  pub close_cases : (flow : ℕ) → (flow ≤ 15 → waiting_of u flow ≤ 0 → P (closed u flow)) → P (close_of u flow)
  unfolding close_of
  close_cases flow ok =
      first_cases (refused u) P no_way (closing_grounds u flow) (closed u flow) (λ h. ok (ltb-false 15 flow h.0) (ltb-false 0 (waiting_of u flow) h.1.1.0))

  pub offer_cases : (flow deadline : ℕ)
      → (flow ≤ 15 → (flow_at u flow).opened ≡ true → outside_of deadline (flow_at u flow).deadline ≡ false → waiting_of u flow < 16 → P (accepted u flow deadline))
      → P (offer_of u flow deadline)
  unfolding offer_of
  offer_cases flow deadline ok =
      first_cases (refused u) P no_way (offering_grounds u flow deadline) (accepted u flow deadline)
      (λ h. ok (ltb-false 15 flow h.0) (not-false (flow_at u flow).opened h.1.0) h.1.1.0 (leb-false 16 (waiting_of u flow) h.1.1.1.0))

  pub turn_cases : (usable : Bool) → (u.now.0 < slot_limit → P (turned u (chosen u usable))) → P (turn_of u usable)
  unfolding turn_of
  turn_cases usable ok =
      first_cases (refused u) P no_way (turn_grounds u) (turned u (chosen u usable)) (λ h. ok (leb-false slot_limit u.now.0 h.0))
