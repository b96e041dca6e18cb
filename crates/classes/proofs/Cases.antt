-- What holds of each way that a call can go holds of what the call gives.
use mathlib.Core.Path.{◌≡◌, refl}
use mathlib.Core.Bool.{true, false}
use Prim.Native.Nat.{ℕ, ◌≤◌, ◌<◌}
use borrow.Author.Tests.{ltb-false, leb-false, not-false}
use lib.Dec.{ltb}
use Rattle.units.specs.Limits.{place_count, bad_weight, bad_length}
use Rattle.units.specs.declared.Refusal.{Refusal}
use Rattle.units.specs.declared.Refusal.TheVariants.{NothingWaits}
use Rattle.units.proofs.Refusals.{first_cases}
use Rattle.places.specs.Places.{flow_of}
use Rattle.places.specs.Choice.{Choice, nothing, at}
use Rattle.places.proofs.Tests.{neither_told}
use Rattle.tags.specs.declared.Packet.{Packet}
use Rattle.tags.specs.Grounds.{opening_grounds}
use Rattle.packets.specs.Queue.{flow_at, waiting_of, busy_with, end_grounds}
use Rattle.ascent.specs.Ascent.{passes_for}
use Rattle.classes.specs.declared.Classes.{Classes}
use Rattle.classes.specs.declared.Done.{Done}
use Rattle.classes.specs.Lane.{chosen, beyond, begin_grounds}
use Rattle.classes.specs.Calls.{refused, opened, open_of, closed, close_grounds, close_of, taken, offer_grounds, offer_of, begun, begin_of, ended, end_of}

module _ (u : Classes) (P : Done → Type 0) (no_way : (r : Refusal) → P (refused u r)) where
  -- an opening
  pub open_cases : (flow weight : ℕ) → (flow ≤ 15 → (flow_at u.queue flow).opened ≡ false → bad_weight weight ≡ false → P (opened u flow weight))
      → P (open_of u flow weight)
  unfolding open_of
  open_cases flow weight ok =
      first_cases (refused u) P no_way (opening_grounds flow weight (flow_at u.queue flow)) (opened u flow weight)
      (λ h. ok (ltb-false 15 flow h.0) h.1.0 h.1.1.0)

  -- a closing
  pub close_cases : (flow : ℕ) → (flow ≤ 15 → waiting_of u.queue flow ≤ 0 → busy_with u.queue.service flow ≡ false → P (closed u flow))
      → P (close_of u flow)
  unfolding close_of
  close_cases flow ok =
      first_cases (refused u) P no_way (close_grounds u flow) (closed u flow)
      (λ h.
      let n = neither_told (ltb 0 (waiting_of u.queue flow)) (busy_with u.queue.service flow) h.1.1.0 in
      ok (ltb-false 15 flow h.0) (ltb-false 0 (waiting_of u.queue flow) n.0) n.1)

  -- an offer
  pub offer_cases : (flow length : ℕ)
      → (flow ≤ 15 → (flow_at u.queue flow).opened ≡ true → bad_length length ≡ false → waiting_of u.queue flow < 16 → P (taken u flow length))
      → P (offer_of u flow length)
  unfolding offer_of
  offer_cases flow length ok =
      first_cases (refused u) P no_way (offer_grounds u flow length) (taken u flow length)
      (λ h.
      ok (ltb-false 15 flow h.0) (not-false (flow_at u.queue flow).opened h.1.0) h.1.1.0
      (leb-false 16 (waiting_of u.queue flow) h.1.1.1.0))

  -- a begin
  pub begin_cases : (u.queue.service.busy ≡ false → (place : ℕ) (p : Packet) → chosen u ≡ at place p
      → passes_for u.tree (flow_of place_count place) p.length ≡ false → P (begun u (at place p))) → P (begin_of u)
  unfolding begin_of
  begin_cases ok =
      first_cases (refused u) P no_way (begin_grounds u) (begun u (chosen u)) (λ h. go h.0 (chosen u) refl h.1.1.0)
    where
      go : u.queue.service.busy ≡ false → (x : Choice Packet) → chosen u ≡ x → beyond u x ≡ false → P (begun u x)
      go idle nothing e fits = no_way NothingWaits
      go idle (at place p) e fits = ok idle place p e fits

  -- an end
  pub end_cases : (u.queue.service.busy ≡ true → P (ended u)) → P (end_of u)
  unfolding end_of
  end_cases ok =
      first_cases (refused u) P no_way (end_grounds u.queue) (ended u) (λ h. ok (not-false u.queue.service.busy h.0))
