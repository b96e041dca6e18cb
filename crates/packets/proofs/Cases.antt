-- What holds of each way that a call can go holds of what the call gives.
use mathlib.Core.Path.{◌≡◌, refl}
use mathlib.Core.Bool.{true, false}
use Rattle.std.proofs.Common.{Option, None, Some}
use Prim.Native.Nat.{ℕ, ◌≤◌, ◌<◌}
use borrow.Author.Tests.{ltb-false, leb-false, not-false}
use lib.Dec.{ltb}
use Rattle.units.specs.Limits.{bad_weight, bad_length}
use Rattle.units.specs.declared.Refusal.{Refusal}
use Rattle.units.specs.declared.Refusal.TheVariants.{TagsUsedUp, NothingWaits}
use Rattle.units.proofs.Refusals.{first_cases}
use Rattle.places.specs.Choice.{Choice, nothing, at}
use Rattle.places.proofs.Tests.{neither_told}
use Rattle.tags.specs.declared.Packet.{Packet}
use Rattle.tags.specs.Grounds.{opening_grounds, closing_grounds}
use Rattle.packets.specs.declared.Queue.{Queue}
use Rattle.packets.specs.declared.Quote.{Quote}
use Rattle.packets.specs.Kept.{Kept, Flows}
use Rattle.packets.specs.Queue.{flow_at, waiting_of, busy_with, Rank, chosen_by, begin_grounds, end_grounds}
use Rattle.packets.specs.Calls.{refused_flows, refused, opened, open_of, closed, close_of, placed, placed_by, put_grounds, put_of, begun, begin_by, ended, end_of}

-- the calls that change flows alone
module _ (q : Queue) (P : Flows → Type 0) (no_way : (r : Refusal) → P (refused_flows q r)) where
  pub open_cases : (flow weight : ℕ) → (flow ≤ 15 → (flow_at q flow).opened ≡ false → bad_weight weight ≡ false → P (opened q flow weight)) → P (open_of q flow weight)
  unfolding open_of
  open_cases flow weight ok =
      first_cases (refused_flows q) P no_way (opening_grounds flow weight (flow_at q flow)) (opened q flow weight) (λ h. ok (ltb-false 15 flow h.0) h.1.0 h.1.1.0)

  pub close_cases : (flow : ℕ) → (flow ≤ 15 → waiting_of q flow ≤ 0 → busy_with q.service flow ≡ false → P (closed q flow)) → P (close_of q flow)
  unfolding close_of
  close_cases flow ok =
      first_cases (refused_flows q) P no_way (closing_grounds flow (flow_at q flow) (waiting_of q flow) (busy_with q.service flow)) (closed q flow)
      (λ h.
      let n = neither_told (ltb 0 (waiting_of q flow)) (busy_with q.service flow) h.1.1.0 in
      ok (ltb-false 15 flow h.0) (ltb-false 0 (waiting_of q flow) n.0) n.1)

-- the calls that change the queue
module _ (q : Queue) (P : Kept → Type 0) (no_way : (r : Refusal) → P (refused q r)) where
  pub put_cases : (flow length : ℕ) (quote : Option Quote)
      → (flow ≤ 15 → (flow_at q flow).opened ≡ true → bad_length length ≡ false → waiting_of q flow < 16
      → (x : Quote) → quote ≡ Some x → P (placed q flow length x))
      → P (put_of q flow length quote)
  unfolding put_of
  put_cases flow length quote ok =
      first_cases (refused q) P no_way (put_grounds q flow length quote) (placed_by q flow length quote)
      (λ h. go (ok (ltb-false 15 flow h.0) (not-false (flow_at q flow).opened h.1.0) h.1.1.0 (leb-false 16 (waiting_of q flow) h.1.1.1.0)) quote refl)
    where
      go : ((x : Quote) → quote ≡ Some x → P (placed q flow length x)) → (o : Option Quote) → quote ≡ o → P (placed_by q flow length o)
      go k None e = no_way TagsUsedUp
      go k (Some x) e = k x e

  pub begin_cases : (rank : Rank) → (q.service.busy ≡ false → (place : ℕ) (p : Packet) → chosen_by rank q ≡ at place p → P (begun q (at place p)))
      → P (begin_by rank q)
  unfolding begin_by
  begin_cases rank ok = first_cases (refused q) P no_way (begin_grounds q) (begun q (chosen_by rank q)) (λ h. go h.0 (chosen_by rank q) refl)
    where
      go : q.service.busy ≡ false → (x : Choice Packet) → chosen_by rank q ≡ x → P (begun q x)
      go idle nothing e = no_way NothingWaits
      go idle (at place p) e = ok idle place p e

  pub end_cases : (q.service.busy ≡ true → P (ended q)) → P (end_of q)
  unfolding end_of
  end_cases ok = first_cases (refused q) P no_way (end_grounds q) (ended q) (λ h. ok (not-false q.service.busy h.0))
