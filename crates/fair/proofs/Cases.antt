-- What holds of each way that a call can go holds of what the call gives.
use mathlib.Core.Path.{◌≡◌}
use mathlib.Core.Bool.{true, false}
use Prim.Native.Nat.{ℕ, ◌≤◌, ◌<◌}
use borrow.Author.Tests.{ltb-false}
use Rattle.units.specs.Limits.{tag_limit, bad_weight, bad_length}
use Rattle.units.specs.declared.Refusal.{Refusal}
use Rattle.places.specs.Choice.{at}
use Rattle.tags.specs.declared.Packet.{Packet}
use Rattle.tags.specs.Tags.{finish_at}
use Rattle.packets.specs.Kept.{Kept, Flows}
use Rattle.packets.specs.Queue.{flow_at, waiting_of, busy_with, by_start, chosen_by}
use Rattle.packets.specs.Quotes.{quote_of}
use Rattle.packets.specs.Calls.{opened, closed, placed, begun as begun_in, ended}
use Rattle.packets.proofs.Quotes.{fitting, quote_told}
use Rattle.packets.proofs.Cases.{open_cases as flows-open, close_cases as flows-close, put_cases, begin_cases as queue_begin, end_cases as queue_end}
use Rattle.fair.specs.declared.Fair.{Fair}
use Rattle.fair.specs.declared.Done.{Done}
use Rattle.fair.specs.Lane.{start_of, largest_ended}
use Rattle.fair.specs.Calls.{refused, with_flows, by_flows, with_queue, by_queue, open_of, close_of, offer_of, begun, begin_of, time_left, end_of}

module _ (u : Fair) (P : Done → Type 0) (no_way : (r : Refusal) → P (refused u r)) where
  pub open_cases : (flow weight : ℕ)
      → (flow ≤ 15 → (flow_at u.queue flow).opened ≡ false → bad_weight weight ≡ false → P (with_flows u (opened u.queue flow weight)))
      → P (open_of u flow weight)
  unfolding open_of
  open_cases flow weight ok = flows-open u.queue (λ (d : Flows). P (by_flows u d)) no_way flow weight ok

  pub close_cases : (flow : ℕ)
      → (flow ≤ 15 → waiting_of u.queue flow ≤ 0 → busy_with u.queue.service flow ≡ false → P (with_flows u (closed u.queue flow)))
      → P (close_of u flow)
  unfolding close_of
  close_cases flow ok = flows-close u.queue (λ (d : Flows). P (by_flows u d)) no_way flow ok

  -- an accepted packet has the tags of its quote
  pub offer_cases : (flow length : ℕ)
      → (flow ≤ 15 → (flow_at u.queue flow).opened ≡ true → bad_length length ≡ false → waiting_of u.queue flow < 16
      → finish_at (start_of u flow) length (flow_at u.queue flow).weight ≤ tag_limit → (flow_at u.queue flow).next ≤ tag_limit
      → P (with_queue u.time u.largest (placed u.queue flow length (fitting (flow_at u.queue flow) u.time length))))
      → P (offer_of u flow length)
  unfolding offer_of
  offer_cases flow length ok =
      let was = flow_at u.queue flow in
      put_cases u.queue (λ (d : Kept). P (by_queue u u.time u.largest d)) no_way flow length (quote_of was u.time length)
      (λ low o good room x e.
      let t = quote_told was u.time length good x e in
      rw t.2 (ok low o good room (ltb-false _ _ t.0) (ltb-false _ _ t.1)))

  pub begin_cases : (u.queue.service.busy ≡ false → (place : ℕ) (p : Packet) → chosen_by by_start u.queue ≡ at place p
      → P (with_queue p.start u.largest (begun_in u.queue (at place p))))
      → P (begin_of u)
  unfolding begin_of
  begin_cases ok = queue_begin u.queue (λ (d : Kept). P (begun u d)) no_way by_start ok

  pub end_cases : (u.queue.service.busy ≡ true → P (with_queue (time_left u) (largest_ended u) (ended u.queue))) → P (end_of u)
  unfolding end_of
  end_cases ok = queue_end u.queue (λ (d : Kept). P (by_queue u (time_left u) (largest_ended u) d)) no_way ok
