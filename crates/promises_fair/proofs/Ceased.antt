-- An end keeps it: virtual time stays, and where none waits it becomes the largest finish tag of all packets ended.
use mathlib.Core.Path.{◌≡◌, refl, sym, ◌∙◌, subst}
use mathlib.Core.Bool.{Bool, true, false, cond, ◌&&◌, true≢false}
use mathlib.Core.List.{List, [], ◌∷◌}
use Prim.Native.Nat.{ℕ, ◌≤◌, max}
use native.Mathlib.Omega.{arith}
use borrow.Author.Tests.{eqb-true}
use lib.Dec.{ltb, eqb}
use Rattle.places.specs.Places.{count}
use Rattle.places.specs.Marks.{Mark}
use Rattle.places.proofs.Count.{count_le, and_le_right}
use Rattle.tags.proofs.Tags.{later_max}
use Rattle.packets.specs.declared.Service.{Service}
use Rattle.packets.specs.Calls.{ended}
use Rattle.fair.specs.declared.Fair.{Fair}
use Rattle.fair.specs.Lane.{largest_ended as largest_of}
use Rattle.fair.specs.Calls.{with_queue, time_left}
use Rattle.promises_queue.specs.Packets.{Packet, Moment, began, ceased, was_begun}
use Rattle.promises_queue.specs.Promised.{Question}
use Rattle.promises_queue.proofs.Kept.{not_begun, asks, asked, Serves, waiting_all}
use Rattle.promises_queue.proofs.Ceased.{finish_of_this, ends, finish_served, kept_end as queue_end}
use Rattle.promises_fair.specs.Times.{last_start, largest_ended, virtual_time}
use Rattle.promises_fair.proofs.Kept.{FairKept, InHand, Paced}

-- while a packet is in service, virtual time is the start tag of the packet last begun and no larger than its finish
pub record InService (v : Service) (ps : List Packet) (ms : List Moment) : Type 0 where
  pub start : virtual_time ms ≡ last_start ms
  pub late : virtual_time ms ≤ finish_of_this v ps

-- so it is while the service is busy
pub in_service : (v : Service) (ps : List Packet) (ms : List Moment) → v.busy ≡ true → Serves v ps ms → InHand ps ms → InService v ps ms
unfolding virtual_time last_start
in_service v ps [] b s h = absurd (true≢false (sym b ∙ s))
in_service v ps (began f n l x p ∷ ms) b s h = record { start = refl; late = rw (s.1, s.2) h }
in_service v ps (ceased f n l p x w ∷ ms) b s h = absurd (true≢false (sym b ∙ s))

module _
    {u : Fair}
    {marks : List Mark}
    {ps : List Packet}
    {ms : List Moment}
    (k : FairKept u marks ps ms)
    (paced : Paced ps ms)
    (busy : u.queue.service.busy ≡ true)
    (position : ℕ) where
  -- the packet that ends
  this : InService u.queue.service ps ms
  this = in_service u.queue.service ps ms busy k.queue.service paced.in_hand

  -- the largest finish tag of all packets ended, with this one
  largest : ℕ
  largest = max (finish_of_this u.queue.service ps) (largest_ended ms)

  -- as the lane has it
  largest_told : (largest_of u).0 ≡ largest
  unfolding largest
  largest_told =
      omega (arith, later_max u.largest u.queue.service.finish, k.largest, finish_served u.queue.service ps ms busy k.queue.service)

  -- the lane is still what the calls and answers tell
  pub kept_end : FairKept (with_queue (time_left u) (largest_of u) (ended u.queue)).lane marks ps (ends u.queue.service ps ms position ∷ ms)
  unfolding virtual_time largest_ended largest
  kept_end =
      record {
        queue = queue_end k.queue position;
        finishes = k.finishes;
        time = rw (waiting_all k.queue) (go (eqb (count (not_begun ms) ps) 0));
        largest = largest_told;
      }
    where
      go : (b : Bool) → (cond b (largest_of u) u.time).0 ≡ cond b largest (last_start ms)
      go true = largest_told
      go false = k.time ∙ this.start

  -- and that still keeps pace
  pub paced_end : Paced ps (ends u.queue.service ps ms position ∷ ms)
  unfolding virtual_time largest_ended was_begun largest
  paced_end =
      record { few = paced.few; rising = paced.rising; in_hand = tt; on_time = go (eqb (count (not_begun ms) ps) 0) refl }
    where
      -- a packet starts before v
      earlier : ℕ → Question
      earlier v f n l s x = ltb s v

      go : (b : Bool) → eqb (count (not_begun ms) ps) 0 ≡ b → asked ps ms (earlier (cond b largest (last_start ms))) ≡ 0
      go true q =
          omega (
            arith,
            eqb-true (count (not_begun ms) ps) 0 q,
            count_le (λ (a : Packet). asks (earlier largest) a && not_begun ms a) (not_begun ms) (λ a. and_le_right (asks (earlier largest) a) (not_begun ms a)) ps,
          )
      go false q = subst (λ (v : ℕ). asked ps ms (earlier v) ≡ 0) this.start paced.on_time
