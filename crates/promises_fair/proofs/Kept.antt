-- What every call keeps of the fair lane. The lane is what the calls and answers tell: its queue is, each flow's last finish, virtual time
-- and the largest finish of all packets ended are. And what they tell keeps pace: no flow has more numbers than the largest tag, tags rise
-- with the numbers, a packet in service starts no later than it finishes, and no waiting packet starts before virtual time. Here: an opening
-- and a closing keep it.
use mathlib.Core.Path.{◌≡◌, ap, ◌∙◌}
use mathlib.Core.Bool.{false}
use mathlib.Core.List.{List, [], ◌∷◌}
use Prim.Native.Nat.{ℕ, suc, ◌+◌, ◌*◌, ◌≤◌, ◌<◌, max}
use native.Mathlib.Omega.{arith}
use lib.Dec.{ltb}
use Rattle.units.specs.Limits.{tag_limit, bad_weight}
use Rattle.units.specs.Charges.{charge_of}
use Rattle.units.specs.declared.Tag.{Tag}
use Rattle.places.specs.Numbers.{of_flow}
use Rattle.places.specs.Marks.{Mark, opens, closes, in_force}
use Rattle.tags.specs.Tags.{finish_at}
use Rattle.tags.proofs.Tags.{later_max}
use Rattle.packets.specs.Queue.{flow_at}
use Rattle.packets.specs.Calls.{opened, closed}
use Rattle.fair.specs.declared.Fair.{Fair}
use Rattle.fair.specs.Lane.{start_of}
use Rattle.fair.specs.Calls.{with_flows}
use Rattle.promises_queue.specs.Packets.{Packet, its_flow, Moment, began, ceased, finish_in}
use Rattle.promises_queue.proofs.Kept.{asked, QueueKept}
use Rattle.promises_queue.proofs.Flows.{kept_open as queue_open, kept_close as queue_close, finish_open, finish_close}
use Rattle.promises_fair.specs.Times.{last_finish, largest_ended, virtual_time}
use Rattle.promises_fair.proofs.Rising.{Rising}

-- the lane is what the calls and answers tell
pub record FairKept (u : Fair) (marks : List Mark) (ps : List Packet) (ms : List Moment) : Type 0 where
  pub queue : QueueKept u.queue marks ps ms
  pub finishes : (f : ℕ) → f < 16 → (flow_at u.queue f).finish.0 ≡ last_finish ps f
  pub time : u.time.0 ≡ virtual_time ms
  pub largest : u.largest.0 ≡ largest_ended ms

-- a packet in service finishes no earlier than it starts
abbrev pub InHand : List Packet → List Moment → Type 0
InHand ps [] = Unit {0}
InHand ps (began f n l s p ∷ ms) = s ≤ finish_in ps f n
InHand ps (ceased f n l p e w ∷ ms) = Unit {0}

-- and what they tell keeps pace
pub record Paced (ps : List Packet) (ms : List Moment) : Type 0 where
  pub few : (f : ℕ) → of_flow its_flow f ps ≤ suc tag_limit
  pub rising : Rising ps
  pub in_hand : InHand ps ms
  pub on_time : asked ps ms (λ f n l s e. ltb s (virtual_time ms)) ≡ 0

module _ {u : Fair} {marks : List Mark} {ps : List Packet} {ms : List Moment} (k : FairKept u marks ps ms) (flow : ℕ) (low : flow ≤ 15) where
  -- where a packet that is offered now starts
  pub start_told_lem : (start_of u flow).0 ≡ max (virtual_time ms) (last_finish ps flow)
  start_told_lem = later_max u.time (flow_at u.queue flow).finish ∙ rw (k.time, k.finishes flow (omega arith))

  -- and where it finishes
  pub finish_told : (bytes : ℕ)
      → finish_at (start_of u flow) bytes (flow_at u.queue flow).weight ≡ max (virtual_time ms) (last_finish ps flow) + bytes * charge_of (in_force marks flow)
  finish_told bytes = rw (start_told_lem, k.queue.weights flow (omega arith))

  -- where a flow is opened the lane is still what the calls and answers tell: the flow's last finish goes on
  pub kept_open : (weight : ℕ) → bad_weight weight ≡ false
      → FairKept (with_flows u (opened u.queue flow weight)).lane (opens flow weight ∷ marks) ps ms
  kept_open weight good =
      record {
        queue = queue_open k.queue flow low weight good;
        finishes = λ f b. ap (λ (x : Tag). x.0) (finish_open k.queue flow low weight f) ∙ k.finishes f b;
        time = k.time;
        largest = k.largest;
      }

  -- and the same where it is closed
  pub kept_close : FairKept (with_flows u (closed u.queue flow)).lane (closes flow ∷ marks) ps ms
  kept_close =
      record {
        queue = queue_close k.queue flow low;
        finishes = λ f b. ap (λ (x : Tag). x.0) (finish_close k.queue flow low f) ∙ k.finishes f b;
        time = k.time;
        largest = k.largest;
      }
