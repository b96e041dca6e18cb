-- An accepted offer keeps it: the packet starts at virtual time or where its flow's packet before it finishes, whichever is later, and
-- finishes later than it starts.
use mathlib.Core.Path.{◌≡◌, refl, sym, ap, ◌∙◌}
use mathlib.Core.Bool.{Bool, true, false, cond}
use mathlib.Core.List.{List, [], ◌∷◌}
use Prim.Native.Nat.{ℕ, suc, ◌+◌, ◌*◌, ◌≤◌, ◌<◌}
use native.Mathlib.Nat.{mul-le-mul}
use native.Mathlib.Omega.{arith}
use borrow.Author.Tests.{eqb-true, le-ltb}
use lib.Dec.{eqb}
use Rattle.units.specs.Limits.{tag_limit, bad_length}
use Rattle.units.specs.Charges.{charge_of}
use Rattle.units.specs.declared.Tag.{Tag}
use Rattle.units.proofs.Limits.{inside}
use Rattle.units.proofs.Charges.{charge_least}
use Rattle.places.specs.Places.{bit, count}
use Rattle.places.specs.Numbers.{of_flow}
use Rattle.places.specs.Marks.{Mark, in_force}
use Rattle.packets.specs.declared.Quote.{Quote}
use Rattle.packets.specs.Queue.{flow_at, waiting_of}
use Rattle.packets.specs.Calls.{placed}
use Rattle.packets.proofs.Quotes.{fitting}
use Rattle.fair.specs.declared.Fair.{Fair}
use Rattle.fair.specs.Lane.{start_of}
use Rattle.fair.specs.Calls.{with_queue}
use Rattle.promises_queue.specs.Packets.{Packet, its_flow, Moment, began, ceased}
use Rattle.promises_queue.specs.Promised.{PacketsNumbered}
use Rattle.promises_queue.proofs.Numbers.{finish_stays}
use Rattle.promises_queue.proofs.Kept.{Known, Ordered}
use Rattle.promises_queue.proofs.Put.{new_packet, numbered_put, finish_put, kept_put}
use Rattle.promises_fair.specs.Times.{last_finish, virtual_time}
use Rattle.promises_fair.proofs.Kept.{FairKept, InHand, Paced, start_told_lem, finish_told}

-- the tags that virtual time gives the packet
abbrev pub stamp : Fair → ℕ → ℕ → Quote
stamp u flow bytes = fitting (flow_at u.queue flow) u.time bytes

-- the packet as the history has it, offered by the call of this position
abbrev pub offered : Fair → List Mark → ℕ → ℕ → ℕ → Packet
offered u marks flow bytes position = new_packet u.queue marks flow bytes (stamp u flow bytes) position

-- a packet with the flow's next number leaves the packet in service as it is
hand_more : (a : Packet) (ps : List Packet) → PacketsNumbered (a ∷ ps) → (ms : List Moment) → Known ps ms → InHand ps ms → InHand (a ∷ ps) ms
hand_more a ps k [] h s = tt
hand_more a ps k (began f n l b p ∷ ms) h s = omega (arith, s, finish_stays f n a ps k h)
hand_more a ps k (ceased f n l p e w ∷ ms) h s = tt

module _
    {u : Fair}
    {marks : List Mark}
    {ps : List Packet}
    {ms : List Moment}
    (k : FairKept u marks ps ms)
    (t : Ordered ps ms)
    (flow bytes : ℕ)
    (low : flow ≤ 15)
    (o : (flow_at u.queue flow).opened ≡ true)
    (few : (flow_at u.queue flow).next ≤ tag_limit)
    (position : ℕ) where
  -- a packet costs something
  cost : bad_length bytes ≡ false → 1 ≤ bytes * charge_of (in_force marks flow)
  cost good =
      mul-le-mul (inside bytes 1500 good).0 (charge_least (in_force marks flow) (k.queue.fit flow (sym (k.queue.open_flows flow (omega arith)) ∙ o)))

  -- what the calls and answers tell still keeps pace
  pub paced_offer : Paced ps ms → bad_length bytes ≡ false → Paced (offered u marks flow bytes position ∷ ps) ms
  unfolding count
  paced_offer paced good =
      let start = start_told_lem k flow low in
      record {
        few = λ f. go f (eqb flow f) refl;
        rising = (omega (arith, start), omega (arith, start, finish_told k flow low bytes, cost good), paced.rising);
        in_hand = hand_more _ ps (numbered_put k.queue t flow low bytes (stamp u flow bytes) position) ms t.known paced.in_hand;
        on_time = rw (le-ltb (start_of u flow).0 (virtual_time ms) (omega (arith, start))) (omega (arith, paced.on_time));
      }
    where
      go : (f : ℕ) (b : Bool) → eqb flow f ≡ b → bit b + of_flow its_flow f ps ≤ suc tag_limit
      go f true p = rw (← eqb-true flow f p) (omega (arith, k.queue.next flow (omega arith)))
      go f false p = omega (arith, paced.few f)

  -- and the lane is still what they tell
  pub kept_offer : waiting_of u.queue flow < 16
      → FairKept (with_queue u.time u.largest (placed u.queue flow bytes (stamp u flow bytes))).lane marks (offered u marks flow bytes position ∷ ps) ms
  unfolding last_finish
  kept_offer room =
      record {
        queue = kept_put k.queue t flow low bytes (stamp u flow bytes) position o room few;
        finishes = λ f b. ap (λ (x : Tag). x.0) (finish_put k.queue t flow low bytes (stamp u flow bytes) position f) ∙ go f b (eqb flow f);
        time = k.time;
        largest = k.largest;
      }
    where
      go : (f : ℕ) → f < 16 → (b : Bool)
          → (cond b (stamp u flow bytes).finish (flow_at u.queue f).finish).0 ≡ cond b (offered u marks flow bytes position).finish (last_finish ps f)
      go f l true = refl
      go f l false = k.finishes f l
