-- A begin keeps it: the packet that begins starts no earlier than virtual time, which becomes its start tag, finishes later than it starts,
-- and is the next of its flow; no packet waits that starts earlier.
use mathlib.Core.Path.{◌≡◌, refl}
use mathlib.Core.Bool.{Bool, true, false}
use mathlib.Core.List.{List, ◌∷◌}
use Prim.Native.Nat.{ℕ, ◌≤◌}
use native.Mathlib.Omega.{arith}
use borrow.Author.Tests.{ltb-false}
use lib.Dec.{ltb}
use Rattle.places.specs.Choice.{at}
use Rattle.places.specs.Marks.{Mark}
use Rattle.tags.specs.declared.Packet.{Packet as Place}
use Rattle.packets.specs.Queue.{by_start, chosen_by}
use Rattle.packets.specs.Calls.{begun}
use Rattle.fair.specs.declared.Fair.{Fair}
use Rattle.fair.specs.Calls.{with_queue}
use Rattle.promises_queue.specs.Packets.{Packet, Moment}
use Rattle.promises_queue.specs.Promised.{begun_of}
use Rattle.promises_queue.proofs.Kept.{Ordered}
use Rattle.promises_queue.proofs.Chosen.{place_flow, Holds, held_asked, held_there, held_finish, chosen_held, none_ranks, chosen_next}
use Rattle.promises_queue.proofs.Began.{begins, waits_less, kept_begin as queue_begin}
use Rattle.promises_fair.specs.Times.{largest_ended, virtual_time}
use Rattle.promises_fair.proofs.Rising.{has_tags, has_older}
use Rattle.promises_fair.proofs.Kept.{FairKept, Paced}

module _
    {u : Fair}
    {marks : List Mark}
    {ps : List Packet}
    {ms : List Moment}
    (k : FairKept u marks ps ms)
    (t : Ordered ps ms)
    (paced : Paced ps ms)
    (place : ℕ)
    (p : Place)
    (e : chosen_by by_start u.queue ≡ at place p) where
  -- the place that is chosen is held
  held : Holds u.queue place p
  held = chosen_held k.queue place p by_start e

  -- the packet starts no earlier than virtual time
  pub begins_late : virtual_time ms ≤ p.start.0
  begins_late = go (ltb p.start.0 (virtual_time ms)) refl
    where
      go : (b : Bool) → ltb p.start.0 (virtual_time ms) ≡ b → virtual_time ms ≤ p.start.0
      go true q = absurd (omega (arith, paced.on_time, held_asked k.queue place p held (λ f n l s x. ltb s (virtual_time ms)) q))
      go false q = ltb-false p.start.0 (virtual_time ms) q

  -- its number is how many of its flow were begun, as tags rise with the numbers
  pub begins_next : p.number ≡ begun_of ms (place_flow place)
  begins_next =
      chosen_next k.queue place p by_start e t
      (has_older (place_flow place) p.number p.length p.start.0 p.finish.0 ps t.numbered paced.rising (held_there k.queue place p held)
      (begun_of ms (place_flow place)))

  module _ (position : ℕ) where
    -- the lane is still what the calls and answers tell
    pub kept_begin : FairKept (with_queue p.start u.largest (begun u.queue (at place p))).lane marks ps (begins place p position ∷ ms)
    unfolding virtual_time largest_ended
    kept_begin =
        record { queue = queue_begin k.queue t place p held position; finishes = k.finishes; time = refl; largest = k.largest }

    -- and that still keeps pace
    pub paced_begin : Paced ps (begins place p position ∷ ms)
    unfolding virtual_time
    paced_begin =
        let tags = has_tags (place_flow place) p.number p.length p.start.0 p.finish.0 ps paced.rising (held_there k.queue place p held) in
        record {
          few = paced.few;
          rising = paced.rising;
          in_hand = omega (arith, tags, held_finish k.queue place p held t);
          on_time = omega (arith, waits_less k.queue t place p held position (λ f n l s x. ltb s p.start.0), none_ranks k.queue place p by_start e);
        }
