-- The begin of the packet at a held place keeps it: the packet leaves its place for the service and is the one waiting packet less; and
-- where its number is how many of its flow were begun, the flow's packets are still begun in the order of their numbers.
use mathlib.Core.Path.{◌≡◌, refl, sym, ◌∙◌}
use mathlib.Core.Bool.{Bool, true, false, not, ◌&&◌, ◌||◌}
use mathlib.Core.List.{List, ◌∷◌}
use Prim.Native.Nat.{ℕ, ◌+◌, ◌≤◌}
use native.Mathlib.Omega.{arith}
use borrow.Author.Tests.{eqb-true}
use lib.Dec.{eqb}
use lib.ListN.{length-set}
use Rattle.places.specs.Places.{bit}
use Rattle.places.specs.Choice.{at}
use Rattle.places.specs.Marks.{Mark}
use Rattle.places.specs.Numbers.{of_flow}
use Rattle.places.proofs.Leaving.{Leaves, one_less, tied_after}
use Rattle.places.proofs.Numbers.{at_most_one}
use Rattle.places.proofs.Tests.{eqb_self, eqb_swap}
use Rattle.tags.specs.declared.Packet.{Packet as Place}
use Rattle.tags.specs.Tags.{free_packet, is_held}
use Rattle.packets.specs.declared.Queue.{Queue}
use Rattle.packets.specs.Calls.{begun}
use Rattle.promises_queue.specs.Packets.{Packet, its_flow, its_number, Moment, began, was_begun}
use Rattle.promises_queue.specs.Promised.{Question, begun_of}
use Rattle.promises_queue.proofs.Kept.{not_begun, asked, QueueKept, Ordered, Facts, place_facts, packet_facts, asking, packets_tied}
use Rattle.promises_queue.proofs.Chosen.{place_flow, asks_at, Holds, held_number, held_finish}

-- the begin of the packet at a place, told by the call of this position
abbrev pub begins : ℕ → Place → ℕ → Moment
begins place p position = began (place_flow place) p.number p.length p.start.0 position

module _
    {q : Queue}
    {marks : List Mark}
    {ps : List Packet}
    {ms : List Moment}
    (k : QueueKept q marks ps ms)
    (t : Ordered ps ms)
    (place : ℕ)
    (p : Place)
    (held : Holds q place p)
    (position : ℕ) where
  -- the packet that begins
  abbrev this : Facts → Bool
  this x = eqb x.0 (place_flow place) && eqb x.1 p.number

  -- it leaves its place
  leaving : Leaves is_held place_facts packet_facts q.packets ps (not_begun ms) place p free_packet this
  leaving =
      record {
        tied = packets_tied k;
        low = held.0;
        there = held.1;
        is_held = held.2;
        is_free = refl;
        is_this = rw (eqb_self (place_flow place), eqb_self p.number);
        one = at_most_one its_flow its_number (place_flow place) p.number ps t.numbered;
      }

  -- a packet waits still if it waited and is not the one begun now
  fewer : (a : Packet) → not_begun (begins place p position ∷ ms) a ≡ (not_begun ms a && not (this (packet_facts a)))
  unfolding was_begun
  fewer a = rw (eqb_swap (place_flow place) a.flow, eqb_swap p.number a.number) (go (this (packet_facts a)) (was_begun ms a.flow a.number))
    where
      go : (q s : Bool) → not (q || s) ≡ (not s && not q)
      go true true = refl
      go true false = refl
      go false true = refl
      go false false = refl

  -- one packet less waits
  pub waits_less : (ask : Question) → asked ps (begins place p position ∷ ms) ask + bit (asks_at place p ask) ≡ asked ps ms ask
  waits_less ask = one_less leaving fewer (asking ask)

  -- the queue is still what the calls and answers tell
  pub kept_begin : QueueKept (begun q (at place p)).queue marks ps (begins place p position ∷ ms)
  kept_begin =
      record {
        sixteen = k.sixteen;
        long = length-set q.packets place free_packet ∙ k.long;
        open_flows = k.open_flows;
        weights = k.weights;
        fit = k.fit;
        next = k.next;
        tied = λ ask. tied_after leaving fewer (asking ask);
        service = (refl, refl, refl, refl, sym (held_finish k place p held t));
      }

  -- and that is still in order, where the packet is the next of its flow
  pub ordered_begin : p.number ≡ begun_of ms (place_flow place) → Ordered ps (begins place p position ∷ ms)
  unfolding begun_of
  ordered_begin next =
      record {
        numbered = t.numbered;
        in_order = (next, t.in_order);
        begun = λ f. go f (eqb (place_flow place) f) refl;
        known = held_number k place p held t;
      }
    where
      go : (f : ℕ) (b : Bool) → eqb (place_flow place) f ≡ b → bit b + begun_of ms f ≤ of_flow its_flow f ps
      go f true e = rw (← eqb-true (place_flow place) f e) (omega (arith, next, held_number k place p held t))
      go f false e = omega (arith, t.begun f)
