-- How many packets of a flow wait: sixteen at most; one more after an offer, one less after a begin. And how many were accepted: those begun
-- and those that wait.
use mathlib.Core.Path.{◌≡◌, refl, sym, ◌∙◌}
use mathlib.Core.Bool.{Bool, true, false, not, ◌&&◌}
use mathlib.Core.List.{List, [], ◌∷◌}
use Prim.Native.Nat.{ℕ, ◌+◌, ◌*◌, ◌≤◌, ◌<◌}
use native.Mathlib.Decide.{dec_lt}
use native.Mathlib.Omega.{arith}
use borrow.Author.Tests.{eqb-true, ne_eqb, le-ltb, ltb-true}
use lib.Dec.{eqb, ltb}
use Rattle.units.specs.Limits.{place_count}
use Rattle.units.specs.declared.Tag.{Tag}
use Rattle.places.specs.Places.{bit, count, places_of}
use Rattle.places.specs.Numbers.{of_flow}
use Rattle.places.proofs.Count.{count_le_length}
use Rattle.places.proofs.CountAt.{at_none}
use Rattle.places.proofs.Free.{part_length}
use Rattle.places.proofs.Numbers.{head_number}
use Rattle.places.proofs.Tests.{eqb_self}
use Rattle.tags.specs.declared.Packet.{Packet as Place}
use Rattle.tags.specs.Tags.{free_packet, is_held}
use Rattle.packets.specs.declared.Queue.{Queue}
use Rattle.packets.specs.Queue.{flow_at, packet_at}
use Rattle.promises_queue.specs.Packets.{Packet, Moment, its_flow, its_number, was_begun}
use Rattle.promises_queue.specs.Promised.{holds, begun_of, InOrder, PacketsNumbered}
use Rattle.promises_queue.specs.Refused.{waiting_in}
use Rattle.promises_queue.proofs.Kept.{asked, waiting_told, begun_below}
use Rattle.promises_queue.proofs.Chosen.{place_flow, Holds}
use Rattle.promises_queue.proofs.Began.{waits_less}
use Rattle.promises_queue.proofs.Good.{QueueGood}
use Rattle.promises_classes.specs.Events.{History, accepted, began, packets_in}

-- those accepted are no more than those begun and those that wait
accepted_few : (f : ℕ) (ms : List Moment) → InOrder ms → (ps : List Packet) → PacketsNumbered ps
    → of_flow its_flow f ps ≤ begun_of ms f + asked ps ms (λ g n l s e. eqb g f)
unfolding count
accepted_few f ms o [] k = omega arith
accepted_few f ms o (a ∷ rest) k = go (eqb a.flow f) refl (was_begun ms a.flow a.number) refl (accepted_few f ms o rest k.1)
  where
    go : (t : Bool) → eqb a.flow f ≡ t → (b : Bool) → was_begun ms a.flow a.number ≡ b
        → of_flow its_flow f rest ≤ begun_of ms f + asked rest ms (λ g n l s e. eqb g f)
        → bit t + of_flow its_flow f rest ≤ begun_of ms f + (bit (t && not b) + asked rest ms (λ g n l s e. eqb g f))
    go true p true q i =
        let e = eqb-true a.flow f p in
        let n = head_number its_flow its_number f a rest k e in
        let w : ltb a.number (begun_of ms f) ≡ true = sym (begun_below ms o f a.number) ∙ (rw e at q) in
        let l = ltb-true a.number (begun_of ms f) w in
        omega (arith, n, l)
    go true p false q i = omega (arith, i)
    go false p b q i = omega (arith, i)

module _ (q : Queue) (h : History) (g : QueueGood q (packets_in h)) where
  -- of no flow that is not there any packet waits
  none_past : (i : ℕ) → (i < 16 → ⊥) → waiting_in (packets_in h) i ≡ 0
  none_past i n =
      sym (g.kept.tied (λ f m l s e. eqb f i))
      ∙ at_none (holds (λ f m l s e. eqb f i)) free_packet 0 q.packets
      (λ j l.
      let o : place_flow (0 + j) ≡ i → ⊥ = λ e. omega (arith, l, e, n, g.kept.long) in
      rw (ne_eqb (place_flow (0 + j)) i o) (go (packet_at q j).held))
    where
      go : (b : Bool) → (b && false) ≡ false
      go true = refl
      go false = refl

  -- and of each flow sixteen at most
  pub few : (i : ℕ) → waiting_in (packets_in h) i ≤ 16
  few i = go (dec_lt i 16)
    where
      go : Dec (i < 16) → waiting_in (packets_in h) i ≤ 16
      go (yes l) =
          let e = waiting_told g.kept i l in
          let c = count_le_length is_held (places_of place_count i q.packets) in
          let z = part_length is_held free_packet q.packets (i * 16) 16 (omega (arith, l, g.kept.long)) in
          omega (arith, e, c, z)
      go (no n) = let e = none_past i n in omega (arith, e)

  -- a flow's next number is how many of it were begun and sixteen more at most
  pub next_few : (f : ℕ) → f < 16 → (flow_at q f).next ≤ begun_of (packets_in h).moments f + 16
  next_few f l =
      let e = g.kept.next f l in
      let a = accepted_few f (packets_in h).moments g.ordered.in_order (packets_in h).accepted g.ordered.numbered in
      let w = few f in
      omega (arith, e, a, w)

  -- a packet that is offered waits, and is one of its flow's
  offer_waits : (f bytes i : ℕ) → f < 16
      → waiting_in (packets_in (accepted f (flow_at q f).next bytes ∷ h)) i ≡ bit (eqb f i) + waiting_in (packets_in h) i
  unfolding packets_in count
  offer_waits f bytes i l =
      let n = g.kept.next f l in
      let b = g.ordered.begun f in
      let w : was_begun (packets_in h).moments f (flow_at q f).next ≡ false =
      begun_below (packets_in h).moments g.ordered.in_order f (flow_at q f).next
      ∙ le-ltb (flow_at q f).next (begun_of (packets_in h).moments f) (omega (arith, n, b)) in
      rw w (go (eqb f i))
    where
      go : (b : Bool) → bit (b && true) + waiting_in (packets_in h) i ≡ bit b + waiting_in (packets_in h) i
      go true = refl
      go false = refl

  -- after an offer one more of the flow waits
  pub offer_more : (f bytes : ℕ) → f < 16 → waiting_in (packets_in (accepted f (flow_at q f).next bytes ∷ h)) f ≡ waiting_in (packets_in h) f + 1
  offer_more f bytes l = let e = rw (eqb_self f) at (offer_waits f bytes f l) in omega (arith, e)

  -- and of the others as many as before
  pub offer_others : (f bytes : ℕ) → f < 16 → (i : ℕ) → (f ≡ i → ⊥)
      → waiting_in (packets_in (accepted f (flow_at q f).next bytes ∷ h)) i ≡ waiting_in (packets_in h) i
  offer_others f bytes l i n = let e = rw (ne_eqb f i n) at (offer_waits f bytes i l) in omega (arith, e)

  module _ (place : ℕ) (x : Place) (held : Holds q place x) (start : Tag) where
    -- a packet that is begun waits no more
    begin_waits : (i : ℕ)
        → waiting_in (packets_in (began (place_flow place) x.number x.length start ∷ h)) i + bit (eqb (place_flow place) i) ≡ waiting_in (packets_in h) i
    unfolding packets_in was_begun
    begin_waits i = waits_less g.kept g.ordered place x held (packets_in h).calls (λ f n l s e. eqb f i)

    -- after a begin one less of the flow waits
    pub begin_less : waiting_in (packets_in (began (place_flow place) x.number x.length start ∷ h)) (place_flow place) + 1 ≡ waiting_in (packets_in h) (place_flow place)
    begin_less = rw (eqb_self (place_flow place)) at (begin_waits (place_flow place))

    -- and of the others as many as before
    pub begin_others : (i : ℕ) → (place_flow place ≡ i → ⊥)
        → waiting_in (packets_in (began (place_flow place) x.number x.length start ∷ h)) i ≡ waiting_in (packets_in h) i
    begin_others i n = let e = rw (ne_eqb (place_flow place) i n) at (begin_waits i) in omega (arith, e)
