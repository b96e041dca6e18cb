-- The flow's waiting packet of least number: its place is held and one of the flow's, and its number is how many of the flow were begun.
use mathlib.Core.Path.{◌≡◌, refl, sym, ap, ◌∙◌}
use mathlib.Core.Bool.{Bool, true, false, ◌&&◌, true≢false, false≢true}
use mathlib.Core.List.{List, []}
use Prim.Native.Nat.{ℕ, ◌+◌, ◌*◌, ◌-◌, ◌≤◌, ◌<◌}
use native.Mathlib.Decide.{dec_lt}
use native.Mathlib.Omega.{arith}
use borrow.Author.Tests.{eqb-true, le-ltb, ltb-false}
use lib.Dec.{eqb}
use lib.ListN.{length, get_or, take, drop, drop_of_length-le}
use Rattle.units.specs.Limits.{place_count}
use Rattle.places.specs.Places.{places_of}
use Rattle.places.specs.Numbers.{of_flow}
use Rattle.places.specs.Choice.{comes_before, Choice, nothing, at, least, least_held, Leads}
use Rattle.places.proofs.Free.{part_at, part_length}
use Rattle.places.proofs.Least.{leads, none_held}
use Rattle.places.proofs.Members.{none_passes, some_gives, some_both}
use Rattle.places.proofs.Numbers.{some_below}
use Rattle.places.proofs.Order.{by_rank}
use Rattle.places.proofs.Stores.{place_flow_lem}
use Rattle.places.proofs.Tests.{and_told, eqb_self}
use Rattle.places.proofs.Waiting.{none_asked}
use Rattle.tags.specs.declared.Packet.{Packet as Place}
use Rattle.tags.specs.Tags.{free_packet, is_held}
use Rattle.packets.specs.declared.Queue.{Queue}
use Rattle.packets.specs.Queue.{packet_at, waiting_of}
use Rattle.taking.specs.Taking.{by_number, among_all, lowest_of, is_none}
use Rattle.promises_queue.specs.Packets.{Packet, Packets, its_flow, its_number, was_begun}
use Rattle.promises_queue.specs.Promised.{begun_of}
use Rattle.promises_queue.proofs.Kept.{not_begun, Facts, place_facts, packet_facts, begun_below, packets_tied}
use Rattle.promises_queue.proofs.Chosen.{place_flow, Holds, unbegun, held_number}
use Rattle.promises_queue.proofs.Good.{QueueGood}

-- what the packet of least number is among the places
pub record Lowest (q : Queue) (f place : ℕ) (x : Place) : Type 0 where
  pub known : f < 16
  pub own : place_flow place ≡ f
  pub held : Holds q place x
  pub least : (i : ℕ) → place_flow i ≡ f → is_held (packet_at q i) ≡ true → x.number ≤ (packet_at q i).number

module _ (q : Queue) (long : length q.packets ≡ 256) where
  -- a flow that is none of the sixteen has no packet
  no_flow : (f : ℕ) → 15 < f → lowest_of q f ≡ nothing
  unfolding least
  no_flow f l =
      let d : drop (f * 16) q.packets ≡ [] = drop_of_length-le q.packets {i = f * 16} (omega (arith, long, l)) in
      ap (λ (xs : List Place). among_all f (least_held is_held by_number (take 16 xs))) d

  module _ (f : ℕ) (low : f < 16) where
    -- the flow's sixteen places
    abbrev places : List Place
    places = places_of place_count f q.packets

    -- they are all there
    room : f * 16 + 16 ≤ length q.packets
    room = omega (arith, low, long)

    -- and stand among all from the flow's first on
    stands : (k : ℕ) → k < 16 → get_or (places_of place_count f q.packets) k free_packet ≡ packet_at q (f * 16 + k)
    stands = part_at is_held free_packet q.packets (f * 16) 16 room

    -- the choice among them, told among all
    among : (k : ℕ) (x : Place) → Leads is_held by_number free_packet (places_of place_count f q.packets) (at k x) → Lowest q f (f * 16 + k) x
    among k x led =
        record {
          known = low;
          own = place_flow_lem 16 f k inside;
          held = (omega (arith, inside, room), sym (stands k inside) ∙ led.1, led.2);
          least = λ i o h.
              let j : i - f * 16 < 16 = omega (arith, o) in
              let s : f * 16 + (i - f * 16) ≡ i = omega (arith, o) in
              let w : get_or places (i - f * 16) free_packet ≡ packet_at q i = stands (i - f * 16) j ∙ ap (packet_at q) s in
              ap_le (ap (λ (y : Place). y.number) w) (no_lower k x (i - f * 16) (get_or places (i - f * 16) free_packet) (led.3 (i - f * 16) (ap is_held w ∙ h)));
        }
      where
        inside : k < 16
        inside = omega (arith, led.0, part_length is_held free_packet q.packets (f * 16) 16 room)

        ap_le : {a b : ℕ} → a ≡ b → x.number ≤ a → x.number ≤ b
        ap_le e l = omega (arith, e, l)

        no_lower : (k : ℕ) (x : Place) (i : ℕ) (y : Place) → comes_before (by_number i y) (by_number k x) ≡ false → x.number ≤ y.number
        no_lower k x i y e = go (dec_lt y.number x.number)
          where
            go : Dec (y.number < x.number) → x.number ≤ y.number
            go (yes l) = absurd (true≢false (by_rank (by_number i y) (by_number k x) l ∙ e))
            go (no l) = omega (arith, l)

    -- a choice among a flow's places that is one among all
    amongst : (place : ℕ) (x : Place) (o : Choice Place) → Leads is_held by_number free_packet (places_of place_count f q.packets) o
        → among_all f o ≡ at place x → Lowest q f place x
    amongst place x nothing led e = absurd (true≢false (ap is_none e))
    amongst place x (at k y) led e =
        let a : f * 16 + k ≡ place = ap place_in e in
        let b : y ≡ x = ap packet_in e in
        rw (a, b) at (among k y led)
      where
        place_in : Choice Place → ℕ
        place_in nothing = 0
        place_in (at j z) = j

        packet_in : Choice Place → Place
        packet_in nothing = x
        packet_in (at j z) = z

  -- the packet that is found is the least
  pub lowest_is : (f place : ℕ) (x : Place) → lowest_of q f ≡ at place x → Lowest q f place x
  lowest_is f place x e = go (dec_lt f 16)
    where
      go : Dec (f < 16) → Lowest q f place x
      go (yes low) =
          amongst f low place x (least_held is_held by_number (places_of place_count f q.packets))
          (leads is_held by_number free_packet refl (places_of place_count f q.packets)) e
      go (no n) = absurd (true≢false (ap is_none (sym (no_flow f (omega (arith, n))) ∙ e)))

  -- where none is found nothing of the flow waits
  pub lowest_none : (f : ℕ) → lowest_of q f ≡ nothing → waiting_of q f ≡ 0
  lowest_none f e = none_held is_held by_number free_packet refl (places_of place_count f q.packets) (go (least_held is_held by_number (places_of place_count f q.packets)) e)
    where
      go : (o : Choice Place) → among_all f o ≡ nothing → o ≡ nothing
      go nothing z = refl
      go (at k y) z = absurd (false≢true (ap is_none z))

module _ {q : Queue} {h : Packets} (g : QueueGood q h) {f place : ℕ} {x : Place} (w : Lowest q f place x) where
  -- were its number larger, the flow's packet of this number would be held at a place of the flow
  not_larger : begun_of h.moments f < x.number → ⊥
  not_larger l =
      let below : begun_of h.moments f < of_flow its_flow f h.accepted =
      omega (arith, l, rw w.own at (held_number g.kept place x w.held g.ordered)) in
      some_gives _ _ (λ a t. not_here a t.0 t.1) h.accepted
      (some_both _ _ h.accepted (some_below its_flow its_number f (begun_of h.moments f) h.accepted g.ordered.numbered below)
      (none_passes _ h.accepted
      (none_asked is_held place_facts packet_facts free_packet q.packets h.accepted (not_begun h.moments) (packets_tied g.kept) this not_held)))
    where
      -- the packet of this number
      this : Facts → Bool
      this z = eqb z.0 f && eqb z.1 (begun_of h.moments f)

      not_held : (i : ℕ) → is_held (packet_at q i) ≡ true → this (place_facts i (packet_at q i)) ≡ false
      not_held i d = go (this (place_facts i (packet_at q i))) refl
        where
          go : (t : Bool) → this (place_facts i (packet_at q i)) ≡ t → t ≡ false
          go true e =
              let b = and_told (eqb (place_flow i) f) (eqb (packet_at q i).number (begun_of h.moments f)) e in
              let m = w.least i (eqb-true (place_flow i) f b.0) d in
              let n = eqb-true (packet_at q i).number (begun_of h.moments f) b.1 in
              absurd (omega (arith, l, m, n))
          go false e = refl

      not_here : (a : Packet) → (a.flow ≡ f) × (a.number ≡ begun_of h.moments f) → (this (packet_facts a) && not_begun h.moments a) ≡ false → ⊥
      not_here a t e =
          let u : was_begun h.moments f (begun_of h.moments f) ≡ false =
          begun_below h.moments g.ordered.in_order f (begun_of h.moments f)
          ∙ le-ltb (begun_of h.moments f) (begun_of h.moments f) (omega arith) in
          true≢false (rw (t.0, t.1, eqb_self f, eqb_self (begun_of h.moments f), u) at e)

  -- its number is how many of its flow were begun
  pub lowest_next : x.number ≡ begun_of h.moments f
  lowest_next =
      let n : begun_of h.moments f ≤ x.number =
      rw w.own at
      (ltb-false x.number (begun_of h.moments (place_flow place))
      (sym (begun_below h.moments g.ordered.in_order (place_flow place) x.number) ∙ unbegun g.kept place x w.held)) in
      go n (dec_lt (begun_of h.moments f) x.number)
    where
      go : begun_of h.moments f ≤ x.number → Dec (begun_of h.moments f < x.number) → x.number ≡ begun_of h.moments f
      go n (yes l) = absurd (not_larger l)
      go n (no l) = omega (arith, n, l)
