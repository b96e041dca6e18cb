-- Taking a packet: where nothing waits nothing is taken; and of the flow of the packet that the fair lane chooses, that packet is taken, as it has
-- the least number of those that wait, which no other of the flow has.
use mathlib.Core.Path.{◌≡◌, refl, sym, ap, ◌∙◌, subst}
use mathlib.Core.Bool.{true, ◌&&◌}
use mathlib.Core.List.{List}
use Prim.Native.Nat.{ℕ, ◌+◌, ◌-◌, ◌*◌, ◌≤◌, ◌<◌}
use native.Mathlib.Omega.{arith}
use borrow.Author.Tests.{ltb-false}
use lib.Dec.{eqb}
use lib.ListN.{get_or, drop, length-take}
use lib.Seq.{get_or-take, get_or-drop}
use Rattle.units.specs.Limits.{place_count}
use Rattle.places.specs.Places.{places_of}
use Rattle.places.specs.Numbers.{is_this}
use Rattle.places.specs.Choice.{Choice, nothing, at, least_held, Leads}
use Rattle.places.proofs.Count.{count_le, and_le}
use Rattle.places.proofs.Least.{leads}
use Rattle.places.proofs.Numbers.{at_most_one}
use Rattle.places.proofs.Order.{not_ahead}
use Rattle.places.proofs.Stores.{at_one}
use Rattle.places.proofs.Tests.{eqb_self}
use Rattle.tags.specs.declared.Packet.{Packet as Place}
use Rattle.tags.specs.Tags.{free_packet, is_held}
use Rattle.packets.specs.declared.Queue.{Queue}
use Rattle.packets.specs.Queue.{packet_at, by_start, key_by, chosen_by}
use Rattle.promises_queue.specs.Packets.{Packet, its_flow, its_number, Packets, was_begun}
use Rattle.promises_queue.specs.Promised.{Question, holds, begun_of}
use Rattle.promises_queue.proofs.Kept.{not_begun, begun_below}
use Rattle.promises_queue.proofs.Chosen.{place_flow, Holds, unbegun}
use Rattle.promises_queue.proofs.Good.{QueueGood}
use Rattle.taking.specs.Taking.{by_number, among_all, lowest_of}
use Rattle.one_class.proofs.OneQueue.{bare_packet, bare, bare_place}

-- a flow's place without its tags, by its number among the flow's
part_at : (q : Queue) (flow i : ℕ) → i < 16 → get_or (places_of place_count flow (bare q).packets) i free_packet ≡ bare_packet (packet_at q (flow * place_count + i))
part_at q flow i l =
    get_or-take place_count (drop (flow * place_count) (bare q).packets) i free_packet l
    ∙ get_or-drop (flow * place_count) (bare q).packets i free_packet
    ∙ bare_place q (flow * place_count + i)

-- where nothing waits nothing is taken, of whatever flow
pub none_taken : (q : Queue) → chosen_by by_start q ≡ nothing → (flow : ℕ) → lowest_of (bare q) flow ≡ nothing
none_taken q e flow = go (least_held is_held by_number part) (leads is_held by_number free_packet refl part)
  where
    part : List Place
    part = places_of place_count flow (bare q).packets

    none : (i : ℕ) → is_held (packet_at q i) ≡ true → ⊥
    none = subst (Leads is_held (key_by by_start) free_packet q.packets) e (leads is_held (key_by by_start) free_packet refl q.packets)

    go : (c : Choice Place) → Leads is_held by_number free_packet part c → among_all flow c ≡ nothing
    go nothing l = refl
    go (at k x) l =
        let low : k < 16 = omega (arith, l.0, length-take place_count (drop (flow * place_count) (bare q).packets)) in
        absurd (none (flow * place_count + k) (ap is_held (sym (part_at q flow k low) ∙ l.1) ∙ l.2))

module _ {q : Queue} {h : Packets} (g : QueueGood q h) where
  -- two held places of one flow and one number are one
  one_place : (flow number i j : ℕ) (x y : Place) → Holds q i x → Holds q j y → place_flow i ≡ flow → place_flow j ≡ flow → x.number ≡ number → y.number ≡ number → j ≡ i
  one_place flow number i j x y a b fa fb na nb =
      at_one (holds this) free_packet (λ k. refl) q.packets
      (omega (
        arith,
        g.kept.tied this,
        at_most_one its_flow its_number flow number h.accepted g.ordered.numbered,
        count_le (λ (r : Packet). is_this its_flow its_number flow number r && not_begun h.moments r) (is_this its_flow its_number flow number)
            (λ r. and_le (is_this its_flow its_number flow number r) (not_begun h.moments r)) h.accepted,
      ))
      i j a.0 b.0 (is i x a fa na) (is j y b fb nb)
    where
      this : Question
      this f n l s x = eqb f flow && eqb n number

      is : (i : ℕ) (x : Place) → Holds q i x → place_flow i ≡ flow → x.number ≡ number → holds this i (packet_at q i) ≡ true
      is i x a f n = rw (a.1, a.2, f, n, eqb_self flow, eqb_self number)

  module _ (place : ℕ) (p : Place) (held : Holds q place p) (next : p.number ≡ begun_of h.moments (place_flow place)) where
    -- the next packet of a flow is the one that is taken of it
    pub next_taken : lowest_of (bare q) (place_flow place) ≡ at place (bare_packet p)
    next_taken = go (least_held is_held by_number part) (leads is_held by_number free_packet refl part)
      where
        flow : ℕ
        flow = place_flow place

        part : List Place
        part = places_of place_count flow (bare q).packets

        -- the place by its number among the flow's
        rest : ℕ
        rest = place - flow * place_count

        small : rest < 16
        small = omega arith

        whole : flow * place_count + rest ≡ place
        whole = omega arith

        there : get_or part rest free_packet ≡ bare_packet p
        there = part_at q flow rest small ∙ ap (λ (k : ℕ). bare_packet (packet_at q k)) whole ∙ ap bare_packet held.1

        go : (c : Choice Place) → Leads is_held by_number free_packet part c → among_all flow c ≡ at place (bare_packet p)
        go nothing l = absurd (l rest (ap is_held there ∙ held.2))
        go (at k x) l =
            let few : k < 16 = omega (arith, l.0, length-take place_count (drop (flow * place_count) (bare q).packets)) in
            let here = sym (part_at q flow k few) ∙ l.1 in
            let own : place_flow (flow * place_count + k) ≡ flow = omega arith in
            let y = packet_at q (flow * place_count + k) in
            let holds-y : Holds q (flow * place_count + k) y = (omega (arith, held.0, g.kept.long), refl, ap is_held here ∙ l.2) in
            let least = (not_ahead _ _ (l.3 rest (ap is_held there ∙ held.2))).0 in
            let late : begun_of h.moments flow ≤ y.number =
            ltb-false y.number (begun_of h.moments flow)
            (sym (begun_below h.moments g.ordered.in_order flow y.number)
            ∙ ap (λ (f : ℕ). was_begun h.moments f y.number) (sym own)
            ∙ unbegun g.kept (flow * place_count + k) y holds-y) in
            let same : flow * place_count + k ≡ place =
            one_place flow p.number place (flow * place_count + k) p y held holds-y refl own refl
            (omega (arith, least, late, next, ap (λ (z : Place). z.number) here, ap (λ (z : Place). z.number) there)) in
            ap (λ (z : Place). at (flow * place_count + k) z) (sym here)
            ∙ ap (λ (j : ℕ). at j (bare_packet (packet_at q j))) same
            ∙ ap (λ (z : Place). at place (bare_packet z)) held.1
