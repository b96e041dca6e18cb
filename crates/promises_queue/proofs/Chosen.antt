-- What a held place is among the packets: its packet is one that waits, of a number below its flow's count. And what begin's choice is, by
-- any rank: no waiting packet comes before it; and where its flow's first packet not begun ranks no later, its number is how many of its flow
-- were begun.
use mathlib.Core.Path.{◌≡◌, refl, sym, ap, ◌∙◌}
use mathlib.Core.Bool.{Bool, true, false, ◌&&◌, true≢false}
use mathlib.Core.List.{List}
use Prim.Native.Nat.{ℕ, ◌≤◌, ◌<◌}
use native.Mathlib.Decide.{dec_lt}
use native.Mathlib.Omega.{arith}
use borrow.Author.Tests.{eqb-true, lt-ltb, le-ltb, ltb-false, not-true}
use lib.Dec.{ltb, eqb}
use lib.ListN.{length}
use Rattle.units.specs.Limits.{place_count}
use Rattle.places.specs.Members.{Any}
use Rattle.places.specs.Places.{flow_of}
use Rattle.places.specs.Numbers.{of_flow}
use Rattle.places.specs.Choice.{Key, comes_before, at, Leads}
use Rattle.places.specs.Marks.{Mark}
use Rattle.places.proofs.Least.{leads}
use Rattle.places.proofs.Leading.{none_before, none_earlier}
use Rattle.places.proofs.Members.{none_passes, some_passes, some_map, some_gives, some_both}
use Rattle.places.proofs.Order.{by_rank, by_number}
use Rattle.places.proofs.Tests.{and_told, eqb_self}
use Rattle.places.proofs.Waiting.{some_asked}
use Rattle.tags.specs.declared.Packet.{Packet as Place}
use Rattle.tags.specs.Tags.{free_packet, is_held}
use Rattle.packets.specs.declared.Queue.{Queue}
use Rattle.packets.specs.Queue.{packet_at, Rank, key_by, chosen_by}
use Rattle.promises_queue.specs.Packets.{Packet, its_flow, Moment, finish_in, was_begun}
use Rattle.promises_queue.specs.Promised.{Question, packet_key, begun_of}
use Rattle.promises_queue.proofs.Numbers.{IsThis, has_number, has_finish}
use Rattle.promises_queue.proofs.Kept.{not_begun, asks, asked, QueueKept, Ordered, Facts, place_facts, packet_facts, asking, begun_below, packets_tied}

-- the flow of a place
abbrev pub place_flow : ℕ → ℕ
place_flow place = flow_of place_count place

-- a question asked of the packet at a place
abbrev pub asks_at : ℕ → Place → Question → Bool
asks_at place p ask = ask (place_flow place) p.number p.length p.start.0 p.finish.0

-- what begin's choice goes by
abbrev pub facts_key : Rank → Facts → Key
facts_key rank x = record { rank = rank x.3 x.4; flow = x.0; number = x.1 }

-- two packets are alike in flow, number, length and tags
abbrev pub alike : Facts → Facts → Bool
alike x y = eqb x.0 y.0 && (eqb x.1 y.1 && (eqb x.2 y.2 && (eqb x.3 y.3 && eqb x.4 y.4)))

-- a packet is like itself
pub alike_self : (x : Facts) → alike x x ≡ true
alike_self x = rw (eqb_self x.0, eqb_self x.1, eqb_self x.2, eqb_self x.3, eqb_self x.4)

-- and packets that are alike are the same in all that can be asked
pub alike_told : (x y : Facts) → alike x y ≡ true → x ≡ y
alike_told x y e =
    let f = and_told (eqb x.0 y.0) _ e in
    let n = and_told (eqb x.1 y.1) _ f.1 in
    let l = and_told (eqb x.2 y.2) _ n.1 in
    let s = and_told (eqb x.3 y.3) (eqb x.4 y.4) l.1 in
    λ i. (
      eqb-true x.0 y.0 f.0 i,
      eqb-true x.1 y.1 n.0 i,
      eqb-true x.2 y.2 l.0 i,
      eqb-true x.3 y.3 s.0 i,
      eqb-true x.4 y.4 s.1 i,
    )

-- an accepted packet is the one at a place
abbrev pub AtPlace : ℕ → Place → Packet → Type 0
AtPlace place p = IsThis (place_flow place) p.number p.length p.start.0 p.finish.0

-- and it waits
abbrev WaitsAt : List Moment → ℕ → Place → Packet → Type 0
WaitsAt ms place p a = (not_begun ms a ≡ true) × AtPlace place p a

-- an accepted packet that is the same as the one at a place is that one
at_place : (place : ℕ) (p : Place) (a : Packet) → packet_facts a ≡ place_facts place p → AtPlace place p a
at_place place p a e = (
  ap (λ (x : Facts). x.0) e,
  ap (λ (x : Facts). x.1) e,
  ap (λ (x : Facts). x.2) e,
  ap (λ (x : Facts). x.3) e,
  ap (λ (x : Facts). x.4) e,
)

-- a place is held by this packet
abbrev pub Holds : Queue → ℕ → Place → Type 0
Holds q place p = (place < length q.packets) × (packet_at q place ≡ p) × (is_held p ≡ true)

-- a packet of the flow with this number that ranks no later than r
abbrev pub Older : Rank → ℕ → ℕ → ℕ → Packet → Type 0
Older rank f m r b = (b.flow ≡ f) × (b.number ≡ m) × (rank b.start b.finish ≤ r)

module _ {q : Queue} {marks : List Mark} {ps : List Packet} {ms : List Moment} (k : QueueKept q marks ps ms) (place : ℕ) (p : Place) where
  module _ (held : Holds q place p) where
    -- what the packet at a held place answers to, some waiting packet answers to
    pub held_asked : (ask : Question) → asks_at place p ask ≡ true → 0 < asked ps ms ask
    held_asked ask =
        some_asked is_held place_facts packet_facts free_packet q.packets ps (not_begun ms) (packets_tied k) place p held.0 held.1 held.2 (asking ask)

    -- it is one of the accepted packets, and waits
    held_waits : Any (WaitsAt ms place p) ps
    held_waits =
        some_map (λ (a : Packet). (alike (packet_facts a) (place_facts place p) && not_begun ms a) ≡ true) (WaitsAt ms place p)
        (λ a t.
        let x = and_told (alike (packet_facts a) (place_facts place p)) (not_begun ms a) t in
        (x.1, at_place place p a (alike_told (packet_facts a) (place_facts place p) x.0)))
        ps (some_passes _ ps (held_asked (λ f n l s e. alike (f, n, l, s, e) (place_facts place p)) (alike_self (place_facts place p))))

    -- in its two parts: it is accepted, and it is not begun
    pub held_there : Any (AtPlace place p) ps
    held_there = some_map (WaitsAt ms place p) (AtPlace place p) (λ a w. w.1) ps held_waits

    -- its flow and number are not those of a packet begun
    pub unbegun : was_begun ms (place_flow place) p.number ≡ false
    unbegun = some_gives (WaitsAt ms place p) _ (λ a x. rw (← x.1.0, ← x.1.1) (not-true _ x.0)) ps held_waits

    module _ (t : Ordered ps ms) where
      -- its number is below its flow's count
      pub held_number : p.number < of_flow its_flow (place_flow place) ps
      held_number = has_number (place_flow place) p.number p.length p.start.0 p.finish.0 ps t.numbered held_there

      -- and its finish tag is found by flow and number
      pub held_finish : finish_in ps (place_flow place) p.number ≡ p.finish.0
      held_finish = has_finish (place_flow place) p.number p.length p.start.0 p.finish.0 ps t.numbered held_there

  module _ (rank : Rank) (e : chosen_by rank q ≡ at place p) where
    -- the place that is chosen is held, and leads
    pub lead : Leads is_held (key_by rank) free_packet q.packets (at place p)
    lead = rw e at (leads is_held (key_by rank) free_packet refl q.packets)

    -- so it is a held place
    pub chosen_held : Holds q place p
    chosen_held = (lead.0, lead.1, lead.2)

    -- the packets that come before the one chosen
    abbrev before : Question
    before f n l s x = comes_before (record { rank = rank s x; flow = f; number = n }) (key_by rank place p)

    -- no waiting packet comes before it
    not_before : asked ps ms before ≡ 0
    not_before = none_before is_held place_facts packet_facts (facts_key rank) free_packet q.packets ps (not_begun ms) (packets_tied k) place p lead

    -- no waiting packet ranks earlier
    pub none_ranks : asked ps ms (λ f n l s x. ltb (rank s x) (rank p.start.0 p.finish.0)) ≡ 0
    none_ranks = none_earlier is_held place_facts packet_facts (facts_key rank) free_packet q.packets ps (not_begun ms) (packets_tied k) place p lead

    module _
        (t : Ordered ps ms)
        (older : begun_of ms (place_flow place) < p.number
        → Any (Older rank (place_flow place) (begun_of ms (place_flow place)) (rank p.start.0 p.finish.0)) ps) where
      -- the flow's first packet not begun, if its number is smaller, would come before it
      not_older : begun_of ms (place_flow place) < p.number
          → (b : Packet) → Older rank (place_flow place) (begun_of ms (place_flow place)) (rank p.start.0 p.finish.0) b
          → (asks before b && not_begun ms b) ≡ false → ⊥
      not_older l b o f =
          let w : was_begun ms b.flow b.number ≡ false =
          begun_below ms t.in_order b.flow b.number ∙ le-ltb b.number (begun_of ms b.flow) (rw (o.0, o.1) (omega arith)) in
          let c : comes_before (packet_key rank b) (key_by rank place p) ≡ true =
          go (dec_lt (rank b.start b.finish) (rank p.start.0 p.finish.0)) in
          true≢false (rw (c, w) at f)
        where
          go : Dec (rank b.start b.finish < rank p.start.0 p.finish.0) → comes_before (packet_key rank b) (key_by rank place p) ≡ true
          go (yes s) = sym (by_rank (packet_key rank b) (key_by rank place p) s)
          go (no s) =
              sym (by_number (packet_key rank b) (key_by rank place p) (omega arith) o.2 (omega (arith, o.0)) (omega (arith, o.0)))
              ∙ lt-ltb b.number p.number (omega (arith, o.1))

      -- so it is that packet: its number is how many of its flow were begun
      pub chosen_next : p.number ≡ begun_of ms (place_flow place)
      chosen_next =
          let l : begun_of ms (place_flow place) ≤ p.number =
          ltb-false p.number (begun_of ms (place_flow place)) (sym (begun_below ms t.in_order (place_flow place) p.number) ∙ unbegun chosen_held) in
          go l (dec_lt (begun_of ms (place_flow place)) p.number)
        where
          go : begun_of ms (place_flow place) ≤ p.number → Dec (begun_of ms (place_flow place) < p.number) → p.number ≡ begun_of ms (place_flow place)
          go l (yes m) =
              let none = none_passes (λ (b : Packet). asks before b && not_begun ms b) ps not_before in
              absurd (some_gives _ _ (λ b x. not_older m b x.0 x.1) ps (some_both _ _ ps (older m) none))
          go l (no m) = omega arith
