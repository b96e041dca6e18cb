-- Each case of what a call gives, from the tests that lead to it.
use mathlib.Core.Path.{◌≡◌, refl, ap, ◌∙◌}
use mathlib.Core.Bool.{Bool, true, false}
use mathlib.Core.List.{List, [], ◌∷◌}
use Rattle.std.proofs.Common.{Option, None, Some, MatchResult}
use Rattle.std.specs.Option.{ok_or}
use Prim.Native.Nat.{ℕ, ◌*◌, ◌≤◌, ◌<◌}
use native.Mathlib.Omega.{arith}
use borrow.Author.Tests.{lt-ltb, le-ltb, le-leb, lt-leb, eq-eqb, ne_eqb}
use lib.Dec.{eqb}
use lib.ListN.{length}
use Rattle.units.specs.Limits.{place_count, bad_weight, bad_length}
use Rattle.units.specs.Refusals.{first_of, unless}
use Rattle.units.specs.declared.Refusal.TheVariants.{NoSuchFlow, AlreadyOpen, PlacesFull, TagsUsedUp, PacketInService, NothingWaits, BadWeight}
use Rattle.places.specs.Places.{count, places_of, first_free}
use Rattle.places.specs.Choice.{at, chosen_of}
use Rattle.places.proofs.Free.{none_left, free_left, part_length}
use Rattle.places.proofs.Scan.{chosen_at, chosen_none}
use Rattle.places.proofs.Least.{none_held, some_held}
use Rattle.tags.specs.declared.Packet.{Packet}
use Rattle.tags.specs.Tags.{free_packet, is_held}
use Rattle.packets.specs.declared.Queue.{Queue}
use Rattle.packets.specs.declared.Quote.{Quote}
use Rattle.packets.specs.Kept.{Kept}
use Rattle.packets.specs.Queue.{flow_at, waiting, Rank, key_by, chosen_by}
use Rattle.packets.specs.Calls.{refused_flows, refused, opened, open_of, placed, put_of, begun, begin_by}

module _ (q : Queue) (flow weight : ℕ) where
  pub open_1 : 15 < flow → refused_flows q NoSuchFlow ≡ open_of q flow weight
  unfolding open_of first_of
  open_1 h = rw (lt-ltb 15 flow h)

  module _ (h : flow ≤ 15) where
    pub open_3 : (flow_at q flow).opened ≡ true → refused_flows q AlreadyOpen ≡ open_of q flow weight
    unfolding open_of first_of
    open_3 o = rw (le-ltb 15 flow h, o)

    pub open_13 : (flow_at q flow).opened ≡ false → bad_weight weight ≡ true → refused_flows q BadWeight ≡ open_of q flow weight
    unfolding open_of first_of
    open_13 o b = rw (le-ltb 15 flow h, o, b)

    pub open_ok : (flow_at q flow).opened ≡ false → bad_weight weight ≡ false → opened q flow weight ≡ open_of q flow weight
    unfolding open_of first_of
    open_ok o b = rw (le-ltb 15 flow h, o, b)

module _ (q : Queue) (flow bytes : ℕ) (quote : Option Quote) (h : flow ≤ 15) (l : length q.packets ≡ 256)
    (o : (flow_at q flow).opened ≡ true) (b : bad_length bytes ≡ false) where
  -- the flow's places
  abbrev pub ps : List Packet
  ps = places_of place_count flow q.packets

  pub long : length ps ≡ 16
  long = part_length is_held free_packet q.packets (flow * 16) 16 (omega arith)

  pub put_5 : length ps ≤ first_free is_held ps → put_of q flow bytes quote ≡ refused q PlacesFull
  unfolding put_of first_of
  put_5 f = rw (le-ltb 15 flow h, o, b, le-leb 16 (count is_held ps) (omega (arith, long, none_left is_held ps f)))

  module _ (room : first_free is_held ps < length ps) where
    few : count is_held ps < 16
    few = omega (arith, long, free_left is_held ps room)

    pub put_6 : quote ≡ None → put_of q flow bytes quote ≡ refused q TagsUsedUp
    unfolding put_of first_of
    put_6 n = rw (le-ltb 15 flow h, o, b, lt-leb 16 (count is_held ps) few, n)

    pub put_ok : (x : Quote) → quote ≡ Some x → put_of q flow bytes quote ≡ placed q flow bytes x
    unfolding put_of first_of
    put_ok x n = rw (le-ltb 15 flow h, o, b, lt-leb 16 (count is_held ps) few, n)

module _ (rank : Rank) (q : Queue) where
  -- what begin gives, by its two tests
  by_tests : Bool → Bool → Kept
  by_tests busy none = unless (refused q) (first_of ((PacketInService, busy) ∷ (NothingWaits, none) ∷ [])) (begun q (chosen_by rank q))

  pub begin_8 : q.service.busy ≡ true → begin_by rank q ≡ refused q PacketInService
  unfolding begin_by first_of by_tests
  begin_8 o = ap (λ (t : Bool). by_tests t (eqb (waiting q) 0)) o

  module _ (o : q.service.busy ≡ false) where
    pub begin_9 : None ≡ chosen_of (chosen_by rank q) → begin_by rank q ≡ refused q NothingWaits
    unfolding begin_by first_of by_tests
    begin_9 e =
        let none = none_held is_held (key_by rank) free_packet refl q.packets (chosen_none (chosen_by rank q) e) in
        ap (λ (t : Bool). by_tests t (eqb (waiting q) 0)) o ∙ ap (by_tests false) (eq-eqb (waiting q) 0 none)

    pub begin_ok : (place : ℕ) (p : Packet) → Some (place, p) ≡ chosen_of (chosen_by rank q) → begin_by rank q ≡ begun q (at place p)
    unfolding begin_by first_of by_tests
    begin_ok place p e =
        let c = chosen_at (chosen_by rank q) place p e in
        let w = some_held is_held (key_by rank) free_packet refl q.packets place p c in
        ap (λ (t : Bool). by_tests t (eqb (waiting q) 0)) o ∙ ap (by_tests false) (ne_eqb (waiting q) 0 (λ z. omega arith)) ∙ ap (begun q) c

    -- by what the search for the first packet answers
    pub begin_first : (o : Option (ℕ × Packet)) → o ≡ chosen_of (chosen_by rank q)
        → MatchResult (ok_or o NothingWaits) (λ first. begin_by rank q ≡ begun q (at first.0 first.1)) (λ r. begin_by rank q ≡ refused q r)
    begin_first None e = begin_9 e
    begin_first (Some (place, p)) e = begin_ok place p e
