-- A turn keeps it too, in two steps: the cell that is sent leaves its place and is told as sent; then the cells whose last slot it
-- was leave theirs, and time goes on.
use mathlib.Core.Path.{◌≡◌, refl, sym, ap, ◌∙◌}
use mathlib.Core.Bool.{Bool, true, false, not, cond, ◌&&◌, ◌||◌}
use mathlib.Core.List.{List, ◌∷◌}
use Prim.Native.Nat.{ℕ, suc, ◌+◌, ◌≤◌, ◌<◌, zero-le}
use native.Mathlib.Omega.{arith}
use borrow.Author.Tests.{eqb-true, eqb-false, le-leb, lt-leb, leb-true, leb-false}
use lib.Dec.{leb, eqb}
use lib.ListN.{length, get_or, set, length-set, length-map}
use Rattle.units.specs.Limits.{place_count, slot_limit}
use Rattle.places.specs.Places.{bit, count, flow_of, cleared, cleared_all}
use Rattle.places.proofs.Count.{count_same, count_le, count_add}
use Rattle.places.proofs.CountAt.{at_map}
use Rattle.places.proofs.Leaving.{Leaves, this_one, this_waits, one_less, tied_after}
use Rattle.places.proofs.Numbers.{at_most_one}
use Rattle.places.proofs.Tests.{eqb_self, eqb_swap}
use Rattle.urgent.specs.declared.Cell.{Cell as Place}
use Rattle.urgent.specs.declared.Urgent.{Urgent}
use Rattle.urgent.specs.Lane.{free_cell, is_held, last_is}
use Rattle.promises_urgent.specs.Cells.{Cell, its_flow, its_number, is_cell, Gone, Cells, was_sent, waits}
use Rattle.promises_urgent.specs.Promised.{Question, holds, accepted_of}
use Rattle.promises_urgent.proofs.Kept.{Kept, Facts, place_facts, cell_facts, asking, cells_tied, Few, waiting_most}

-- ---- a cell is sent
abbrev pub without : Urgent → ℕ → Urgent
without u place = record { now = u.now; flows = u.flows; cells = set u.cells place free_cell }

abbrev pub gone_from : Cells → ℕ → Place → Gone
gone_from h place c = record { flow = flow_of place_count place; number = c.number; slot = h.slot }

abbrev pub sent_cells : Cells → ℕ → Place → Cells
sent_cells h place c =
    record { slot = h.slot; marks = h.marks; accepted = h.accepted; usable = h.usable; sent = gone_from h place c ∷ h.sent; missed = h.missed }

module _ (u : Urgent) (h : Cells) (k : Kept u h) (place : ℕ) (c : Place) (low : place < length u.cells) (there : get_or u.cells place free_cell ≡ c) (held : c.held ≡ true) where
  -- the cell that is sent
  abbrev this : Facts → Bool
  this x = eqb x.0 (flow_of place_count place) && eqb x.1 c.number

  -- it leaves its place
  leaving : Leaves is_held place_facts cell_facts u.cells h.accepted (waits h) place c free_cell this
  leaving =
      record {
        tied = cells_tied u h k;
        low = low;
        there = there;
        is_held = held;
        is_free = refl;
        is_this = rw (eqb_self (flow_of place_count place), eqb_self c.number);
        one = at_most_one its_flow its_number (flow_of place_count place) c.number h.accepted k.numbered;
      }

  swap : (a : Cell) → (eqb (flow_of place_count place) a.flow && eqb c.number a.number) ≡ this (cell_facts a)
  swap a = rw (eqb_swap (flow_of place_count place) a.flow, eqb_swap c.number a.number)

  -- a cell waits still if it waited and is not the one sent now
  fewer : (a : Cell) → waits (sent_cells h place c) a ≡ (waits h a && not (this (cell_facts a)))
  unfolding was_sent
  fewer a = rw (swap a) (go (this (cell_facts a)) (was_sent h.sent a.flow a.number) (leb h.slot a.last))
    where
      go : (q s l : Bool) → (not (q || s) && l) ≡ ((not s && l) && not q)
      go true true l = refl
      go true false true = refl
      go true false false = refl
      go false true l = refl
      go false false true = refl
      go false false false = refl

  -- one cell less waits
  pub waits_less : (ask : Question)
      → count (λ (a : Cell). ask a.flow a.number a.last && waits (sent_cells h place c) a) h.accepted + bit (ask (flow_of place_count place) c.number c.last.0)
      ≡ count (λ (a : Cell). ask a.flow a.number a.last && waits h a) h.accepted
  waits_less ask = one_less leaving fewer (asking ask)

  -- the cell that is sent waits: its last slot has not gone by
  pub sent_waits : count (λ (a : Cell). is_cell (flow_of place_count place) c.number a && not (waits h a)) h.accepted ≡ 0
  sent_waits = this_waits leaving

  -- a cell that is told as sent was told so before, or is the one sent now
  split_gone : (q r s : Bool) → bit (q && (r || s)) ≡ bit (q && s) + bit ((q && r) && not s)
  split_gone false r s = refl
  split_gone true true true = refl
  split_gone true true false = refl
  split_gone true false s = omega arith

  -- which waits
  split_late : (q r s l : Bool) → bit ((q && r) && not s) ≡ bit ((q && r) && (not s && l)) + bit ((q && r) && (not s && not l))
  split_late false r s l = refl
  split_late true true true l = refl
  split_late true true false true = refl
  split_late true true false false = refl
  split_late true false s l = refl

  late_le : (q r s l : Bool) → bit ((q && r) && (not s && not l)) ≤ bit (r && not (not s && l))
  late_le false r s l = zero-le
  late_le true true true l = zero-le
  late_le true true false l = omega arith
  late_le true false s l = zero-le

  sent_more : (ask : ℕ → ℕ → Bool)
      → count (λ (a : Cell). ask a.flow a.number && was_sent (gone_from h place c ∷ h.sent) a.flow a.number) h.accepted
      ≡ bit (ask (flow_of place_count place) c.number) + count (λ (g : Gone). ask g.flow g.number) h.sent
  unfolding was_sent
  sent_more ask =
      let q : Cell → Bool = λ a. ask a.flow a.number in
      let r : Cell → Bool = λ a. this (cell_facts a) in
      let s : Cell → Bool = λ a. was_sent h.sent a.flow a.number in
      let l : Cell → Bool = λ a. leb h.slot a.last in
      omega (
        arith,
        count_add (λ a. q a && was_sent (gone_from h place c ∷ h.sent) a.flow a.number) (λ a. q a && s a) (λ a. (q a && r a) && not (s a))
            (λ a. rw (swap a) (split_gone (q a) (r a) (s a))) h.accepted,
        count_add (λ a. (q a && r a) && not (s a)) (λ a. (q a && r a) && (not (s a) && l a)) (λ a. (q a && r a) && (not (s a) && not (l a)))
            (λ a. split_late (q a) (r a) (s a) (l a)) h.accepted,
        count_le (λ a. (q a && r a) && (not (s a) && not (l a))) (λ a. r a && not (waits h a)) (λ a. late_le (q a) (r a) (s a) (l a)) h.accepted,
        sent_waits,
        this_one leaving (λ x. ask x.0 x.1),
        k.gone ask,
      )

  pub kept_sent : Kept (without u place) (sent_cells h place c)
  unfolding count
  kept_sent =
      record {
        sixteen = k.sixteen;
        long = length-set u.cells place free_cell ∙ k.long;
        time = k.time;
        within = k.within;
        open_flows = k.open_flows;
        deadlines = k.deadlines;
        next = k.next;
        numbered = k.numbered;
        windowed = k.windowed;
        tied = λ ask. tied_after leaving fewer (asking ask);
        gone = sent_more;
      }

-- ---- a turn's end
abbrev pub end_lane : Urgent → Urgent
end_lane u = record { now = record { 0 = u.now.0 + 1 }; flows = u.flows; cells = cleared_all (last_is u.now) free_cell u.cells }

abbrev pub end_cells : Cells → List ℕ → ℕ → Cells
end_cells h usable missed =
    record { slot = suc h.slot; marks = h.marks; accepted = h.accepted; usable = usable; sent = h.sent; missed = missed }

module _ (u : Urgent) (h : Cells) (k : Kept u h) (low : u.now.0 < slot_limit) (usable : List ℕ) (missed : ℕ) where
  -- a question asked of the cells whose last slot is not now
  later : Question → Question
  later ask f n l = ask f n l && not (eqb l u.now.0)

  cleared_bit : (ask : Question) (j : ℕ) (x : Place) → bit (holds ask j (cleared (last_is u.now) free_cell x)) ≡ bit (holds (later ask) j x)
  unfolding later
  cleared_bit ask j x = go x.held refl (eqb x.last.0 u.now.0) (ask (flow_of place_count j) x.number x.last.0) refl
    where
      go : (t : Bool) → x.held ≡ t → (s a : Bool) → ask (flow_of place_count j) x.number x.last.0 ≡ a
          → bit (holds ask j (cond (t && s) free_cell x)) ≡ bit (t && (a && not s))
      go true p true true e = refl
      go true p true false e = refl
      go true p false a e = ap (λ (t : Bool). bit (t && ask (flow_of place_count j) x.number x.last.0)) p ∙ ap bit e ∙ sym (and_not a)
        where
          and_not : (b : Bool) → bit (b && not false) ≡ bit b
          and_not true = refl
          and_not false = refl
      go false p s a e = ap (λ (t : Bool). bit (t && ask (flow_of place_count j) x.number x.last.0)) p

  next_slot : (l : ℕ) → leb (suc h.slot) l ≡ (not (eqb l u.now.0) && leb h.slot l)
  next_slot l = go (eqb l u.now.0) refl (leb h.slot l) refl
    where
      go : (t : Bool) → eqb l u.now.0 ≡ t → (s : Bool) → leb h.slot l ≡ s → leb (suc h.slot) l ≡ (not t && s)
      go true p s q = lt-leb (suc h.slot) l (omega (arith, k.time, eqb-true l u.now.0 p))
      go false p true q =
          let ne : l ≡ u.now.0 → ⊥ = eqb-false l u.now.0 p in
          le-leb (suc h.slot) l (omega (arith, k.time, leb-true h.slot l q, ne))
      go false p false q = lt-leb (suc h.slot) l (omega (arith, leb-false h.slot l q))

  shuffle : (a b c d : Bool) → bit (a && (b && (c && d))) ≡ bit ((a && c) && (b && d))
  shuffle false b c d = refl
  shuffle true true c d = refl
  shuffle true false true d = refl
  shuffle true false false d = refl

  pub kept_end : Kept (end_lane u) (end_cells h usable missed)
  unfolding later
  kept_end =
      record {
        sixteen = k.sixteen;
        long = length-map u.cells (cleared (last_is u.now) free_cell) ∙ k.long;
        time = omega (arith, k.time);
        within = omega (arith, k.time);
        open_flows = k.open_flows;
        deadlines = k.deadlines;
        next = k.next;
        numbered = k.numbered;
        windowed = k.windowed;
        tied = λ ask.
            at_map (holds ask) (holds (later ask)) (cleared (last_is u.now) free_cell) (cleared_bit ask) 0 u.cells
            ∙ k.tied (later ask)
            ∙ sym (count_same (λ (a : Cell). ask a.flow a.number a.last && waits (end_cells h usable missed) a) (λ a. later ask a.flow a.number a.last && waits h a)
            (λ a. rw (next_slot a.last) (shuffle (ask a.flow a.number a.last) (not (was_sent h.sent a.flow a.number)) (not (eqb a.last u.now.0)) (leb h.slot a.last)))
            h.accepted);
        gone = k.gone;
      }

-- at most sixteen cells of a flow leave in a turn
pub few_turn : (u : Urgent) (h : Cells) → Kept u h → Few h → (later : Cells) → later.slot ≡ suc h.slot → later.accepted ≡ h.accepted → Few later
few_turn u h k few later s e f b =
    let n : accepted_of later f ≡ accepted_of h f = ap (λ (cells : List Cell). count (λ (a : Cell). eqb a.flow f) cells) e in
    omega (arith, s, n, few f b, waiting_most u h k f b)
