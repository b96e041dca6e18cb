-- The missed counts that turns answer add up to the missed cells: a turn's end misses the waiting cells whose last slot it was,
-- and a cell that is sent is not missed.
use mathlib.Core.Path.{◌≡◌, refl}
use mathlib.Core.Bool.{Bool, true, false, not, ◌&&◌, ◌||◌, false≢true}
use mathlib.Core.List.{List}
use Prim.Native.Nat.{ℕ, suc, ◌+◌, ◌≤◌, ◌<◌, zero-le}
use native.Mathlib.Omega.{arith}
use borrow.Author.Tests.{eqb-true, eqb-false, leb-true, leb-false, ltb-true, ltb-false, le-ltb}
use lib.Dec.{leb, ltb, eqb}
use lib.ListN.{length, get_or}
use Rattle.units.specs.Limits.{place_count}
use Rattle.places.specs.Places.{bit, count, flow_of}
use Rattle.places.proofs.Count.{count_le, count_add}
use Rattle.places.proofs.CountAt.{at_count}
use Rattle.places.proofs.Tests.{eqb_swap}
use Rattle.urgent.specs.declared.Cell.{Cell as Place}
use Rattle.urgent.specs.declared.Urgent.{Urgent}
use Rattle.urgent.specs.Lane.{free_cell, last_is}
use Rattle.promises_urgent.specs.Cells.{Cell, is_cell, Cells, was_sent, waits, is_missed}
use Rattle.promises_urgent.proofs.Kept.{Kept}
use Rattle.promises_urgent.proofs.Turned.{sent_cells, sent_waits, end_cells}

-- a waiting cell is not missed
pub waiting_not_missed : (h : Cells) (a : Cell) → waits h a ≡ true → is_missed h a ≡ false
waiting_not_missed h a = go (was_sent h.sent a.flow a.number) (leb h.slot a.last) refl
  where
    go : (s l : Bool) → leb h.slot a.last ≡ l → (not s && l) ≡ true → (not s && ltb a.last h.slot) ≡ false
    go true l p e = refl
    go false true p e = le-ltb a.last h.slot (leb-true h.slot a.last p)
    go false false p e = absurd (false≢true e)

-- the cells that a turn's end misses
module _ (u : Urgent) (h : Cells) (k : Kept u h) (usable : List ℕ) (missed : ℕ) where
  late_bit : (s : Bool) (l : ℕ) → bit (not s && ltb l (suc h.slot)) ≡ bit (not s && ltb l h.slot) + bit (eqb l u.now.0 && (not s && leb h.slot l))
  late_bit s l = go s (ltb l (suc h.slot)) refl (ltb l h.slot) refl (eqb l u.now.0) refl (leb h.slot l) refl
    where
      go : (s a : Bool) → ltb l (suc h.slot) ≡ a → (b : Bool) → ltb l h.slot ≡ b → (c : Bool) → eqb l u.now.0 ≡ c → (d : Bool) → leb h.slot l ≡ d
          → bit (not s && a) ≡ bit (not s && b) + bit (c && (not s && d))
      go true a p b q true r d t = refl
      go true a p b q false r d t = refl
      go false true p true q true r d t = absurd (omega (arith, k.time, ltb-true l h.slot q, eqb-true l u.now.0 r))
      go false true p true q false r d t = refl
      go false true p false q true r true t = refl
      go false true p false q true r false t = absurd (omega (arith, ltb-false l h.slot q, leb-false h.slot l t))
      go false true p false q false r d t =
          let ne : l ≡ u.now.0 → ⊥ = eqb-false l u.now.0 r in
          absurd (omega (arith, k.time, ltb-true l (suc h.slot) p, ltb-false l h.slot q, ne))
      go false false p true q c r d t = absurd (omega (arith, ltb-false l (suc h.slot) p, ltb-true l h.slot q))
      go false false p false q true r d t = absurd (omega (arith, k.time, ltb-false l (suc h.slot) p, eqb-true l u.now.0 r))
      go false false p false q false r d t = refl

  pub missed_end : count (is_missed (end_cells h usable missed)) h.accepted ≡ count (is_missed h) h.accepted + count (last_is u.now) u.cells
  missed_end =
      omega (
        arith,
        count_add (is_missed (end_cells h usable missed)) (is_missed h) (λ (a : Cell). eqb a.last u.now.0 && waits h a)
            (λ a. late_bit (was_sent h.sent a.flow a.number) a.last) h.accepted,
        k.tied (λ f n l. eqb l u.now.0),
        at_count (last_is u.now) 0 u.cells,
      )

-- a cell that is sent is not missed
module _ (u : Urgent) (h : Cells) (k : Kept u h) (place : ℕ) (c : Place) (low : place < length u.cells) (there : get_or u.cells place free_cell ≡ c) (held : c.held ≡ true) where
  this : Cell → Bool
  this a = is_cell (flow_of place_count place) c.number a

  swap : (a : Cell) → (eqb (flow_of place_count place) a.flow && eqb c.number a.number) ≡ this a
  unfolding this
  swap a = rw (eqb_swap (flow_of place_count place) a.flow, eqb_swap c.number a.number)

  split_missed : (r s l : Bool) → bit (not s && l) ≡ bit (not (r || s) && l) + bit (r && (not s && l))
  split_missed true true l = refl
  split_missed true false l = omega arith
  split_missed false s l = omega arith

  not_both : (r s : Bool) (l : ℕ) → bit (r && (not s && ltb l h.slot)) ≤ bit (r && not (not s && leb h.slot l))
  not_both r s l = go r s (ltb l h.slot) refl (leb h.slot l) refl
    where
      go : (r s a : Bool) → ltb l h.slot ≡ a → (b : Bool) → leb h.slot l ≡ b → bit (r && (not s && a)) ≤ bit (r && not (not s && b))
      go false s a p b q = zero-le
      go true true a p b q = zero-le
      go true false true p true q = absurd (omega (arith, ltb-true l h.slot p, leb-true h.slot l q))
      go true false true p false q = omega arith
      go true false false p b q = zero-le

  pub missed_sent : count (is_missed (sent_cells h place c)) h.accepted ≡ count (is_missed h) h.accepted
  unfolding was_sent this
  missed_sent =
      omega (
        arith,
        count_add (is_missed h) (is_missed (sent_cells h place c)) (λ (a : Cell). this a && is_missed h a)
            (λ a. rw (swap a) (split_missed (this a) (was_sent h.sent a.flow a.number) (ltb a.last h.slot))) h.accepted,
        count_le (λ (a : Cell). this a && is_missed h a) (λ a. this a && not (waits h a)) (λ a. not_both (this a) (was_sent h.sent a.flow a.number) a.last) h.accepted,
        sent_waits u h k place c low there held,
      )
