-- The steps of a history, and what becomes of the waiting cells in each: a cell is accepted, a cell is sent, and time goes on.
use mathlib.Core.Path.{◌≡◌, refl}
use mathlib.Core.Bool.{Bool, true, false, not, ◌&&◌, ◌||◌, true≢false, false≢true}
use mathlib.Core.List.{List, ◌∷◌}
use Prim.Native.Nat.{ℕ, ◌+◌, ◌≤◌, zero-le}
use native.Mathlib.Nat.{le_refl}
use native.Mathlib.Omega.{arith}
use borrow.Author.Tests.{leb-true, le-leb}
use lib.Dec.{leb, eqb}
use Rattle.units.specs.Limits.{place_count}
use Rattle.places.specs.Places.{bit, count, flow_of}
use Rattle.places.proofs.Count.{count_and_le}
use Rattle.urgent.specs.declared.Cell.{Cell as Place}
use Rattle.promises_urgent.specs.Cells.{Cell, Gone, Cells, was_sent, waits}
use Rattle.promises_urgent.specs.Promised.{Question}
use Rattle.promises_urgent.proofs.Turned.{sent_cells}

-- the history after a cell is accepted
abbrev pub with_cell : Cells → Cell → Cells
with_cell h a =
    record { slot = h.slot; marks = h.marks; accepted = a ∷ h.accepted; usable = h.usable; sent = h.sent; missed = h.missed }

-- of the waiting cells the one that is sent leaves, whatever is asked of them
abbrev pub OneLess : Cells → ℕ → Place → Type 0
OneLess h place c =
    (ask : Question)
    → count (λ (a : Cell). ask a.flow a.number a.last && waits (sent_cells h place c) a) h.accepted + bit (ask (flow_of place_count place) c.number c.last.0)
    ≡ count (λ (a : Cell). ask a.flow a.number a.last && waits h a) h.accepted

-- a cell that waits is not sent, and its last slot has not gone by
pub waits_told : (h : Cells) (a : Cell) → waits h a ≡ true → (was_sent h.sent a.flow a.number ≡ false) × (h.slot ≤ a.last)
waits_told h a = go (was_sent h.sent a.flow a.number) (leb h.slot a.last) refl
  where
    go : (s l : Bool) → leb h.slot a.last ≡ l → (not s && l) ≡ true → (s ≡ false) × (h.slot ≤ a.last)
    go true l p e = absurd (false≢true e)
    go false true p e = (refl, leb-true h.slot a.last p)
    go false false p e = absurd (false≢true e)

-- what is not among the sent is not among the sent before
pub sent_before : (g : Gone) (gs : List Gone) (f n : ℕ) → was_sent (g ∷ gs) f n ≡ false → was_sent gs f n ≡ false
unfolding was_sent
sent_before g gs f n = go (eqb g.flow f && eqb g.number n)
  where
    go : (x : Bool) → (x || was_sent gs f n) ≡ false → was_sent gs f n ≡ false
    go true e = absurd (true≢false e)
    go false e = e

-- of the cells that pass a test, fewer wait later
pub fewer_wait : (h later : Cells) → h.slot ≤ later.slot → ((f n : ℕ) → was_sent later.sent f n ≡ false → was_sent h.sent f n ≡ false)
    → (p : Cell → Bool) (cells : List Cell) → count (λ (a : Cell). p a && waits later a) cells ≤ count (λ (a : Cell). p a && waits h a) cells
fewer_wait h later time unsent p =
    count_and_le p (waits later) p (waits h) (λ a. le_refl (bit (p a)))
    (λ a. go a (was_sent later.sent a.flow a.number) refl (leb later.slot a.last) refl)
  where
    go : (a : Cell) (s : Bool) → was_sent later.sent a.flow a.number ≡ s → (l : Bool) → leb later.slot a.last ≡ l → bit (not s && l) ≤ bit (waits h a)
    go a true p l q = zero-le
    go a false p true q =
        rw (unsent a.flow a.number p, le-leb h.slot a.last (omega (arith, leb-true later.slot a.last q))) (le_refl 1)
    go a false p false q = zero-le
