-- How many cells a plan uses before slot t, or have a last slot of e or later, and how that grows from one slot to the next.
use mathlib.Core.Path.{◌≡◌, refl, ap}
use mathlib.Core.Logic.{◌⊎◌, inl, inr}
use mathlib.Core.Bool.{Bool, true, false, ◌||◌, false≢true}
use mathlib.Core.List.{List, [], ◌∷◌}
use Prim.Native.Nat.{ℕ, suc, ◌+◌, ◌≤◌, ◌<◌, zero-le}
use native.Mathlib.Nat.{le_refl}
use native.Mathlib.Decide.{ℕ_discrete}
use native.Mathlib.Omega.{arith}
use borrow.Author.Tests.{lt-ltb, le-ltb, le-leb, ltb-true, leb-true}
use lib.Dec.{leb, ltb}
use lib.ListN.{length, get_or}
use Rattle.places.specs.Places.{bit}
use Rattle.places.proofs.Count.{bit_le_one, bit_le}
use Rattle.promises_urgent.specs.Plans.{Window, no_window}
use Rattle.promises_urgent.proofs.Uses.{Use, unused, in_slot, slot_of, not_used, size}

-- the cell is used before slot t
abbrev pub early : ℕ → Use → Bool
early t unused = false
early t (in_slot s) = ltb s t

pub counted : ℕ → ℕ → List Window → List Use → ℕ
counted t e [] us = 0
counted t e (w ∷ ws) [] = 0
counted t e (w ∷ ws) (x ∷ us) = bit (early t x || leb e w.last) + counted t e ws us

-- ---- one cell
or_cases : (a b : Bool) → (a || b) ≡ true → (a ≡ true) ⊎ (b ≡ true)
or_cases true b e = inl refl
or_cases false b e = inr e

or_left : (a b : Bool) → a ≡ true → (a || b) ≡ true
or_left true b e = refl
or_left false b e = absurd (false≢true e)

or_right : (a b : Bool) → b ≡ true → (a || b) ≡ true
or_right true b e = refl
or_right false b e = e

-- a cell used before slot t + 1 is used before t, or in t
one_step : (t e : ℕ) (x : Use) (l : ℕ) → (x ≡ in_slot t → ⊥) → bit (early (suc t) x || leb e l) ≤ bit (early t x || leb e l)
one_step t e unused l n = le_refl (bit (leb e l))
one_step t e (in_slot s) l n = bit_le (ltb s (suc t) || leb e l) (ltb s t || leb e l) (λ q. go (or_cases (ltb s (suc t)) (leb e l) q))
  where
    go : (ltb s (suc t) ≡ true) ⊎ (leb e l ≡ true) → (ltb s t || leb e l) ≡ true
    go (inl p) = or_left (ltb s t) (leb e l) (lt-ltb s t (other (ℕ_discrete s t)))
      where
        other : Dec (s ≡ t) → s < t
        other (yes q) = absurd (n (ap in_slot q))
        other (no q) = omega (arith, ltb-true s (suc t) p)
    go (inr p) = or_right (ltb s t) (leb e l) p

-- a cell used before slot t + 1 in time, or whose last slot is e or later, is used before t, or its last slot is t or later
one_all : (t e : ℕ) (x : Use) (l : ℕ) → t < e → ((s : ℕ) → x ≡ in_slot s → s ≤ l) → bit (early (suc t) x || leb e l) ≤ bit (early t x || leb t l)
one_all t e unused l h n = bit_le (leb e l) (leb t l) (λ q. le-leb t l (omega (arith, leb-true e l q)))
one_all t e (in_slot s) l h n = bit_le (ltb s (suc t) || leb e l) (ltb s t || leb t l) (λ q. go (or_cases (ltb s (suc t)) (leb e l) q))
  where
    go : (ltb s (suc t) ≡ true) ⊎ (leb e l ≡ true) → (ltb s t || leb t l) ≡ true
    go (inl p) = other (ℕ_discrete s t)
      where
        other : Dec (s ≡ t) → (ltb s t || leb t l) ≡ true
        other (yes q) = or_right (ltb s t) (leb t l) (le-leb t l (omega (arith, n s refl)))
        other (no q) = or_left (ltb s t) (leb t l) (lt-ltb s t (omega (arith, ltb-true s (suc t) p)))
    go (inr p) = or_right (ltb s t) (leb t l) (le-leb t l (omega (arith, leb-true e l p)))

-- ---- all cells
pub step_none : (t e : ℕ) (ws : List Window) (us : List Use) → ((i : ℕ) → get_or us i unused ≡ in_slot t → ⊥) → counted (suc t) e ws us ≤ counted t e ws us
unfolding counted
step_none t e [] us n = zero-le
step_none t e (w ∷ ws) [] n = zero-le
step_none t e (w ∷ ws) (x ∷ us) n = omega (arith, one_step t e x w.last (n 0), step_none t e ws us (λ i. n (suc i)))

pub step_all : (t e : ℕ) (ws : List Window) (us : List Use) → t < e → ((i s : ℕ) → get_or us i unused ≡ in_slot s → s ≤ (get_or ws i no_window).last)
    → counted (suc t) e ws us ≤ counted t t ws us
unfolding counted
step_all t e [] us h n = zero-le
step_all t e (w ∷ ws) [] h n = zero-le
step_all t e (w ∷ ws) (x ∷ us) h n = omega (arith, one_all t e x w.last h (n 0), step_all t e ws us h (λ i. n (suc i)))

same_use : (x : Use) (t : ℕ) → Dec (x ≡ in_slot t)
same_use unused t = no (not_used t)
same_use (in_slot s) t = go (ℕ_discrete s t)
  where
    go : Dec (s ≡ t) → Dec (in_slot s ≡ in_slot t)
    go (yes p) = yes (ap in_slot p)
    go (no p) = no (λ q. p (slot_of s t q))

pub step_one : (t e : ℕ) (ws : List Window) (us : List Use) → ((i j : ℕ) → get_or us i unused ≡ in_slot t → get_or us j unused ≡ in_slot t → i ≡ j)
    → counted (suc t) e ws us ≤ counted t e ws us + 1
unfolding counted
step_one t e [] us n = zero-le
step_one t e (w ∷ ws) [] n = zero-le
step_one t e (w ∷ ws) (x ∷ us) n = go (step_one t e ws us (λ i j p q. omega (arith, n (suc i) (suc j) p q))) (same_use x t)
  where
    go : counted (suc t) e ws us ≤ counted t e ws us + 1 → Dec (x ≡ in_slot t)
        → bit (early (suc t) x || leb e w.last) + counted (suc t) e ws us ≤ bit (early t x || leb e w.last) + counted t e ws us + 1
    go r (yes p) = omega (arith, bit_le_one (early (suc t) x || leb e w.last), step_none t e ws us (λ i q. omega (arith, n 0 (suc i) p q)))
    go r (no p) = omega (arith, one_step t e x w.last p)

-- a plan's size, where it uses only slots before t
pub size_counted : (t e : ℕ) (ws : List Window) (us : List Use) → length us ≡ length ws → ((i s : ℕ) → get_or us i unused ≡ in_slot s → s < t) → size us ≤ counted t e ws us
unfolding counted size
size_counted t e [] [] l n = zero-le
size_counted t e [] (x ∷ us) l n = absurd (omega arith)
size_counted t e (w ∷ ws) [] l n = zero-le
size_counted t e (w ∷ ws) (unused ∷ us) l n = omega (arith, size_counted t e ws us (omega arith) (λ i. n (suc i)))
size_counted t e (w ∷ ws) (in_slot s ∷ us) l n =
    let b : bit (ltb s t || leb e w.last) ≡ 1 = rw (lt-ltb s t (n 0 s refl)) in
    omega (arith, size_counted t e ws us (omega arith) (λ i. n (suc i)))

-- a cell that arrives at t is not used before t
pub counted_new : (t e : ℕ) (w : Window) (ws : List Window) (x : Use) (us : List Use) → ((s : ℕ) → x ≡ in_slot s → t ≤ s)
    → counted t e (w ∷ ws) (x ∷ us) ≡ bit (leb e w.last) + counted t e ws us
unfolding counted
counted_new t e w ws unused us n = refl
counted_new t e w ws (in_slot s) us n = rw (le-ltb s t (n s refl))

pub counted_none : (t e : ℕ) (us : List Use) → counted t e [] us ≡ 0
unfolding counted
counted_none t e us = refl
