-- Tests joined and turned round, for any numbers.
use mathlib.Core.Path.{◌≡◌, refl, sym}
use mathlib.Core.Bool.{Bool, true, false, ◌&&◌, ◌||◌, false≢true, true≢false}
use Prim.Native.Nat.{ℕ}
use borrow.Author.Tests.{eqb-true, eqb-false, eq-eqb, ne_eqb}
use lib.Dec.{eqb}

-- a test asked along with one that holds
pub and_holds : (a b : Bool) → b ≡ true → (a && b) ≡ a
and_holds true true e = refl
and_holds true false e = absurd (false≢true e)
and_holds false b e = refl

-- both hold where they hold together
pub and_told : (a b : Bool) → (a && b) ≡ true → (a ≡ true) × (b ≡ true)
and_told true b e = (refl, e)
and_told false b e = absurd (false≢true e)

-- neither holds where not even one of them does
pub neither_told : (a b : Bool) → (a || b) ≡ false → (a ≡ false) × (b ≡ false)
neither_told true b e = absurd (true≢false e)
neither_told false b e = (refl, e)

pub eqb_self : (n : ℕ) → eqb n n ≡ true
eqb_self n = eq-eqb n n refl

pub eqb_swap : (m n : ℕ) → eqb m n ≡ eqb n m
eqb_swap m n = go (eqb m n) refl
  where
    go : (t : Bool) → eqb m n ≡ t → t ≡ eqb n m
    go true p = sym (eq-eqb n m (sym (eqb-true m n p)))
    go false p = sym (ne_eqb n m (λ q. eqb-false m n p (sym q)))
