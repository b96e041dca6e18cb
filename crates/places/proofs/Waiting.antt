-- The records that wait are tied to the held places: whatever is asked, as many of the one as of the other answer yes. So what holds of
-- every held place holds of every waiting record, and what a held place answers to some waiting record answers to.
use mathlib.Core.Path.{◌≡◌, refl, sym, ◌∙◌, subst}
use mathlib.Core.Bool.{Bool, true, false, ◌&&◌}
use mathlib.Core.List.{List}
use Prim.Native.Nat.{ℕ, ◌+◌, ◌<◌}
use native.Mathlib.Omega.{arith}
use lib.ListN.{length, get_or}
use Rattle.places.specs.Places.{count, count_at}
use Rattle.places.proofs.CountAt.{at_none, at_here}

-- a held place of which the answer is yes
abbrev pub holds_at : {P X : Type 0} → (P → Bool) → (ℕ → P → X) → (X → Bool) → ℕ → P → Bool
holds_at held view ask k p = held p && ask (view k p)

-- places P, the records A that were noted of them, and what can be asked of either
module _ {P A X : Type 0} (held : P → Bool) (view : ℕ → P → X) (seen : A → X) where
  abbrev pub Tied : List P → List A → (A → Bool) → Type 0
  Tied xs ys waits = (ask : X → Bool) → count_at (holds_at held view ask) 0 xs ≡ count (λ (a : A). ask (seen a) && waits a) ys

  module _ (free : P) (xs : List P) (ys : List A) (waits : A → Bool) (tied : Tied xs ys waits) where
    pub none_asked : (ask : X → Bool) → ((i : ℕ) → held (get_or xs i free) ≡ true → ask (view i (get_or xs i free)) ≡ false)
        → count (λ (a : A). ask (seen a) && waits a) ys ≡ 0
    none_asked ask never = sym (tied ask) ∙ at_none (holds_at held view ask) free 0 xs (λ i l. go i (held (get_or xs i free)) refl)
      where
        go : (i : ℕ) (t : Bool) → held (get_or xs i free) ≡ t → (t && ask (view (0 + i) (get_or xs i free))) ≡ false
        go i true h = subst (λ (n : ℕ). ask (view n (get_or xs i free)) ≡ false) (omega arith) (never i h)
        go i false h = refl

    pub some_asked : (place : ℕ) (p : P) → place < length xs → get_or xs place free ≡ p → held p ≡ true → (ask : X → Bool) → ask (view place p) ≡ true
        → 0 < count (λ (a : A). ask (seen a) && waits a) ys
    some_asked place p low there is_held_lem ask y =
        let z : 0 + place ≡ place = omega arith in
        omega (arith, tied ask, at_here (holds_at held view ask) free 0 xs place low (rw (there, z, is_held_lem) y))
