-- Numbers below t of which none stands twice are at most t: each of the t numbers stands at most once.
use mathlib.Core.Path.{◌≡◌, refl, sym}
use mathlib.Core.Logic.{inl, inr}
use mathlib.Core.Bool.{Bool, true, false}
use mathlib.Core.List.{List, [], ◌∷◌}
use Prim.Native.Nat.{ℕ, zero, suc, ◌+◌, ◌≤◌, ◌<◌}
use native.Mathlib.Omega.{arith}
use borrow.Author.Tests.{eqb-true, lt-ltb, le-ltb}
use lib.Dec.{ltb, eqb}
use lib.ListN.{length}
use Rattle.places.specs.Places.{bit, count}
use Rattle.places.specs.Members.{Each}
use Rattle.places.proofs.Count.{below_suc, count_cover}
use Rattle.promises_urgent.specs.Plans.{Member, Apart}

-- how often n stands in a list
abbrev often : ℕ → List ℕ → ℕ
often n xs = count (λ (x : ℕ). eqb x n) xs

never : (n : ℕ) (xs : List ℕ) → (Member n xs → ⊥) → often n xs ≡ 0
unfolding count
never n [] away = refl
never n (x ∷ xs) away = go (eqb x n) refl (never n xs (λ m. away (inr m)))
  where
    go : (b : Bool) → eqb x n ≡ b → often n xs ≡ 0 → bit b + often n xs ≡ 0
    go true e r = absurd (away (inl (sym (eqb-true x n e))))
    go false e r = omega (arith, r)

once : (n : ℕ) (xs : List ℕ) → Apart xs → often n xs ≤ 1
unfolding count
once n [] a = omega arith
once n (x ∷ xs) a = go (eqb x n) refl (once n xs a.1)
  where
    go : (b : Bool) → eqb x n ≡ b → often n xs ≤ 1 → bit b + often n xs ≤ 1
    go true e r = let q : x ≡ n = eqb-true x n e in omega (arith, never n xs (rw q at a.0))
    go false e r = omega (arith, r)

below : (t : ℕ) (xs : List ℕ) → Apart xs → count (λ (x : ℕ). ltb x t) xs ≤ t
unfolding count
below zero [] a = omega arith
below zero (x ∷ xs) a = rw (le-ltb x 0 (omega arith)) (omega (arith, below zero xs a.1))
below (suc t) xs a = omega (arith, below t xs a, once t xs a, count_cover (λ (x : ℕ). ltb x (suc t)) (λ (x : ℕ). ltb x t) (λ (x : ℕ). eqb x t) (λ x. below_suc x t) xs)

all_below : (t : ℕ) (xs : List ℕ) → Each (λ (x : ℕ). x < t) xs → count (λ (x : ℕ). ltb x t) xs ≡ length xs
unfolding count
all_below t [] e = refl
all_below t (x ∷ xs) e = rw (lt-ltb x t e.0) (omega (arith, all_below t xs e.1))

pub few_apart : (t : ℕ) (xs : List ℕ) → Apart xs → Each (λ (x : ℕ). x < t) xs → length xs ≤ t
few_apart t xs a e = omega (arith, below t xs a, all_below t xs e)
