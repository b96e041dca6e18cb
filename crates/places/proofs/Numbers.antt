-- Numbers of a flow are below the count of its records, so that no two records of a flow have one number, and each number below it
-- is one's.
use mathlib.Core.Path.{◌≡◌, refl, subst}
use mathlib.Core.Logic.{inl, inr}
use mathlib.Core.Bool.{Bool, true, false}
use mathlib.Core.List.{List, [], ◌∷◌}
use Prim.Native.Nat.{ℕ, ◌+◌, ◌≤◌, ◌<◌, zero-le}
use native.Mathlib.Decide.{ℕ_discrete}
use native.Mathlib.Omega.{arith}
use borrow.Author.Tests.{eqb-true, eq-eqb}
use lib.Dec.{eqb}
use Rattle.places.specs.Places.{bit, count}
use Rattle.places.specs.Members.{Any}
use Rattle.places.specs.Numbers.{of_flow, is_this, Numbered}
use Rattle.places.proofs.Tests.{and_told}

module _ {A : Type 0} (flow number : A → ℕ) where
  pub is_this_lem : (f n : ℕ) (a : A) → is_this flow number f n a ≡ true → (flow a ≡ f) × (number a ≡ n)
  is_this_lem f n a e =
      let x = and_told (eqb (flow a) f) (eqb (number a) n) e in
      (eqb-true (flow a) f x.0, eqb-true (number a) n x.1)

  -- a record's number is how many of its flow came before it
  pub head_number : (f : ℕ) (a : A) (rest : List A) → Numbered flow number (a ∷ rest) → flow a ≡ f → number a ≡ of_flow flow f rest
  head_number f a rest k e = subst (λ (g : ℕ). number a ≡ of_flow flow g rest) e k.0

  -- a record of the flow makes the flow's count one more
  pub head_count : (f : ℕ) (a : A) (rest : List A) → flow a ≡ f → of_flow flow f (a ∷ rest) ≡ 1 + of_flow flow f rest
  unfolding count
  head_count f a rest e = rw (eq-eqb (flow a) f e)

  -- no record of the flow has the count as its number, or a larger one
  pub none_above : (f n : ℕ) (xs : List A) → Numbered flow number xs → of_flow flow f xs ≤ n → count (is_this flow number f n) xs ≡ 0
  unfolding count
  none_above f n [] k h = refl
  none_above f n (a ∷ rest) k h =
      omega (arith, go (is_this flow number f n a) refl, none_above f n rest k.1 (omega arith))
    where
      go : (t : Bool) → is_this flow number f n a ≡ t → bit t ≡ 0
      go true p =
          let r = is_this_lem f n a p in
          absurd (omega (arith, r.1, head_number f a rest k r.0, head_count f a rest r.0))
      go false p = refl

  -- a record is known by its flow and its number
  pub at_most_one : (f n : ℕ) (xs : List A) → Numbered flow number xs → count (is_this flow number f n) xs ≤ 1
  unfolding count
  at_most_one f n [] k = zero-le
  at_most_one f n (a ∷ rest) k = go (is_this flow number f n a) refl (at_most_one f n rest k.1)
    where
      go : (t : Bool) → is_this flow number f n a ≡ t → count (is_this flow number f n) rest ≤ 1 → bit t + count (is_this flow number f n) rest ≤ 1
      go true p r =
          let e = is_this_lem f n a p in
          omega (arith, none_above f n rest k.1 (omega (arith, e.1, head_number f a rest k e.0)))
      go false p r = omega arith

  -- every number below the count is that of some record of the flow
  pub some_below : (f n : ℕ) (xs : List A) → Numbered flow number xs → n < of_flow flow f xs → Any (λ (a : A). (flow a ≡ f) × (number a ≡ n)) xs
  unfolding count
  some_below f n [] k l = absurd (omega arith)
  some_below f n (a ∷ rest) k l = go (eqb (flow a) f) refl l (some_below f n rest k.1)
    where
      go : (t : Bool) → eqb (flow a) f ≡ t → n < bit t + of_flow flow f rest
          → (n < of_flow flow f rest → Any (λ (b : A). (flow b ≡ f) × (number b ≡ n)) rest)
          → Any (λ (b : A). (flow b ≡ f) × (number b ≡ n)) (a ∷ rest)
      go true p m i = this (eqb-true (flow a) f p) (ℕ_discrete (number a) n)
        where
          this : flow a ≡ f → Dec (number a ≡ n) → Any (λ (b : A). (flow b ≡ f) × (number b ≡ n)) (a ∷ rest)
          this e (yes q) = inl (e, q)
          this e (no q) = inr (i (omega (arith, m, q, head_number f a rest k e)))
      go false p m i = inr (i (omega arith))
