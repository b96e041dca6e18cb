-- Counting places by a test of the place and of what it holds, and that a flow's own places are those of its number.
use mathlib.Core.Path.{◌≡◌, refl, subst}
use mathlib.Core.Bool.{Bool, true, false, ◌&&◌}
use mathlib.Core.List.{List, [], ◌∷◌, ◌++◌, map}
use Prim.Native.Nat.{ℕ, zero, suc, ◌+◌, ◌*◌, ◌/◌, ◌≤◌, ◌<◌}
use native.Mathlib.Nat.{not-suc-le-zero, div-lt_iff_lt-mul, le-div_iff_mul-le, div-eq_of_lt-le, add-mul, one-mul}
use native.Mathlib.Omega.{arith}
use borrow.Author.Tests.{eq-eqb, ne_eqb}
use lib.Dec.{eqb}
use lib.ListN.{length, get_or, set, take, drop, replicate, take-append-drop, length-drop}
use lib.Seq.{length-take-le}
use Rattle.places.specs.Places.{bit, count, count_at, places_of, flow_of}

module _ {A : Type 0} where
  pub at_same : (p q : ℕ → A → Bool) → ((k : ℕ) (x : A) → bit (p k x) ≡ bit (q k x)) → (k : ℕ) (xs : List A) → count_at p k xs ≡ count_at q k xs
  unfolding count_at
  at_same p q h k [] = refl
  at_same p q h k (x ∷ xs) = omega (arith, h k x, at_same p q h (suc k) xs)

  pub at_le : (p q : ℕ → A → Bool) → ((k : ℕ) (x : A) → bit (p k x) ≤ bit (q k x)) → (k : ℕ) (xs : List A) → count_at p k xs ≤ count_at q k xs
  unfolding count_at
  at_le p q h k [] = omega arith
  at_le p q h k (x ∷ xs) = omega (arith, h k x, at_le p q h (suc k) xs)

  pub at_replicate : (p : ℕ → A → Bool) (x : A) → ((k : ℕ) → p k x ≡ false) → (k n : ℕ) → count_at p k (replicate n x) ≡ 0
  unfolding count_at
  at_replicate p x h k zero = refl
  at_replicate p x h k (suc n) = rw (h k) (omega (arith, at_replicate p x h (suc k) n))

  -- a test that does not look at the place
  pub at_count : (p : A → Bool) (k : ℕ) (xs : List A) → count_at (λ j x. p x) k xs ≡ count p xs
  unfolding count_at count
  at_count p k [] = refl
  at_count p k (x ∷ xs) = omega (arith, at_count p (suc k) xs)

  -- no place passes
  pub at_none : (p : ℕ → A → Bool) (d : A) (k : ℕ) (xs : List A) → ((i : ℕ) → i < length xs → p (k + i) (get_or xs i d) ≡ false) → count_at p k xs ≡ 0
  unfolding count_at
  at_none p d k [] h = refl
  at_none p d k (x ∷ xs) h =
      let z : k + 0 ≡ k = omega arith in
      let f : p k x ≡ false = rw z at (h 0 (omega arith)) in
      rw f (omega (arith, at_none p d (suc k) xs (λ i l. subst (λ (n : ℕ). p n (get_or xs i d) ≡ false) (omega arith) (h (suc i) (omega arith)))))

  -- a place that passes is counted
  pub at_here : (p : ℕ → A → Bool) (d : A) (k : ℕ) (xs : List A) (i : ℕ) → i < length xs → p (k + i) (get_or xs i d) ≡ true → 0 < count_at p k xs
  unfolding count_at
  at_here p d k [] i l e = absurd (not-suc-le-zero l)
  at_here p d k (x ∷ xs) zero l e =
      let z : k + 0 ≡ k = omega arith in
      let t : p k x ≡ true = rw z at e in
      rw t (omega arith)
  at_here p d k (x ∷ xs) (suc i) l e =
      omega (arith, at_here p d (suc k) xs i (omega arith) (subst (λ (n : ℕ). p n (get_or xs i d) ≡ true) (omega arith) e))

  -- the places after a change of each, by a test of the places before it
  pub at_map : (p q : ℕ → A → Bool) (f : A → A) → ((k : ℕ) (x : A) → bit (p k (f x)) ≡ bit (q k x)) → (k : ℕ) (xs : List A) → count_at p k (map f xs) ≡ count_at q k xs
  unfolding count_at
  at_map p q f h k [] = refl
  at_map p q f h k (x ∷ xs) = omega (arith, h k x, at_map p q f h (suc k) xs)

  -- a store changes the count by what it takes away and what it brings
  pub at_set : (p : ℕ → A → Bool) (k : ℕ) (xs : List A) (i : ℕ) (y d : A) → i < length xs
      → count_at p k (set xs i y) + bit (p (k + i) (get_or xs i d)) ≡ count_at p k xs + bit (p (k + i) y)
  unfolding count_at
  at_set p k [] i y d h = absurd (not-suc-le-zero h)
  at_set p k (x ∷ xs) zero y d h =
      let z : k + 0 ≡ k = omega arith in
      rw z (omega arith)
  at_set p k (x ∷ xs) (suc i) y d h =
      let z : k + suc i ≡ suc k + i = omega arith in
      rw z (omega (arith, at_set p (suc k) xs i y d (omega arith)))

  at_append : (p : ℕ → A → Bool) (k : ℕ) (xs ys : List A) → count_at p k (xs ++ ys) ≡ count_at p k xs + count_at p (k + length xs) ys
  unfolding count_at
  at_append p k [] ys =
      let z : k + 0 ≡ k = omega arith in
      rw z (omega arith)
  at_append p k (x ∷ xs) ys =
      let z : k + suc (length xs) ≡ suc k + length xs = omega arith in
      rw z (omega (arith, at_append p (suc k) xs ys))

  -- a flow's own places are the places of its number
  module _ (held : A → Bool) (n flow : ℕ) where
    own : ℕ → A → Bool
    own k x = held x && eqb (flow_of n k) flow

    own_bit : (k : ℕ) (x : A) → k / n ≡ flow → bit (own k x) ≡ bit (held x)
    unfolding own
    own_bit k x e = rw (eq-eqb (k / n) flow e) (go (held x))
      where
        go : (t : Bool) → bit (t && true) ≡ bit t
        go true = refl
        go false = refl

    other_bit : (k : ℕ) (x : A) → (k / n ≡ flow → ⊥) → bit (own k x) ≡ 0
    unfolding own
    other_bit k x e = rw (ne_eqb (k / n) flow e) (go (held x))
      where
        go : (t : Bool) → bit (t && false) ≡ 0
        go true = refl
        go false = refl

    own_all : (k : ℕ) (xs : List A) → flow * n ≤ k → k + length xs ≤ flow * n + n → count_at own k xs ≡ count held xs
    unfolding count_at count
    own_all k [] l h = refl
    own_all k (x ∷ xs) l h =
        omega (arith, own_bit k x (div-eq_of_lt-le n l (omega (arith, add-mul flow 1 n, one-mul n))), own_all (suc k) xs (omega arith) (omega arith))

    before_none : (k : ℕ) (xs : List A) → 0 < n → k + length xs ≤ flow * n → count_at own k xs ≡ 0
    unfolding count_at
    before_none k [] z h = refl
    before_none k (x ∷ xs) z h =
        let low : k < flow * n = omega arith in
        omega (arith, other_bit k x (λ e. omega (arith, (div-lt_iff_lt-mul z).1 low)), before_none (suc k) xs z (omega arith))

    after_none : (k : ℕ) (xs : List A) → 0 < n → flow * n + n ≤ k → count_at own k xs ≡ 0
    unfolding count_at
    after_none k [] z h = refl
    after_none k (x ∷ xs) z h =
        let high : (flow + 1) * n ≤ k = omega (arith, add-mul flow 1 n, one-mul n) in
        omega (arith, other_bit k x (λ e. omega (arith, (le-div_iff_mul-le z).1 high)), after_none (suc k) xs z (omega arith))

    pub own_places : (xs : List A) → 0 < n → flow * n + n ≤ length xs → count_at (λ k x. held x && eqb (flow_of n k) flow) 0 xs ≡ count held (places_of n flow xs)
    unfolding own
    own_places xs z h =
        let front = take (flow * n) xs in
        let rest = drop (flow * n) xs in
        let a : length front ≡ flow * n = length-take-le (flow * n) xs (omega arith) in
        let b : length (take n rest) ≡ n = length-take-le n rest (rw (length-drop (flow * n) xs) (omega arith)) in
        let s : count_at own 0 (front ++ rest) ≡ count_at own 0 front + count_at own (0 + length front) rest = at_append own 0 front rest in
        let t : count_at own (0 + length front) (take n rest ++ drop n rest)
        ≡ count_at own (0 + length front) (take n rest) + count_at own (0 + length front + length (take n rest)) (drop n rest) =
        at_append own (0 + length front) (take n rest) (drop n rest) in
        let s' = rw (take-append-drop (flow * n) xs) at s in
        let t' = rw (take-append-drop n rest) at t in
        omega (
          arith,
          before_none 0 front z (omega arith),
          own_all (0 + length front) (take n rest) (omega arith) (omega arith),
          after_none (0 + length front + length (take n rest)) (drop n rest) z (omega arith),
          s',
          t',
        )
