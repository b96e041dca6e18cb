-- Counting what passes a test: over joined lists, after a store, over a list all alike, and by another test.
use mathlib.Core.Path.{◌≡◌, refl, ◌∙◌}
use mathlib.Core.Bool.{Bool, true, false, not, ◌&&◌}
use mathlib.Core.List.{List, [], ◌∷◌, ◌++◌, map}
use Prim.Native.Nat.{ℕ, zero, suc, ◌+◌, ◌≤◌, ◌<◌}
use native.Mathlib.Decide.{dec_lt}
use native.Mathlib.Nat.{not-suc-le-zero}
use native.Mathlib.Numerals.{add-one}
use native.Mathlib.Omega.{arith}
use borrow.Author.Tests.{lt-ltb, le-ltb, eq-eqb}
use lib.Dec.{ltb, eqb}
use lib.ListN.{length, get_or, set, take}
use lib.Seq.{take-suc, take_all}
use Rattle.places.specs.Places.{bit, count}

pub bit_le_one : (b : Bool) → bit b ≤ 1
bit_le_one true = omega arith
bit_le_one false = omega arith

pub and_le : (a b : Bool) → bit (a && b) ≤ bit a
and_le true b = bit_le_one b
and_le false b = omega arith

pub and_le_right : (a b : Bool) → bit (a && b) ≤ bit b
and_le_right true b = omega arith
and_le_right false b = omega arith

-- a test that tells another counts no more than it
pub bit_le : (a b : Bool) → (a ≡ true → b ≡ true) → bit a ≤ bit b
bit_le true b f = rw (f refl) (omega arith)
bit_le false b f = omega arith

-- what two tests cover between them they cover along with a third
pub and_cover : (a b c : Bool) → bit a ≤ bit b + bit c → (d : Bool) → bit (a && d) ≤ bit (b && d) + bit (c && d)
and_cover false b c l d = omega arith
and_cover true true c l d = omega arith
and_cover true false true l d = omega arith
and_cover true false false l d = absurd (omega arith)

-- the numbers below n + 1 are those below n, and n
pub below_suc : (x n : ℕ) → bit (ltb x (suc n)) ≤ bit (ltb x n) + bit (eqb x n)
below_suc x n = go (dec_lt x n) (dec_lt x (suc n))
  where
    go : Dec (x < n) → Dec (x < suc n) → bit (ltb x (suc n)) ≤ bit (ltb x n) + bit (eqb x n)
    go (yes l) m = rw (lt-ltb x n l, lt-ltb x (suc n) (omega arith)) (omega arith)
    go (no l) (yes m) = rw (eq-eqb x n (omega arith), lt-ltb x (suc n) m) (omega arith)
    go (no l) (no m) = rw (le-ltb x (suc n) (omega arith)) (omega arith)

-- a test holds together with another, or without it
pub bit_split : (a b : Bool) → bit a ≡ bit (a && b) + bit (a && not b)
bit_split true true = refl
bit_split true false = refl
bit_split false b = refl

module _ {A : Type 0} (p q : A → Bool) where
  pub count_same : ((x : A) → bit (p x) ≡ bit (q x)) → (xs : List A) → count p xs ≡ count q xs
  unfolding count
  count_same h [] = refl
  count_same h (x ∷ xs) = omega (arith, h x, count_same h xs)

  pub count_le : ((x : A) → bit (p x) ≤ bit (q x)) → (xs : List A) → count p xs ≤ count q xs
  unfolding count
  count_le h [] = omega arith
  count_le h (x ∷ xs) = omega (arith, h x, count_le h xs)

  pub count_cover : (r : A → Bool) → ((x : A) → bit (p x) ≤ bit (q x) + bit (r x)) → (xs : List A) → count p xs ≤ count q xs + count r xs
  unfolding count
  count_cover r h [] = omega arith
  count_cover r h (x ∷ xs) = omega (arith, h x, count_cover r h xs)

  pub count_add : (r : A → Bool) → ((x : A) → bit (p x) ≡ bit (q x) + bit (r x)) → (xs : List A) → count p xs ≡ count q xs + count r xs
  unfolding count
  count_add r h [] = refl
  count_add r h (x ∷ xs) = omega (arith, h x, count_add r h xs)

-- over a list of things made from others
pub count_map : {A B : Type 0} (f : A → B) (p : B → Bool) (xs : List A) → count p (map f xs) ≡ count (λ x. p (f x)) xs
unfolding count
count_map f p [] = refl
count_map f p (x ∷ xs) = omega (arith, count_map f p xs)

-- two tests together, each no weaker than another
pub count_and_le : {A : Type 0} (p q p' q' : A → Bool) → ((x : A) → bit (p x) ≤ bit (p' x)) → ((x : A) → bit (q x) ≤ bit (q' x))
    → (xs : List A) → count (λ x. p x && q x) xs ≤ count (λ x. p' x && q' x) xs
count_and_le p q p' q' h k xs = count_le (λ x. p x && q x) (λ x. p' x && q' x) (λ x. go (p x) (q x) (p' x) (q' x) (h x) (k x)) xs
  where
    go : (a b c d : Bool) → bit a ≤ bit c → bit b ≤ bit d → bit (a && b) ≤ bit (c && d)
    go true b true d l m = m
    go true b false d l m = absurd (omega arith)
    go false b c d l m = omega arith

module _ {A : Type 0} (test : A → Bool) where
  pub count_append : (xs ys : List A) → count test (xs ++ ys) ≡ count test xs + count test ys
  unfolding count
  count_append [] ys = omega arith
  count_append (x ∷ xs) ys = omega (arith, count_append xs ys)

  pub count_le_length : (xs : List A) → count test xs ≤ length xs
  unfolding count
  count_le_length [] = omega arith
  count_le_length (x ∷ xs) = omega (arith, bit_le_one (test x), count_le_length xs)

  -- one element more of a list's front
  pub count_take : (xs : List A) (i : ℕ) (d : A) → i < length xs → count test (take (i + 1) xs) ≡ count test (take i xs) + bit (test (get_or xs i d))
  unfolding count
  count_take xs i d h = rw (add-one, take-suc xs i d, count_append) (omega arith)

  -- a tally that has come to place i
  module _ (xs : List A) (i m : ℕ) (d : A) (h : i < length xs) (e : m ≡ count test (take i xs)) where
    pub tally_more : test (get_or xs i d) ≡ true → m + 1 ≡ count test (take (i + 1) xs)
    tally_more t = rw (count_take xs i d h, t) (omega arith)

    pub tally_same : test (get_or xs i d) ≡ false → m ≡ count test (take (i + 1) xs)
    tally_same t = rw (count_take xs i d h, t) (omega arith)

  pub tally_ends : (xs : List A) (i m : ℕ) → m ≡ count test (take i xs) → length xs ≤ i → m ≡ count test xs
  tally_ends xs i m e h = e ∙ rw (take_all i xs h)

  -- none passes, or some one does
  pub count_none : (xs : List A) (d : A) → ((i : ℕ) → test (get_or xs i d) ≡ true → ⊥) → count test xs ≡ 0
  unfolding count
  count_none [] d n = refl
  count_none (x ∷ xs) d n = go (test x) refl (count_none xs d (λ i t. n (suc i) t))
    where
      go : (t : Bool) → test x ≡ t → count test xs ≡ 0 → bit t + count test xs ≡ 0
      go true p r = absurd (n 0 p)
      go false p r = omega arith

  pub count_some : (xs : List A) (i : ℕ) (d : A) → i < length xs → test (get_or xs i d) ≡ true → 0 < count test xs
  unfolding count
  count_some [] i d h t = absurd (not-suc-le-zero h)
  count_some (x ∷ xs) zero d h t = rw t (omega arith)
  count_some (x ∷ xs) (suc i) d h t = omega (arith, count_some xs i d (omega arith) t)

  -- a store changes the count by what it takes away and what it brings
  pub count_set : (xs : List A) (i : ℕ) (y d : A) → i < length xs
      → count test (set xs i y) + bit (test (get_or xs i d)) ≡ count test xs + bit (test y)
  unfolding count
  count_set [] i y d h = absurd (not-suc-le-zero h)
  count_set (x ∷ xs) zero y d h = omega arith
  count_set (x ∷ xs) (suc i) y d h = omega (arith, count_set xs i y d (omega arith))
