-- What a test over numbers that follow one another says of each, and what a list over them holds.
use mathlib.Core.Path.{◌≡◌, refl, sym, ap, ◌∙◌}
use mathlib.Core.Bool.{Bool, true, false, ◌||◌, true≢false, false≢true}
use mathlib.Core.List.{List, [], ◌∷◌, ◌++◌}
use Prim.Native.Nat.{ℕ, zero, suc, ◌+◌, ◌≤◌, ◌<◌}
use native.Mathlib.Omega.{arith}
use borrow.Author.Tests.{eqb-true, eqb-false}
use lib.Dec.{eqb}
use lib.ListN.{length, get_or}
use Rattle.plans.specs.Numbered.{any_from, list_from}

-- neither of two tests holds
pub or_none : (a b : Bool) → a ≡ false → b ≡ false → (a || b) ≡ false
or_none a b p q = rw (p, q)

pub or_told : (a b : Bool) → (a || b) ≡ false → (a ≡ false) × (b ≡ false)
or_told true b e = absurd (true≢false e)
or_told false b e = (refl, e)

-- where none of the n numbers from k on passes a test, each fails it
pub any_none : (test : ℕ → Bool) (k n : ℕ) → any_from test k n ≡ false → (i : ℕ) → k ≤ i → i < k + n → test i ≡ false
unfolding any_from
any_none test k zero e i l h = absurd (omega arith)
any_none test k (suc n) e i l h = go (any_none test (suc k) n (or_told (test k) (any_from test (suc k) n) e).1) (eqb i k) refl
  where
    go : ((i : ℕ) → suc k ≤ i → i < suc k + n → test i ≡ false) → (b : Bool) → eqb i k ≡ b → test i ≡ false
    go rest true q = ap test (eqb-true i k q) ∙ (or_told (test k) (any_from test (suc k) n) e).0
    go rest false q = let ne : i ≡ k → ⊥ = eqb-false i k q in rest i (omega (arith, ne)) (omega arith)

-- and the other way
pub none_any : (test : ℕ → Bool) (k n : ℕ) → ((i : ℕ) → k ≤ i → i < k + n → test i ≡ false) → any_from test k n ≡ false
unfolding any_from
none_any test k zero h = refl
none_any test k (suc n) h =
    or_none (test k) (any_from test (suc k) n) (h k (omega arith) (omega arith)) (none_any test (suc k) n (λ i a b. h i (omega arith) (omega arith)))

-- a list over n numbers has n entries
pub from_length : {A : Type 0} (f : ℕ → A) (k n : ℕ) → length (list_from f k n) ≡ n
unfolding list_from
from_length f k zero = refl
from_length f k (suc n) = ap suc (from_length f (suc k) n)

-- and at each place what the function gives for the number
pub from_at : {A : Type 0} (f : ℕ → A) (d : A) (k n i : ℕ) → i < n → get_or (list_from f k n) i d ≡ f (k + i)
unfolding list_from
from_at f d k zero i h = absurd (omega arith)
from_at f d k (suc n) zero h = let e : k ≡ k + 0 = omega arith in ap f e
from_at f d k (suc n) (suc i) h = from_at f d (suc k) n i (omega arith) ∙ (let e : suc k + i ≡ k + suc i = omega arith in ap f e)

-- functions that agree on the numbers give one list
pub from_same : {A : Type 0} (f g : ℕ → A) (k n : ℕ) → ((i : ℕ) → k ≤ i → i < k + n → f i ≡ g i) → list_from f k n ≡ list_from g k n
unfolding list_from
from_same f g k zero h = refl
from_same {A} f g k (suc n) h =
    ap (λ (x : A). x ∷ list_from f (suc k) n) (h k (omega arith) (omega arith))
    ∙ ap (λ (xs : List A). g k ∷ xs) (from_same f g (suc k) n (λ i a b. h i (omega arith) (omega arith)))

-- one number more gives one entry more, at the end
pub from_snoc : {A : Type 0} (f : ℕ → A) (k n : ℕ) → list_from f k (suc n) ≡ list_from f k n ++ f (k + n) ∷ []
unfolding list_from
from_snoc {A} f k zero = let e : k ≡ k + 0 = omega arith in ap (λ (i : ℕ). f i ∷ []) e
from_snoc {A} f k (suc n) =
    let e : suc k + n ≡ k + suc n = omega arith in
    ap (λ (xs : List A). f k ∷ xs) (from_snoc f (suc k) n ∙ ap (λ (i : ℕ). list_from f (suc k) n ++ f i ∷ []) e)

-- a number that passes, where one of those from k on does
pub any_told : (test : ℕ → Bool) (k n : ℕ) → any_from test k n ≡ true → (i : ℕ) × (k ≤ i) × (i < k + n) × (test i ≡ true)
unfolding any_from
any_told test k zero e = absurd (false≢true e)
any_told test k (suc n) e = go (any_told test (suc k) n) (test k) refl e
  where
    go : (any_from test (suc k) n ≡ true → (i : ℕ) × (suc k ≤ i) × (i < suc k + n) × (test i ≡ true)) → (b : Bool) → test k ≡ b
        → (b || any_from test (suc k) n) ≡ true → (i : ℕ) × (k ≤ i) × (i < k + suc n) × (test i ≡ true)
    go ih true q r = (k, omega arith, omega arith, q)
    go ih false q r = let w = ih r in let a = w.1 in let b = w.2 in (w.0, omega (arith, a), omega (arith, b), w.3)

-- and one of them does where such a number passes
pub any_passes : (test : ℕ → Bool) (i k n : ℕ) → k ≤ i → i < k + n → test i ≡ true → any_from test k n ≡ true
unfolding any_from
any_passes test i k zero a b e = absurd (omega (arith, a, b))
any_passes test i k (suc n) a b e = go (any_passes test i (suc k) n) (eqb k i) refl
  where
    or_true : (a : Bool) → (a || true) ≡ true
    or_true true = refl
    or_true false = refl

    go : (suc k ≤ i → i < suc k + n → test i ≡ true → any_from test (suc k) n ≡ true) → (t : Bool) → eqb k i ≡ t → (test k || any_from test (suc k) n) ≡ true
    go ih true q = rw (eqb-true k i q, e)
    go ih false q = let n0 : k ≡ i → ⊥ = eqb-false k i q in rw (ih (omega (arith, n0, a)) (omega (arith, b)) e) (or_true (test k))

-- a test over numbers that one of them alone can pass is that one's
pub any_only : (test : ℕ → Bool) (i k n : ℕ) → k ≤ i → i < k + n → ((j : ℕ) → j < k + n → (i ≡ j → ⊥) → test j ≡ false) → any_from test k n ≡ test i
any_only test i k n a b others = go (test i) refl
  where
    go : (t : Bool) → test i ≡ t → any_from test k n ≡ t
    go true q = any_passes test i k n a b q
    go false q = none_any test k n (λ j c d. each j d (eqb i j) refl)
      where
        each : (j : ℕ) → j < k + n → (t : Bool) → eqb i j ≡ t → test j ≡ false
        each j d true e = ap test (sym (eqb-true i j e)) ∙ q
        each j d false e = others j d (eqb-false i j e)
