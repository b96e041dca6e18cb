-- What a count says of a list's members, and what holds of the members of joined, repeated, mapped and stored lists.
use mathlib.Core.Path.{◌≡◌, refl}
use mathlib.Core.Logic.{inl, inr}
use mathlib.Core.Bool.{Bool, true, false}
use mathlib.Core.List.{List, [], ◌∷◌, ◌++◌, map}
use Prim.Native.Nat.{ℕ, zero, suc, ◌+◌, ◌≤◌, ◌<◌}
use native.Mathlib.Nat.{not-suc-le-zero}
use native.Mathlib.Omega.{arith}
use lib.ListN.{length, get_or, set, replicate}
use Rattle.places.specs.Places.{bit, count}
use Rattle.places.specs.Members.{Each, Any}
use Rattle.places.proofs.Count.{bit_le}

module _ {A : Type 0} where
  -- none passes
  pub none_passes : (p : A → Bool) (xs : List A) → count p xs ≡ 0 → Each (λ x. p x ≡ false) xs
  unfolding count
  none_passes p [] z = tt
  none_passes p (x ∷ xs) z = (go (p x) refl (omega arith), none_passes p xs (omega arith))
    where
      go : (t : Bool) → p x ≡ t → bit t ≡ 0 → p x ≡ false
      go true e o = absurd (omega arith)
      go false e o = e

  pub none_counted : (p : A → Bool) (xs : List A) → Each (λ x. p x ≡ false) xs → count p xs ≡ 0
  unfolding count
  none_counted p [] e = refl
  none_counted p (x ∷ xs) e = rw e.0 (omega (arith, none_counted p xs e.1))

  -- of a list of which each member that passes a test passes another, no more pass the first
  pub each_counts : (p q : A → Bool) (xs : List A) → Each (λ x. p x ≡ true → q x ≡ true) xs → count p xs ≤ count q xs
  unfolding count
  each_counts p q [] e = omega arith
  each_counts p q (x ∷ xs) e = omega (arith, bit_le (p x) (q x) e.0, each_counts p q xs e.1)

  -- some passes
  pub some_passes : (p : A → Bool) (xs : List A) → 0 < count p xs → Any (λ x. p x ≡ true) xs
  unfolding count
  some_passes p [] h = absurd (not-suc-le-zero h)
  some_passes p (x ∷ xs) h = go (p x) refl h (some_passes p xs)
    where
      go : (t : Bool) → p x ≡ t → 0 < bit t + count p xs → (0 < count p xs → Any (λ y. p y ≡ true) xs) → Any (λ y. p y ≡ true) (x ∷ xs)
      go true e l r = inl e
      go false e l r = inr (r (omega arith))

  pub each_map : (P Q : A → Type 0) → ((x : A) → P x → Q x) → (xs : List A) → Each P xs → Each Q xs
  each_map P Q f [] e = tt
  each_map P Q f (x ∷ xs) e = (f x e.0, each_map P Q f xs e.1)

  pub each_both : (P Q : A → Type 0) (xs : List A) → Each P xs → Each Q xs → Each (λ x. P x × Q x) xs
  each_both P Q [] p q = tt
  each_both P Q (x ∷ xs) p q = ((p.0, q.0), each_both P Q xs p.1 q.1)

  pub each_append : (P : A → Type 0) (xs ys : List A) → Each P xs → Each P ys → Each P (xs ++ ys)
  each_append P [] ys e f = f
  each_append P (x ∷ xs) ys e f = (e.0, each_append P xs ys e.1 f)

  pub each_put : (P : A → Type 0) (xs : List A) (y : A) (ys : List A) → P y → Each P (xs ++ ys) → Each P (xs ++ y ∷ ys)
  each_put P [] y ys p e = (p, e)
  each_put P (x ∷ xs) y ys p e = (e.0, each_put P xs y ys p e.1)

  pub each_first : (P : A → Type 0) (xs ys : List A) → Each P (xs ++ ys) → Each P xs
  each_first P [] ys e = tt
  each_first P (x ∷ xs) ys e = (e.0, each_first P xs ys e.1)

  pub each_last : (P : A → Type 0) (xs : List A) (y : A) → Each P (xs ++ y ∷ []) → P y
  each_last P [] y e = e.0
  each_last P (x ∷ xs) y e = each_last P xs y e.1

  pub each_replicate : (P : A → Type 0) (n : ℕ) (x : A) → P x → Each P (replicate n x)
  each_replicate P zero x p = tt
  each_replicate P (suc n) x p = (p, each_replicate P n x p)

  pub some_map : (P Q : A → Type 0) → ((x : A) → P x → Q x) → (xs : List A) → Any P xs → Any Q xs
  some_map P Q f [] e = absurd e
  some_map P Q f (x ∷ xs) (inl p) = inl (f x p)
  some_map P Q f (x ∷ xs) (inr e) = inr (some_map P Q f xs e)

  -- what holds of each member holds of the one at an index
  pub each_at : (P : A → Type 0) (d : A) (xs : List A) (i : ℕ) → i < length xs → Each P xs → P (get_or xs i d)
  each_at P d [] i l e = absurd (not-suc-le-zero l)
  each_at P d (x ∷ xs) zero l e = e.0
  each_at P d (x ∷ xs) (suc i) l e = each_at P d xs i (omega arith) e.1

  -- and, where it holds of what stands past the end too, of the one at any index
  pub each_anywhere : (P : A → Type 0) (d : A) → P d → (xs : List A) (i : ℕ) → Each P xs → P (get_or xs i d)
  each_anywhere P d p [] i e = p
  each_anywhere P d p (x ∷ xs) zero e = e.0
  each_anywhere P d p (x ∷ xs) (suc i) e = each_anywhere P d p xs i e.1

  -- a store of what it holds of keeps it
  pub each_set : (P : A → Type 0) (xs : List A) (i : ℕ) (x : A) → P x → Each P xs → Each P (set xs i x)
  each_set P [] i x p e = tt
  each_set P (y ∷ xs) zero x p e = (p, e.1)
  each_set P (y ∷ xs) (suc i) x p e = (e.0, each_set P xs i x p e.1)

  -- what follows from each member that a statement holds of follows where it holds of some
  pub some_gives : (P : A → Type 0) (R : Type 0) → ((x : A) → P x → R) → (xs : List A) → Any P xs → R
  some_gives P R f [] s = absurd s
  some_gives P R f (x ∷ xs) (inl p) = f x p
  some_gives P R f (x ∷ xs) (inr s) = some_gives P R f xs s

  -- what holds of each holds of the one that a statement holds of
  pub some_both : (P Q : A → Type 0) (xs : List A) → Any P xs → Each Q xs → Any (λ x. P x × Q x) xs
  some_both P Q [] s e = s
  some_both P Q (x ∷ xs) (inl p) e = inl (p, e.0)
  some_both P Q (x ∷ xs) (inr s) e = inr (some_both P Q xs s e.1)

-- what holds of each thing made from others holds of what it is made from, and the other way
module _ {A B : Type 0} (f : A → B) (P : B → Type 0) where
  pub each_mapped : (xs : List A) → Each (λ x. P (f x)) xs → Each P (map f xs)
  each_mapped [] e = tt
  each_mapped (x ∷ xs) e = (e.0, each_mapped xs e.1)

  pub each_made : (xs : List A) → Each P (map f xs) → Each (λ x. P (f x)) xs
  each_made [] e = tt
  each_made (x ∷ xs) e = (e.0, each_made xs e.1)
