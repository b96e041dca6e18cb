-- The least held place: that what is found is held and nothing held comes before it.
use mathlib.Core.Path.{◌≡◌, refl, sym, ap, ◌∙◌, subst}
use mathlib.Core.Bool.{Bool, true, false, cond, ◌&&◌, false≢true}
use mathlib.Core.List.{List, [], ◌∷◌}
use Prim.Native.Nat.{ℕ, zero, suc, ◌+◌, ◌<◌}
use native.Mathlib.Omega.{arith}
use lib.ListN.{length, get_or, drop, drop_of_length-le}
use lib.Seq.{drop-cons}
use Rattle.places.specs.Places.{count}
use Rattle.places.specs.Choice.{Key, comes_before, Choice, nothing, at, better, least, least_held, Leads}
use Rattle.places.proofs.Count.{count_none, count_some}
use Rattle.places.proofs.Order.{not_self, not_earlier}

-- that the choice leads
module _ {A : Type 0} (held : A → Bool) (key : ℕ → A → Key) (free : A) (unheld : held free ≡ false) where
  -- the choice is a held place of the list
  Held : List A → Choice A → Type 0
  Held xs nothing = Unit {0}
  Held xs (at k x) = (k < length xs) × (get_or xs k free ≡ x) × (held x ≡ true)

  better_held : (xs : List A) (best : Choice A) (k : ℕ) → k < length xs → Held xs best → Held xs (better held key best k (get_or xs k free))
  unfolding better Held
  better_held xs nothing k h g = go (held (get_or xs k free)) refl
    where
      go : (t : Bool) → held (get_or xs k free) ≡ t → Held xs (cond t (at k (get_or xs k free)) nothing)
      go true p = (h, refl, p)
      go false p = tt
  better_held xs (at j y) k h g = go (held (get_or xs k free)) refl (comes_before (key k (get_or xs k free)) (key j y))
    where
      go : (t : Bool) → held (get_or xs k free) ≡ t → (s : Bool) → Held xs (cond (t && s) (at k (get_or xs k free)) (at j y))
      go true p true = (h, refl, p)
      go true p false = g
      go false p s = g

  least_held_lem : (xs : List A) (m : ℕ) (best : Choice A) (k : ℕ) → k + m ≡ length xs → Held xs best → Held xs (least held key best k (drop k xs))
  unfolding least
  least_held_lem xs zero best k e g = rw (drop_of_length-le xs {i = k} (omega arith)) g
  least_held_lem xs (suc m) best k e g =
      rw (drop-cons xs k free (omega arith)) (least_held_lem xs m (better held key best k (get_or xs k free)) (suc k) (omega arith) (better_held xs best k (omega arith) g))

  -- x at place i does not come before the choice, which there is
  Ahead : ℕ → A → Choice A → Type 0
  Ahead i x nothing = ⊥
  Ahead i x (at j y) = comes_before (key i x) (key j y) ≡ false

  better_ahead : (best : Choice A) (k : ℕ) (y : A) (i : ℕ) (x : A) → Ahead i x best → Ahead i x (better held key best k y)
  unfolding better Ahead
  better_ahead nothing k y i x g = absurd g
  better_ahead (at j b) k y i x g = go (held y) (comes_before (key k y) (key j b)) refl
    where
      go : (t s : Bool) → comes_before (key k y) (key j b) ≡ s → Ahead i x (cond (t && s) (at k y) (at j b))
      go true true p = not_earlier (key i x) (key j b) (key k y) p g
      go true false p = g
      go false s p = g

  better_self : (best : Choice A) (k : ℕ) (y : A) → held y ≡ true → Ahead k y (better held key best k y)
  unfolding better Ahead
  better_self nothing k y h = rw h (not_self (key k y))
  better_self (at j b) k y h = rw h (go (comes_before (key k y) (key j b)) refl)
    where
      go : (s : Bool) → comes_before (key k y) (key j b) ≡ s → Ahead k y (cond s (at k y) (at j b))
      go true q = not_self (key k y)
      go false q = q

  least_ahead : (best : Choice A) (k : ℕ) (xs : List A) (i : ℕ) (x : A) → Ahead i x best → Ahead i x (least held key best k xs)
  unfolding least
  least_ahead best k [] i x g = g
  least_ahead best k (y ∷ ys) i x g = least_ahead (better held key best k y) (suc k) ys i x (better_ahead best k y i x g)

  least_all : (best : Choice A) (k : ℕ) (xs : List A) (i : ℕ) → held (get_or xs i free) ≡ true → Ahead (k + i) (get_or xs i free) (least held key best k xs)
  unfolding least
  least_all best k [] i h = absurd (false≢true (sym unheld ∙ h))
  least_all best k (y ∷ ys) zero h =
      least_ahead (better held key best k y) (suc k) ys (k + 0) y (subst (λ (m : ℕ). Ahead m y (better held key best k y)) (omega arith) (better_self best k y h))
  least_all best k (y ∷ ys) (suc i) h =
      subst (λ (m : ℕ). Ahead m (get_or ys i free) (least held key (better held key best k y) (suc k) ys)) (omega arith) (least_all (better held key best k y) (suc k) ys i h)

  pub leads : (xs : List A) → Leads held key free xs (least_held held key xs)
  unfolding Ahead Held
  leads xs =
      go (least_held held key xs) (least_held_lem xs (length xs) nothing 0 (omega arith) tt)
      (λ i h. subst (λ (m : ℕ). Ahead m (get_or xs i free) (least_held held key xs)) (omega arith) (least_all nothing 0 xs i h))
    where
      go : (x : Choice A) → Held xs x → ((i : ℕ) → held (get_or xs i free) ≡ true → Ahead i (get_or xs i free) x) → Leads held key free xs x
      go nothing g f = f
      go (at k x) g f = (g.0, g.1, g.2, f)

  -- there is a choice exactly where some place is held
  pub none_held : (xs : List A) → least_held held key xs ≡ nothing → count held xs ≡ 0
  none_held xs e = count_none held xs free (subst (Leads held key free xs) e (leads xs))

  pub some_held : (xs : List A) (k : ℕ) (x : A) → least_held held key xs ≡ at k x → 0 < count held xs
  some_held xs k x e =
      let l : Leads held key free xs (at k x) = subst (Leads held key free xs) e (leads xs) in
      count_some held xs k free l.0 (ap held l.1 ∙ l.2)
