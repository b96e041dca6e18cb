-- A store in a list of places: what stands where after it, and a count before and after it. A flow's first free place is free and its own.
use mathlib.Core.Path.{◌≡◌, refl, ap}
use mathlib.Core.Bool.{Bool, true, false}
use mathlib.Core.List.{List}
use Prim.Native.Nat.{ℕ, ◌+◌, ◌*◌, ◌≤◌, ◌<◌}
use native.Mathlib.Decide.{ℕ_discrete}
use native.Mathlib.Nat.{div-eq_of_lt-le, add-mul, one-mul}
use native.Mathlib.Omega.{arith}
use lib.ListN.{length, get_or, set, drop, length-set}
use lib.Seq.{get_or-set_same, get_or-set_other, get_or-take, get_or-drop}
use Rattle.places.specs.Places.{bit, count, count_at, places_of, flow_of, first_free}
use Rattle.places.proofs.CountAt.{at_here, at_set}
use Rattle.places.proofs.Free.{room_left, first_is_free, part_length}

module _ {A : Type 0} (xs : List A) (i : ℕ) (x d : A) (low : i < length xs) where
  -- an entry is the one stored, or as it was
  pub set_cases : (j : ℕ) (P : A → Type 0) → (j ≡ i → P x) → ((j ≡ i → ⊥) → P (get_or xs j d)) → P (get_or (set xs i x) j d)
  set_cases j P same other = go (ℕ_discrete j i)
    where
      go : Dec (j ≡ i) → P (get_or (set xs i x) j d)
      go (yes e) = rw (e, get_or-set_same xs i x d low) (same e)
      go (no n) = rw (get_or-set_other xs i j x d n) (other n)

  -- a field that is stored as it was is as it was everywhere
  pub set_keeps : {B : Type 0} (field : A → B) → field x ≡ field (get_or xs i d) → (j : ℕ) → field (get_or (set xs i x) j d) ≡ field (get_or xs j d)
  set_keeps field same j = set_cases j (λ y. field y ≡ field (get_or xs j d)) (λ e. rw e same) (λ n. refl)

  -- a store where nothing was counted
  pub at_more : (p : ℕ → A → Bool) → p i (get_or xs i d) ≡ false → count_at p 0 (set xs i x) ≡ bit (p i x) + count_at p 0 xs
  at_more p f =
      let z : 0 + i ≡ i = omega arith in
      let s = rw (z, f) at (at_set p 0 xs i x d low) in
      omega arith

  -- a store of what is not counted
  pub at_less : (p : ℕ → A → Bool) → p i x ≡ false → count_at p 0 (set xs i x) + bit (p i (get_or xs i d)) ≡ count_at p 0 xs
  at_less p f =
      let z : 0 + i ≡ i = omega arith in
      let s = rw (z, f) at (at_set p 0 xs i x d low) in
      omega arith

-- the places of a flow are the flow's
pub place_flow_lem : (n flow k : ℕ) → k < n → flow_of n (flow * n + k) ≡ flow
place_flow_lem n flow k l = div-eq_of_lt-le n (omega arith) (omega (arith, l, add-mul flow 1 n, one-mul n))

-- where no more than one place passes a test, two that pass are one
pub at_one : {A : Type 0} (test : ℕ → A → Bool) (free : A) → ((k : ℕ) → test k free ≡ false) → (xs : List A) → count_at test 0 xs ≤ 1
    → (i j : ℕ) → i < length xs → j < length xs → test i (get_or xs i free) ≡ true → test j (get_or xs j free) ≡ true → j ≡ i
at_one test free never xs one i j a b p q = go (ℕ_discrete j i)
  where
    go : Dec (j ≡ i) → j ≡ i
    go (yes e) = e
    go (no n) =
        let z : 0 + j ≡ j = omega arith in
        let there : test (0 + j) (get_or (set xs i free) j free) ≡ true = rw (z, get_or-set_other xs i j free free n) q in
        absurd (omega (arith, one, at_less xs i free free a test (never i), ap bit p, at_here test free 0 (set xs i free) j (rw (length-set xs i free) b) there))

-- a flow's first free place, where one is free
module _ {A : Type 0} (held : A → Bool) (d : A) (xs : List A) (n flow : ℕ) (fits : flow * n + n ≤ length xs) (room : count held (places_of n flow xs) < n) where
  first_low : first_free held (places_of n flow xs) < n
  first_low = omega (arith, part_length held d xs (flow * n) n fits, room_left held (places_of n flow xs) (omega (arith, part_length held d xs (flow * n) n fits)))

  pub free_low : flow * n + first_free held (places_of n flow xs) < length xs
  free_low = omega (arith, first_low)

  pub free_flow : flow_of n (flow * n + first_free held (places_of n flow xs)) ≡ flow
  free_flow = place_flow_lem n flow (first_free held (places_of n flow xs)) first_low

  pub free_unheld : held (get_or xs (flow * n + first_free held (places_of n flow xs)) d) ≡ false
  free_unheld =
      let f : held (get_or (places_of n flow xs) (first_free held (places_of n flow xs)) d) ≡ false =
      first_is_free held (places_of n flow xs) d (omega (arith, first_low, part_length held d xs (flow * n) n fits)) in
      rw (get_or-take n (drop (flow * n) xs) (first_free held (places_of n flow xs)) d first_low, get_or-drop (flow * n) xs (first_free held (places_of n flow xs)) d) at f
