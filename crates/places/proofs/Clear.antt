-- Clearing the places that pass a test: each step of a pass over them that also counts them.
use mathlib.Core.Path.{◌≡◌, refl, ◌∙◌}
use mathlib.Core.Bool.{Bool, true, false}
use mathlib.Core.List.{List, [], ◌∷◌, ◌++◌, map-append, append-nil}
use Prim.Native.Nat.{ℕ, ◌+◌, ◌≤◌, ◌<◌}
use native.Mathlib.Numerals.{add-one}
use native.Mathlib.Omega.{arith}
use lib.ListN.{length, get_or, set, take, drop, length-take, length-map, drop_of_length-le}
use lib.Seq.{drop-cons, take-suc, take_all, append_snoc, set_at, get_or_at}
use Rattle.places.specs.Places.{count, cleared, cleared_all}
use Rattle.places.proofs.Count.{count_take}

module _ {A : Type 0} (gone : A → Bool) (free d : A) (n : ℕ) where
  -- the pass has come to place i: the places before it are cleared, and m of them passed the test
  abbrev pub Cleared : List A → List A → ℕ → ℕ → Type 0
  Cleared was xs m i = (xs ≡ cleared_all gone free (take i was) ++ drop i was) × (m ≡ count gone (take i was)) × (m ≤ i)

  pub clear_starts : (was : List A) → Cleared was was 0 0
  unfolding count
  clear_starts was = (refl, refl, omega arith)

  module _ (was xs : List A) (m i : ℕ) (l : length was ≡ n) (p : i < n) (q : Cleared was xs m i) where
    front : List A
    front = cleared_all gone free (take i was)

    front_length : length front ≡ i
    unfolding front
    front_length = simp (length-map, length-take) (omega arith)

    split : xs ≡ front ++ get_or was i d ∷ drop (i + 1) was
    unfolding front
    split = q.0 ∙ rw (drop-cons was i d (omega arith), add-one)

    next : (a : A) → cleared gone free (get_or was i d) ≡ a → front ++ a ∷ drop (i + 1) was ≡ cleared_all gone free (take (i + 1) was) ++ drop (i + 1) was
    unfolding front
    next a e = rw (add-one, take-suc was i d (omega arith), map-append, e, append_snoc)

    -- the place not yet reached is as it was
    pub clear_same : get_or xs i d ≡ get_or was i d
    clear_same = rw (split, get_or_at front (get_or was i d) (drop (i + 1) was) d i front_length)

    pub clear_kept : gone (get_or xs i d) ≡ false → Cleared was xs m (i + 1)
    clear_kept h =
        let e : gone (get_or was i d) ≡ false = rw clear_same at h in (
          split ∙ next (get_or was i d) (rw e),
          rw (count_take gone was i d (omega arith), e) (omega arith),
          omega arith,
        )

    pub clear_gone : gone (get_or xs i d) ≡ true → Cleared was (set xs i free) (m + 1) (i + 1)
    clear_gone h =
        let e : gone (get_or was i d) ≡ true = rw clear_same at h in (
          rw (split, set_at front (get_or was i d) (drop (i + 1) was) free i front_length) (next free (rw e)),
          rw (count_take gone was i d (omega arith), e) (omega arith),
          omega arith,
        )

  pub clear_ends : (was xs : List A) (m i : ℕ) → Cleared was xs m i → length was ≡ n → n ≤ i → (xs ≡ cleared_all gone free was) × (m ≡ count gone was)
  clear_ends was xs m i q l h =
      let t : take i was ≡ was = take_all i was (omega arith) in
      let r : drop i was ≡ [] = drop_of_length-le was {i = i} (omega arith) in
      (q.0 ∙ rw (t, r, append-nil), q.1 ∙ rw t)
