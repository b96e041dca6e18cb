-- The places of a part: each step of a scan for the first free one from the part's end, that all are held exactly where none is free,
-- and each step of a tally of the held ones.
use mathlib.Core.Path.{◌≡◌, refl, subst, ◌∙◌}
use mathlib.Core.Bool.{Bool, true, false, not, cond}
use mathlib.Core.List.{List, [], ◌∷◌}
use Prim.Native.Nat.{ℕ, suc, ◌+◌, ◌-◌, ◌≤◌, ◌<◌}
use native.Mathlib.Decide.{dec_lt}
use native.Mathlib.Nat.{not-suc-le-zero}
use native.Mathlib.Omega.{arith}
use borrow.Author.Tests.{not-true, not-false}
use lib.ListN.{length, get_or, take, drop, length-take, length-drop, drop_of_length-le}
use lib.Seq.{drop-cons, get_or-take, get_or-drop}
use Rattle.places.specs.Places.{bit, count, first_free}
use Rattle.places.proofs.Count.{count_le_length, tally_more, tally_same, tally_ends}

module _ {A : Type 0} (held : A → Bool) where
  -- where some place is free, not all are held
  pub free_left : (xs : List A) → first_free held xs < length xs → count held xs < length xs
  unfolding first_free count
  free_left [] h = absurd (not-suc-le-zero h)
  free_left (x ∷ xs) h = go (free_left xs) (held x) h
    where
      go : (first_free held xs < length xs → count held xs < length xs) → (t : Bool) → cond t (suc (first_free held xs)) 0 < suc (length xs)
          → bit t + count held xs < suc (length xs)
      go r true p = omega (arith, r (omega arith))
      go r false p = omega (arith, count_le_length held xs)

  -- where no place is free, all are held
  pub none_left : (xs : List A) → length xs ≤ first_free held xs → length xs ≤ count held xs
  unfolding first_free count
  none_left [] h = omega arith
  none_left (x ∷ xs) h = go (none_left xs) (held x) h
    where
      go : (length xs ≤ first_free held xs → length xs ≤ count held xs) → (t : Bool) → suc (length xs) ≤ cond t (suc (first_free held xs)) 0
          → suc (length xs) ≤ bit t + count held xs
      go r true p = omega (arith, r (omega arith))
      go r false p = absurd (omega arith)

  -- where not all are held, the first free place is one of them
  pub room_left : (xs : List A) → count held xs < length xs → first_free held xs < length xs
  room_left xs h = go (dec_lt (first_free held xs) (length xs))
    where
      go : Dec (first_free held xs < length xs) → first_free held xs < length xs
      go (yes l) = l
      go (no l) = absurd (omega (arith, none_left xs (omega arith)))

  pub first_is_free : (xs : List A) (d : A) → first_free held xs < length xs → held (get_or xs (first_free held xs) d) ≡ false
  unfolding first_free
  first_is_free [] d h = absurd (not-suc-le-zero h)
  first_is_free (x ∷ xs) d h = go (first_is_free xs d) (held x) refl h
    where
      go : (first_free held xs < length xs → held (get_or xs (first_free held xs) d) ≡ false) → (t : Bool) → held x ≡ t
          → cond t (suc (first_free held xs)) 0 < suc (length xs) → held (get_or (x ∷ xs) (cond t (suc (first_free held xs)) 0) d) ≡ false
      go r true p q = r (omega arith)
      go r false p q = p

-- a tally of the held ones of n places from b on has come to the i-th of them with m
abbrev pub Tallied : {A : Type 0} → (A → Bool) → List A → ℕ → ℕ → ℕ → ℕ → Type 0
Tallied held all b n i m = (i ≤ n) × (m ≤ i) × (m ≡ count held (take i (take n (drop b all))))

-- a part of n places from b on, scanned from its end: k is the first free place from i on
module _ {A : Type 0} (held : A → Bool) (d : A) (all : List A) (b n : ℕ) (fits : b + n ≤ length all) where
  abbrev pub part : List A
  part = take n (drop b all)

  pub part_length : length part ≡ n
  part_length = simp (length-take, length-drop) (omega arith)

  -- the first free place tells whether all n are held
  module _ (k : ℕ) (e : k ≡ first_free held part) where
    pub part_full : n ≤ k → n ≤ count held part
    part_full f = omega (arith, part_length, none_left held part (omega (arith, part_length)))

    pub part_room : k < n → count held part < n
    part_room f = omega (arith, part_length, free_left held part (omega (arith, part_length)))

  -- the part's places are those from b on
  pub part_at : (i : ℕ) → i < n → get_or part i d ≡ get_or all (b + i) d
  part_at i h = get_or-take n (drop b all) i d h ∙ get_or-drop b all i d

  -- each step of a tally, and what it comes to
  module _ (i m : ℕ) (h : i < n) (t : Tallied held all b n i m) where
    pub tallied_more : held (get_or all (b + i) d) ≡ true → Tallied held all b n (i + 1) (m + 1)
    tallied_more y = (omega arith, omega (arith, t.1), tally_more held part i m d (omega (arith, part_length)) t.2 (rw (part_at i h) y))

    pub tallied_same : held (get_or all (b + i) d) ≡ false → Tallied held all b n (i + 1) m
    tallied_same y = (omega arith, omega (arith, t.1), tally_same held part i m d (omega (arith, part_length)) t.2 (rw (part_at i h) y))

  pub tallied_ends : (i m : ℕ) → Tallied held all b n i m → n ≤ i → m ≡ count held part
  tallied_ends i m t h = tally_ends held part i m t.2 (omega (arith, part_length))

  step : (i : ℕ) → i < n → first_free held (drop i part) ≡ cond (held (get_or all (b + i) d)) (suc (first_free held (drop (suc i) part))) 0
  unfolding first_free
  step i h = rw (drop-cons part i d (omega (arith, part_length)), part_at i h)

  back : (i : ℕ) → 0 < i → i ≤ n → first_free held (drop (i - 1) part) ≡ cond (held (get_or all (b + (i - 1)) d)) (suc (first_free held (drop i part))) 0
  back i l h =
      let e : suc (i - 1) ≡ i = omega arith in
      subst (λ (m : ℕ). first_free held (drop (i - 1) part) ≡ cond (held (get_or all (b + (i - 1)) d)) (suc (first_free held (drop m part))) 0) e
      (step (i - 1) (omega arith))

  pub scan_starts : n ≡ n + first_free held (drop n part)
  unfolding first_free
  scan_starts = rw (drop_of_length-le part {i = n} (omega (arith, part_length))) (omega arith)

  pub scan_free : (i : ℕ) → 0 < i → i ≤ n → not (held (get_or all (b + (i - 1)) d)) ≡ true → i - 1 ≡ i - 1 + first_free held (drop (i - 1) part)
  scan_free i l h t =
      let f : held (get_or all (b + (i - 1)) d) ≡ false = not-true _ t in
      let s : first_free held (drop (i - 1) part) ≡ 0 = rw (back i l h, f) in
      omega arith

  pub scan_held : (i k : ℕ) → 0 < i → i ≤ n → k ≡ i + first_free held (drop i part) → not (held (get_or all (b + (i - 1)) d)) ≡ false
      → k ≡ i - 1 + first_free held (drop (i - 1) part)
  scan_held i k l h e t =
      let f : held (get_or all (b + (i - 1)) d) ≡ true = not-false _ t in
      let s : first_free held (drop (i - 1) part) ≡ suc (first_free held (drop i part)) = rw (back i l h, f) in
      omega arith

  pub scan_ends : (i k : ℕ) → i ≤ 0 → k ≡ i + first_free held (drop i part) → k ≡ first_free held part
  scan_ends i k h e =
      let z : i ≡ 0 = omega arith in
      let f : k ≡ 0 + first_free held part = rw z at e in
      omega arith
