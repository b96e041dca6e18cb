-- How many places of a list are held, as the list's own method counts them; and each step of a search for the first that is free.
use Rattle.std.proofs.Common.{◌≡◌, refl, sym, ◌∙◌, Bool, true, false, cond, List, ℕ, ◌+◌, ◌≤◌, ◌<◌, add-one, arith, length, get_or, drop}
use lib.Seq.{drop-cons}
use Rattle.std.specs.List.{count_by}
use Rattle.std.proofs.lemmas.List.Recursion.{is_count_by}
use Rattle.places.specs.Places.{bit, count, first_free}

module _ {A : Type 0} (held : A → Bool) where
  pub count_by_count : (xs : List A) → count_by held xs ≡ count held xs
  unfolding count
  count_by_count xs = sym (is_count_by (count held) held refl (λ x xs. go (held x) (count held xs)) xs)
    where
      go : (t : Bool) (n : ℕ) → bit t + n ≡ cond t (1 + n) n
      go true n = refl
      go false n = omega arith

  -- the places before i are held: the first free one is i places on in the rest
  pub free_beyond : (xs : List A) (i : ℕ) (x : A) → i < length xs → x ≡ get_or xs i x → held x ≡ true
      → first_free held xs ≡ i + first_free held (drop i xs) → first_free held xs ≡ (i + 1) + first_free held (drop (i + 1) xs)
  unfolding first_free
  free_beyond xs i x p e h q = q ∙ rw (drop-cons xs i x p, ← e, h, add-one) (omega arith)

  pub free_here : (xs : List A) (i : ℕ) (x : A) → i < length xs → x ≡ get_or xs i x → held x ≡ false
      → first_free held xs ≡ i + first_free held (drop i xs) → i ≡ first_free held xs
  unfolding first_free
  free_here xs i x p e h q = sym (q ∙ rw (drop-cons xs i x p, ← e, h) (omega arith))

  pub none_free : (xs : List A) (i : ℕ) → length xs ≤ i → first_free held xs ≡ i + first_free held (drop i xs) → length xs ≤ first_free held xs
  none_free xs i l q = omega (arith, q)
