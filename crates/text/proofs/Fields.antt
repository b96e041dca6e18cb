-- Reading a number of a line place by place: each step of it.
use Rattle.std.specs.Prelude.{Option, None, Some}
use Rattle.std.proofs.lemmas.Option.{none-some, cond_some}
use mathlib.Core.Path.{◌≡◌, refl, sym, ◌∙◌}
use mathlib.Core.Bool.{Bool, true, false, cond}
use mathlib.Core.List.{List}
use Prim.Native.Nat.{ℕ, ◌+◌, ◌-◌, ◌≤◌, ◌<◌}
use native.Mathlib.Numerals.{add-one}
use borrow.Author.Tests.{eq-eqb, ne_eqb}
use native.Mathlib.Omega.{arith}
use lib.ListN.{length, get_or, take, drop, length-drop, drop_of_length-le}
use lib.Seq.{drop-cons, length-take-le}
use Rattle.std.proofs.lemmas.List.{get_or-take, get_or-drop}
use Rattle.text.specs.Reading.{blank, is_digit, grown, goes_on, read_on, read_number}

module _ (line : List ℕ) (i : ℕ) where
  pub no_byte : length line ≤ i → read_number (drop i line) ≡ None
  no_byte l = rw (drop_of_length-le line {i = i} l)

  pub ends : (value : ℕ) → length line ≤ i → read_on value (drop i line) ≡ Some (value, drop (length line) line)
  unfolding read_on
  ends value l = rw (drop_of_length-le line {i = i} l, drop_of_length-le line {i = length line} (omega arith))

  module _ (l : i < length line) where
    pub no_digit : is_digit (get_or line i 0) ≡ false → read_number (drop i line) ≡ None
    no_digit d = rw (drop-cons line i 0 l, d)

    pub starts : is_digit (get_or line i 0) ≡ true → read_number (drop i line) ≡ read_on (get_or line i 0 - 48) (drop (i + 1) line)
    starts d = rw (drop-cons line i 0 l, d, add-one)

    pub stops : (value : ℕ) → get_or line i 0 ≡ blank → read_on value (drop i line) ≡ Some (value, drop i line)
    unfolding read_on
    stops value b = rw (drop-cons line i 0 l, eq-eqb (get_or line i 0) blank b)

    -- a byte that is no blank goes on with the number, or spoils it
    module _ (value : ℕ) (b : get_or line i 0 ≡ blank → ⊥) (o : Option ℕ) (e : o ≡ cond (goes_on value (get_or line i 0)) (Some (grown value (get_or line i 0))) None) where
      goes_by : read_on value (drop i line) ≡ cond (goes_on value (get_or line i 0)) (read_on (grown value (get_or line i 0)) (drop (i + 1) line)) None
      unfolding read_on
      goes_by = rw (drop-cons line i 0 l, ne_eqb (get_or line i 0) blank b, add-one)

      pub spoils : o ≡ None → read_on value (drop i line) ≡ None
      spoils n = goes_by ∙ go (goes_on value (get_or line i 0)) (sym e ∙ n)
        where
          go : (t : Bool) → cond t (Some (grown value (get_or line i 0))) None ≡ None → cond t (read_on (grown value (get_or line i 0)) (drop (i + 1) line)) None ≡ None
          go true z = absurd (none-some _ (sym z))
          go false z = refl

      pub goes : (more : ℕ) → o ≡ Some more → read_on value (drop i line) ≡ read_on more (drop (i + 1) line)
      goes more n =
          let t = cond_some (goes_on value (get_or line i 0)) (grown value (get_or line i 0)) more (sym e ∙ n) in
          goes_by ∙ rw (t.0, t.1)

-- what stands behind a place
module _ (line : List ℕ) (k : ℕ) where
  pub behind_long : length (take (length line - k) (drop k line)) ≡ length line - k
  behind_long = length-take-le (length line - k) (drop k line) (omega (arith, length-drop k line))

  pub behind_at : (i : ℕ) → i < length line - k → get_or (take (length line - k) (drop k line)) i 0 ≡ get_or line (k + i) 0
  behind_at i l = get_or-take (length line - k) (drop k line) i 0 l ∙ get_or-drop k line i 0
