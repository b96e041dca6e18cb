-- Each way that a line can go after its first number and a blank: no second number, one that ends the line, or one that does not.
use Rattle.std.specs.Prelude.{None, Some}
use mathlib.Core.Path.{◌≡◌, sym, ◌∙◌}
use Rattle.std.specs.Bool.{then_some}
use mathlib.Core.List.{List, [], ◌∷◌}
use Prim.Native.Nat.{ℕ, ◌+◌, ◌≤◌, ◌<◌}
use native.Mathlib.Decide.{dec_lt}
use native.Mathlib.Numerals.{add-one}
use native.Mathlib.Omega.{arith}
use borrow.Author.Tests.{eq-eqb, ne_eqb}
use lib.Dec.{eqb}
use lib.ListN.{length, get_or, drop, drop_of_length-le}
use lib.Seq.{drop-cons}
use Rattle.text.specs.Reading.{blank, read_number}
use Rattle.shapes.specs.declared.Shape.TheVariants.{Two}
use Rattle.shapes.specs.Shapes.{read_first, read_second, shape_of}

module _ (line : List ℕ) (l : 2 ≤ length line) (b : get_or line 1 0 ≡ blank) (a p : ℕ) (first : read_number (drop 2 line) ≡ Some (a, drop p line)) (h : p < length line) where
  line_spaced : (line : List ℕ) → 2 ≤ length line → get_or line 1 0 ≡ blank → shape_of line ≡ read_first (get_or line 0 0) (read_number (drop 2 line))
  line_spaced [] l b = absurd (omega arith)
  line_spaced (x ∷ []) l b = absurd (omega arith)
  line_spaced (x ∷ y ∷ ys) l b = rw (eq-eqb y blank b)

  line_more : shape_of line ≡ read_second (get_or line 0 0) a (read_number (drop (p + 1) line))
  line_more = line_spaced line l b ∙ rw (first, drop-cons line p 0 h, add-one)

  pub second_missing : read_number (drop (p + 1) line) ≡ None → shape_of line ≡ None
  second_missing e = line_more ∙ rw e

  pub second_ends : (letter c q : ℕ) → letter ≡ get_or line 0 0 → q ≤ length line → read_number (drop (p + 1) line) ≡ Some (c, drop q line)
      → then_some (eqb q (length line)) (Two letter a c) ≡ shape_of line
  second_ends letter c q first_byte n second = go (dec_lt q (length line))
    where
      go : Dec (q < length line) → then_some (eqb q (length line)) (Two letter a c) ≡ shape_of line
      go (yes m) = rw (ne_eqb q (length line) (λ e. omega arith)) (sym (line_more ∙ rw (second, drop-cons line q 0 m)))
      go (no m) =
          rw (eq-eqb q (length line) (omega arith), first_byte) (sym (line_more ∙ rw (second, drop_of_length-le line {i = q} (omega arith))))
