-- A line has a shape exactly where it is the shape's one text.
use Rattle.std.specs.Prelude.{Option, None, Some}
use Rattle.std.proofs.lemmas.Option.{same_Some, none-some}
use mathlib.Core.Path.{◌≡◌, refl, ◌∙◌, ap, subst}
use mathlib.Core.Bool.{Bool, true, false, cond}
use mathlib.Core.List.{List, [], ◌∷◌, ◌++◌, append-nil}
use Prim.Native.Nat.{ℕ, ◌≤◌}
use native.Mathlib.Omega.{arith}
use borrow.Author.Tests.{eqb-true}
use lib.Dec.{eqb}
use lib.ListN.{length-append}
use Rattle.text.specs.Decimal.{decimal_of}
use Rattle.text.specs.Reading.{blank, largest, Taken, read_number}
use Rattle.text.proofs.Decimal.{ten_digits}
use Rattle.text.proofs.Taken.{kept, read_last, read_before}
use Rattle.shapes.specs.declared.Shape.{Shape}
use Rattle.shapes.specs.declared.Shape.TheVariants.{Word, One, Two}
use Rattle.shapes.specs.Shapes.{read_second, read_first, shape_of, text_of, Small}
use Rattle.shapes.specs.Laws.{HasOneText, TextsFit}

-- a line is its shape's text, where it has a shape
abbrev Is : List ℕ → Option Shape → Type 0
Is line o = (s : Shape) → o ≡ Some s → (line ≡ text_of s) × Small s

-- a shape that was found is the line's, with this text and these numbers
found : (line : List ℕ) (t : Shape) → line ≡ text_of t → Small t → Is line (Some t)
found line t e m s h = subst (λ (u : Shape). (line ≡ text_of u) × Small u) (same_Some t s h) (e, m)

second_is : (letter a : ℕ) (rest : List ℕ) → a ≤ largest → Is (letter ∷ blank ∷ (decimal_of a ++ blank ∷ rest)) (read_second letter a (read_number rest))
second_is letter a rest l = go (read_number rest) refl
  where
    go : (o : Option Taken) → read_number rest ≡ o → Is (letter ∷ blank ∷ (decimal_of a ++ blank ∷ rest)) (read_second letter a o)
    go None p s e = absurd (none-some s e)
    go (Some (b, [])) p s e =
        let k = kept rest (b, []) p in
        let r : rest ≡ decimal_of b = k.0 ∙ append-nil (decimal_of b) in
        found _ (Two letter a b) (ap (λ (more : List ℕ). letter ∷ blank ∷ (decimal_of a ++ blank ∷ more)) r) (l, k.1) s e
    go (Some (b, x ∷ more)) p s e = absurd (none-some s e)

first_is : (letter : ℕ) (rest : List ℕ) → Is (letter ∷ blank ∷ rest) (read_first letter (read_number rest))
first_is letter rest = go (read_number rest) refl
  where
    go : (o : Option Taken) → read_number rest ≡ o → Is (letter ∷ blank ∷ rest) (read_first letter o)
    go None p s e = absurd (none-some s e)
    go (Some (a, [])) p s e =
        let k = kept rest (a, []) p in
        let r : rest ≡ decimal_of a = k.0 ∙ append-nil (decimal_of a) in
        found _ (One letter a) (ap (λ (more : List ℕ). letter ∷ blank ∷ more) r) k.1 s e
    go (Some (a, x ∷ more)) p s e =
        let k = kept rest (a, x ∷ more) p in
        let r : rest ≡ decimal_of a ++ blank ∷ more = k.0 ∙ rw k.2 in
        rw r (second_is letter a more k.1 s e)

is_text : (line : List ℕ) → Is line (shape_of line)
is_text [] s e = absurd (none-some s e)
is_text (letter ∷ []) s e = found (letter ∷ []) (Word letter) refl tt s e
is_text (letter ∷ x ∷ rest) s e = go (eqb x blank) refl e
  where
    go : (t : Bool) → eqb x blank ≡ t → cond t (read_first letter (read_number rest)) None ≡ Some s → ((letter ∷ x ∷ rest) ≡ text_of s) × Small s
    go true b e = rw (eqb-true x blank b) (first_is letter rest s e)
    go false b e = absurd (none-some s e)

-- a shape's text has the shape
has_shape : (s : Shape) → Small s → shape_of (text_of s) ≡ Some s
has_shape (Word letter) m = refl
has_shape (One letter a) m = rw (read_last a m)
has_shape (Two letter a b) m = rw (read_before a (decimal_of b) m.0, read_last b m.1)

-- and any other line has none
other : (line : List ℕ) → ((s : Shape) → line ≡ text_of s → Small s → ⊥) → shape_of line ≡ None
other line f = go (shape_of line) refl
  where
    go : (o : Option Shape) → shape_of line ≡ o → shape_of line ≡ None
    go None e = e
    go (Some s) e = let w = is_text line s e in absurd (f s w.0 w.1)

pub has_one_text : HasOneText
has_one_text line = (is_text line, λ s e m. ap shape_of e ∙ has_shape s m, other line)

-- a letter, two blanks and two numbers
pub texts_fit : TextsFit
texts_fit (Word letter) m = omega arith
texts_fit (One letter a) m = omega (arith, ten_digits a m)
texts_fit (Two letter a b) m = omega (arith, length-append (decimal_of a) (blank ∷ decimal_of b), ten_digits a m.0, ten_digits b m.1)
