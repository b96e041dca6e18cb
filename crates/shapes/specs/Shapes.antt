-- The shape of a line, byte by byte, and the text of a shape; a byte is its number in ASCII.
use Rattle.std.specs.Prelude.{cond, List, [], ◌∷◌, ◌++◌, ℕ, ◌≤◌, eqb, Option, None, Some}
use Rattle.text.specs.Decimal.{decimal_of}
use Rattle.text.specs.Reading.{blank, largest, Taken, read_number}
use Rattle.shapes.specs.declared.Shape.{Shape}
use Rattle.shapes.specs.declared.Shape.TheVariants.{Word, One, Two}

-- after a first number and a blank a second number ends the line
abbrev pub read_second : ℕ → ℕ → Option Taken → Option Shape
read_second letter a None = None
read_second letter a (Some (b, [])) = Some (Two letter a b)
read_second letter a (Some (b, x ∷ rest)) = None

-- a first number ends the line, or a blank and a second number follow it
abbrev pub read_first : ℕ → Option Taken → Option Shape
read_first letter None = None
read_first letter (Some (a, [])) = Some (One letter a)
read_first letter (Some (a, x ∷ rest)) = read_second letter a (read_number rest)

-- a line: a letter alone, or a letter, a blank and what follows
abbrev pub shape_of : List ℕ → Option Shape
shape_of [] = None
shape_of (letter ∷ []) = Some (Word letter)
shape_of (letter ∷ x ∷ rest) = cond (eqb x blank) (read_first letter (read_number rest)) None

-- a shape's one text: its letter, and each of its numbers after one blank
abbrev pub text_of : Shape → List ℕ
text_of (Word letter) = letter ∷ []
text_of (One letter a) = letter ∷ blank ∷ decimal_of a
text_of (Two letter a b) = letter ∷ blank ∷ (decimal_of a ++ blank ∷ decimal_of b)

-- each number of a shape is one that a line may hold
abbrev pub Small : Shape → Type 0
Small (Word letter) = Unit {0}
Small (One letter a) = a ≤ largest
Small (Two letter a b) = (a ≤ largest) × (b ≤ largest)
