-- The law by which a reader may go instead: a line has a shape exactly where it is the shape's one text and its numbers are small
-- enough.
use Rattle.std.specs.Prelude.{List, ◌≡◌, ℕ, ◌≤◌, length, None, Some}
use Rattle.shapes.specs.declared.Shape.{Shape}
use Rattle.shapes.specs.Shapes.{shape_of, text_of, Small}

-- A line has a shape exactly where it is the shape's one text and each number is small enough; any other line has none.
abbrev pub HasOneText : Type 0
HasOneText =
    (line : List ℕ)
    → ((s : Shape) → shape_of line ≡ Some s → (line ≡ text_of s) × Small s)
    × ((s : Shape) → line ≡ text_of s → Small s → shape_of line ≡ Some s)
    × (((s : Shape) → line ≡ text_of s → Small s → ⊥) → shape_of line ≡ None)

-- No shape with numbers small enough has a text longer than 23 bytes.
abbrev pub TextsFit : Type 0
TextsFit = (s : Shape) → Small s → length (text_of s) ≤ 23
