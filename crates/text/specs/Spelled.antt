-- Texts spelled out, so that a statement can name the very words and letters of a line.
use Rattle.std.specs.Prelude.{List, ◌++◌, ℕ}
use mathlib.Core.List as list
use Prim.Native.Char.{code}
use Prim.Native.String.{String, [], ◌∷◌}
use Rattle.text.specs.Decimal.{decimal_of}

-- the bytes of a text
unfoldable pub bytes_of : String → List ℕ
bytes_of [] = list.[]
bytes_of (c ∷ s) = list.◌∷◌ (code c) (bytes_of s)

-- a number in a line: one blank, and its decimal text
abbrev pub field : ℕ → List ℕ
field n = bytes_of " " ++ decimal_of n

-- a line: its pieces one after the other, and one line feed
abbrev pub spelled : List (List ℕ) → List ℕ
spelled list.[] = bytes_of "\n"
spelled (list.◌∷◌ piece pieces) = piece ++ spelled pieces
