-- Decimals and lines as the rules have them, and not only as they are defined.
use Rattle.std.specs.Prelude.{◌≡◌, List, [], ◌∷◌, ◌++◌, map, ℕ, ◌/◌, ◌%◌, ◌≤◌}
use Rattle.places.specs.Members.{Each}
use Rattle.text.specs.Spelled.{bytes_of}
use Rattle.text.specs.Decimal.{decimal_of}
use Rattle.text.specs.Input.{lines_of}

-- The text of a number: a digit's is the digit, and any other number's is that of its tenth and then its last digit.
pub record DecimalsSpelled : Type 0 where
  pub digits :
      map decimal_of (0 ∷ 1 ∷ 2 ∷ 3 ∷ 4 ∷ 5 ∷ 6 ∷ 7 ∷ 8 ∷ 9 ∷ [])
      ≡ bytes_of "0" ∷ bytes_of "1" ∷ bytes_of "2" ∷ bytes_of "3" ∷ bytes_of "4" ∷ bytes_of "5" ∷ bytes_of "6" ∷ bytes_of "7" ∷ bytes_of "8" ∷ bytes_of "9" ∷ []
  pub longer : (n : ℕ) → 10 ≤ n → decimal_of n ≡ decimal_of (n / 10) ++ decimal_of (n % 10)

-- bytes of which none is a line feed
abbrev pub Unbroken : List ℕ → Type 0
Unbroken line = Each (λ (b : ℕ). b ≡ 10 → ⊥) line

-- The lines of an input: each goes up to its line feed, an empty one too; what follows the last line feed is a line if it has a byte.
pub record LinesCut : Type 0 where
  pub none : lines_of [] ≡ []
  pub ended : (line rest : List ℕ) → Unbroken line → lines_of (line ++ bytes_of "\n" ++ rest) ≡ line ∷ lines_of rest
  pub last : (b : ℕ) (line : List ℕ) → Unbroken (b ∷ line) → lines_of (b ∷ line) ≡ (b ∷ line) ∷ []
