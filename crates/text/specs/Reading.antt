-- What is read of a number in a line, byte by byte.
use Rattle.std.specs.Prelude.{Bool, cond, ◌&&◌, List, [], ◌∷◌, ◌≡◌, ℕ, ◌+◌, ◌-◌, ◌*◌, ◌≤◌, leb, eqb, length, drop, Option, None, Some}

-- what stands between two fields of a line
abbrev pub blank : ℕ
blank = 32

-- the largest number that a line may hold
abbrev pub largest : ℕ
largest = 4294967295

-- a byte is one of the digits 0 to 9
abbrev pub is_digit : ℕ → Bool
is_digit b = leb 48 b && leb b 57

-- the number with one digit more
abbrev pub grown : ℕ → ℕ → ℕ
grown value b = value * 10 + (b - 48)

-- a number goes on with a digit where it is not 0 so far and stays within the largest
abbrev pub goes_on : ℕ → ℕ → Bool
goes_on value b = is_digit b && (leb 1 value && leb (grown value b) largest)

-- a number and what follows it
abbrev pub Taken : Type 0
Taken = ℕ × List ℕ

-- the rest of a number, up to a blank or the end
unfoldable pub read_on : ℕ → List ℕ → Option Taken
read_on value [] = Some (value, [])
read_on value (b ∷ bs) = cond (eqb b blank) (Some (value, b ∷ bs)) (cond (goes_on value b) (read_on (grown value b) bs) None)

-- a number at the start of some bytes; its first byte is a digit
abbrev pub read_number : List ℕ → Option Taken
read_number [] = None
read_number (b ∷ bs) = cond (is_digit b) (read_on (b - 48) bs) None

-- a number of a line as it was taken, and the place from which the rest stands
abbrev pub Reads : List ℕ → Option (ℕ × ℕ) → Option Taken → Type 0
Reads line (Some (value, next)) taken = (next ≤ length line) × (taken ≡ Some (value, drop next line))
Reads line None taken = taken ≡ None
