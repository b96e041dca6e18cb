-- The lists of declarations as text. Every list has one text: its numbers, burst, period and deadline of each declaration, with one blank
-- between.
use Rattle.std.specs.Prelude.{List, [], ◌∷◌, ◌++◌, ℕ, ◌≤◌}
use Rattle.link.specs.declared.Declaration.{Declaration}
use Rattle.text.specs.Decimal.{decimal_of}
use Rattle.text.specs.Reading.{blank, largest}

-- the numbers of a list, in the order of its text
unfoldable pub numbers_in : List Declaration → List ℕ
numbers_in [] = []
numbers_in (d ∷ ds) = d.burst ∷ d.period ∷ d.deadline ∷ numbers_in ds

-- numbers with one blank between
unfoldable pub numbers_text : List ℕ → List ℕ
numbers_text [] = []
numbers_text (n ∷ []) = decimal_of n
numbers_text (n ∷ m ∷ ns) = decimal_of n ++ blank ∷ numbers_text (m ∷ ns)

-- a list's one text; the empty list's is empty
abbrev pub list_text : List Declaration → List ℕ
list_text ds = numbers_text (numbers_in ds)

-- each of some numbers is one that a line may hold
unfoldable pub AllSmall : List ℕ → Type 0
AllSmall [] = Unit {0}
AllSmall (n ∷ ns) = (n ≤ largest) × AllSmall ns

-- each number of a list is one that a line may hold
abbrev pub Small : List Declaration → Type 0
Small ds = AllSmall (numbers_in ds)
