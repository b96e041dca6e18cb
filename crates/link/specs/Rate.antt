-- How many cells a list brings in the long run, and its greatest deadline.
use Rattle.std.specs.Prelude.{List, [], ◌∷◌, ℕ, ◌+◌, ◌/◌, max}
use Rattle.link.specs.declared.Declaration.{Declaration}

-- the rate: how many cells the periods bring in every 5,040 slots, the sum of 5,040/P
unfoldable pub rate_of : List Declaration → ℕ
rate_of [] = 0
rate_of (d ∷ ds) = 5040 / d.period + rate_of ds

-- the greatest deadline, 0 where there is no declaration
unfoldable pub greatest_of : List Declaration → ℕ
greatest_of [] = 0
greatest_of (d ∷ ds) = max d.deadline (greatest_of ds)
