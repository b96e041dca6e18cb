-- The decimal text of a number; a byte is its number in ASCII.
use Rattle.std.specs.Prelude.{cond, List, [], ◌∷◌, ◌++◌, ℕ, zero, suc, ◌+◌, ◌-◌, ◌/◌, ◌%◌, ◌^◌, ◌≤◌, ◌<◌, ltb, set}

-- a number's decimal text, its first digit first and with no zero in front: the text of its tenth, where that is not 0, and the
-- last digit; the steps that it may take are more than the digits that it has
unfoldable pub decimal_within : ℕ → ℕ → List ℕ
decimal_within zero n = (48 + n) ∷ []
decimal_within (suc steps) n = cond (ltb n 10) ((48 + n) ∷ []) (decimal_within steps (n / 10) ++ (48 + n % 10) ∷ [])

-- the one decimal text of a number
unfoldable pub decimal_of : ℕ → List ℕ
decimal_of n = decimal_within n n

-- a number of the machine has so many digits: it is below that power of ten, and not below the one before
pub record Digits (n k : ℕ) : Type 0 where
  pub some : 1 ≤ k
  pub few : k ≤ 20
  pub below : n < 10 ^ k
  pub least : 1 < k → 10 ^ (k - 1) ≤ n

-- bytes with the last k digits of a number at a place, the last digit put first
unfoldable pub spelt_at : ℕ → ℕ → ℕ → List ℕ → List ℕ
spelt_at place zero n out = out
spelt_at place (suc k) n out = spelt_at place k (n / 10) (set out (place + k) (48 + n % 10))
