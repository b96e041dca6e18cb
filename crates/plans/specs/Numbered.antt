-- Tests and lists over numbers that follow one another.
use Rattle.std.specs.Prelude.{Bool, false, ◌||◌, List, [], ◌∷◌, ℕ, zero, suc}

-- one of the n numbers from k on passes a test
unfoldable pub any_from : (ℕ → Bool) → ℕ → ℕ → Bool
any_from test k zero = false
any_from test k (suc n) = test k || any_from test (suc k) n

-- what a function gives for each of the n numbers from k on
unfoldable pub list_from : {A : Type 0} → (ℕ → A) → ℕ → ℕ → List A
list_from f k zero = []
list_from f k (suc n) = f k ∷ list_from f (suc k) n
