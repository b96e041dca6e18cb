-- A test over numbers that follow one another is the library's test over the list of them.
use Rattle.std.proofs.Common.{◌≡◌, ◌||◌, Bool, ℕ, zero, suc, refl, ap, add-one}
use Rattle.std.specs.List.{list_any, range_with_len}
use Rattle.plans.specs.Numbered.{any_from}

pub any_listed : (test : ℕ → Bool) (k n : ℕ) → list_any test (range_with_len k n) ≡ any_from test k n
unfolding any_from
any_listed test k zero = refl
any_listed test k (suc n) = ap (λ (b : Bool). test k || b) (rw add-one (any_listed test (suc k) n))
