-- The greatest deadline: none is above it, it is one of them, and of a list within its limits it is at most 4,096.
use mathlib.Core.Path.{◌≡◌, refl}
use mathlib.Core.List.{List, [], ◌∷◌}
use Prim.Native.Nat.{ℕ, suc, ◌≤◌, ◌<◌, max}
use native.Mathlib.Nat.{not-suc-le-zero}
use native.Mathlib.Decide.{dec_le}
use native.Mathlib.Omega.{arith}
use lib.ListN.{length, get_or}
use Rattle.std.proofs.lemmas.List.Recursion.{max_bounds, max_least}
use Rattle.link.specs.declared.Declaration.{Declaration}
use Rattle.link.specs.Limits.{no_declaration}
use Rattle.link.specs.Rate.{greatest_of}
use Rattle.link.proofs.Numbers.{Good}

pub greatest_most : (ds : List Declaration) (k : ℕ) → k < length ds → (get_or ds k no_declaration).deadline ≤ greatest_of ds
unfolding greatest_of
greatest_most ds k l = max_bounds greatest_of (λ d. d.deadline) refl (λ d ds. refl) ds k no_declaration l

pub greatest_one : (ds : List Declaration) → 0 < length ds → (k : ℕ) × (k < length ds) × ((get_or ds k no_declaration).deadline ≡ greatest_of ds)
unfolding greatest_of
greatest_one [] l = absurd (not-suc-le-zero l)
greatest_one (d ∷ []) l = (0, omega arith, omega arith)
greatest_one (d ∷ e ∷ ds) l = go (dec_le (greatest_of (e ∷ ds)) d.deadline) (greatest_one (e ∷ ds) (omega arith))
  where
    go : Dec (greatest_of (e ∷ ds) ≤ d.deadline) → (k : ℕ) × (k < length (e ∷ ds)) × ((get_or (e ∷ ds) k no_declaration).deadline ≡ greatest_of (e ∷ ds))
        → (k : ℕ) × (k < length (d ∷ e ∷ ds)) × ((get_or (d ∷ e ∷ ds) k no_declaration).deadline ≡ max d.deadline (greatest_of (e ∷ ds)))
    go (yes m) later = (0, omega arith, omega arith)
    go (no m) (k, l, q) = (suc k, omega arith, omega (arith, q))

pub greatest_4096 : (ds : List Declaration) → Good ds → greatest_of ds ≤ 4096
unfolding greatest_of
greatest_4096 ds w = max_least greatest_of (λ d. d.deadline) refl (λ d ds. refl) ds no_declaration 4096 (λ k l. (w k l).2.1)

-- where it is above a number, there is a declaration
pub some_there : (ds : List Declaration) (n : ℕ) → n < greatest_of ds → 0 < length ds
unfolding greatest_of
some_there [] n l = absurd (not-suc-le-zero l)
some_there (d ∷ ds) n l = omega arith
