-- What a number within its limit is, and a limit on a sum told without the sum.
use Rattle.std.proofs.Common.{◌≡◌, ℕ, ◌+◌, ◌-◌, ◌<◌, ◌≤◌, Bool, true, false, ◌||◌, ltb, refl, true≢false, arith, ltb-false, le-ltb, lt-ltb}
use native.Mathlib.Decide.{dec_lt}
use Rattle.units.specs.Limits.{outside_of}

pub inside : (n most : ℕ) → outside_of n most ≡ false → (1 ≤ n) × (n ≤ most)
inside n most = go (ltb n 1) refl (ltb most n) refl
  where
    go : (a : Bool) → ltb n 1 ≡ a → (b : Bool) → ltb most n ≡ b → (a || b) ≡ false → (1 ≤ n) × (n ≤ most)
    go true p b q e = absurd (true≢false e)
    go false p true q e = absurd (true≢false e)
    go false p false q e = (ltb-false n 1 p, ltb-false most n q)

pub rest_passed : (a b limit : ℕ) → a ≤ limit → ltb (limit - a) b ≡ ltb limit (a + b)
rest_passed a b limit h = go (dec_lt limit (a + b))
  where
    go : Dec (limit < a + b) → ltb (limit - a) b ≡ ltb limit (a + b)
    go (yes l) = rw (lt-ltb limit (a + b) l, lt-ltb (limit - a) b (omega arith))
    go (no l) = rw (le-ltb limit (a + b) (omega arith), le-ltb (limit - a) b (omega arith))
