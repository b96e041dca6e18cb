-- One flow's places apart from another's: a store in one leaves every other flow's places as they were.
use mathlib.Core.Path.{◌≡◌, ap}
use mathlib.Core.Logic.{◌≢◌}
use mathlib.Core.List.{List}
use Prim.Native.Nat.{ℕ, ◌+◌, ◌-◌, ◌*◌, ◌≤◌, ◌<◌}
use native.Mathlib.Decide.{dec_lt}
use native.Mathlib.Nat.{mul-le-mul_right, suc-mul}
use native.Mathlib.Omega.{arith}
use lib.ListN.{take, drop, set}
use lib.Seq.{take-set-le, drop-set-lt, drop-set-add, take-set-lt}
use Rattle.places.specs.Places.{places_of}

module _ {A : Type 0} (n : ℕ) (xs : List A) where
  -- a store in a flow's own places
  pub set_own : (flow k : ℕ) (x : A) → k < n → places_of n flow (set xs (flow * n + k) x) ≡ set (places_of n flow xs) k x
  set_own flow k x h = rw (drop-set-add (flow * n) xs k x, take-set-lt n (drop (flow * n) xs) k x h)

  -- a store in another flow's places
  pub set_other : (flow other k : ℕ) (x : A) → k < n → flow ≢ other → places_of n flow (set xs (other * n + k) x) ≡ places_of n flow xs
  set_other flow other k x h apart = go (dec_lt other flow)
    where
      rows : (a b : ℕ) → a < b → a * n + n ≤ b * n
      rows a b l = omega (arith, suc-mul a n, mul-le-mul_right n l)

      go : Dec (other < flow) → places_of n flow (set xs (other * n + k) x) ≡ places_of n flow xs
      go (yes l) = ap (take n) (drop-set-lt (flow * n) xs (other * n + k) x (omega (arith, rows other flow l)))
      go (no l) =
          let m : ℕ = other * n + k - flow * n in
          let r : flow * n + n ≤ other * n = rows flow other (omega arith) in
          let e : other * n + k ≡ flow * n + m = omega arith in
          rw (e, drop-set-add (flow * n) xs m x, take-set-le n (drop (flow * n) xs) m x (omega arith))
