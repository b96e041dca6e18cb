-- The last t that is tested, the greatest deadline plus 5,039, is never the first to fail: by it demand has not quite grown by the rate since the
-- greatest deadline, for the declaration of that deadline lacks a cell; so too much would be due by the greatest deadline itself.
use mathlib.Core.Path.{◌≡◌, sym}
use mathlib.Core.List.{List, [], ◌∷◌}
use Prim.Native.Nat.{ℕ, ◌+◌, ◌-◌, ◌/◌, ◌≤◌, ◌<◌, max}
use native.Mathlib.Nat.{div-eq_of_eq-mul_left, div-lt_iff_lt-mul, not-suc-le-zero}
use native.Mathlib.Decide.{dec_le, dec_lt}
use native.Mathlib.Omega.{arith}
use borrow.Author.Tests.{le-leb}
use lib.ListN.{length}
use Rattle.link.specs.declared.Declaration.{Declaration}
use Rattle.link.specs.Demand.{demand_one, demand_of}
use Rattle.link.specs.Rate.{rate_of, greatest_of}
use Rattle.link.specs.Published.{Within, Fits, Least}
use Rattle.link.proofs.Limits.{positive}
use Rattle.link.proofs.Numbers.{Good, good_rest}
use Rattle.link.proofs.Rising.{one_rises, demand_rises}
use Rattle.link.proofs.Every.{one_on, demand_on}
use Rattle.link.proofs.Greatest.{some_there}

-- where something is due, there is a declaration
some_due : (ds : List Declaration) (t : ℕ) → 0 < demand_of ds t → 0 < length ds
unfolding demand_of
some_due [] t l = absurd (not-suc-le-zero l)
some_due (d ∷ ds) t l = omega arith

-- one declaration, 5,039 slots past its own deadline
one_short : (d : Declaration) → Within d → demand_one d (d.deadline + 5039) + 1 ≤ demand_one d d.deadline + 5040 / d.period
one_short d w =
    let k = w.1.0 in
    let p = d.period in
    let pos : 0 < p = positive p k w.1.1 in
    let rate : 5040 / p ≡ k = div-eq_of_eq-mul_left pos (sym w.1.1) in
    let less : 5039 / p < k = (div-lt_iff_lt-mul {k = p} {x = 5039} {y = k} pos).1 (omega (arith, w.1.1)) in
    let apart : d.deadline + 5039 - d.deadline ≡ 5039 = omega arith in
    rw (le-leb d.deadline d.deadline (omega arith), le-leb d.deadline (d.deadline + 5039) (omega arith), apart) (omega (arith, rate, less))

-- a list, 5,039 slots on, at the most
most_on : (ds : List Declaration) (t : ℕ) → Good ds → greatest_of ds ≤ t → demand_of ds (t + 5039) ≤ demand_of ds t + rate_of ds
most_on ds t w l = omega (arith, demand_on ds t w l, demand_rises ds (t + 5039) (t + 5040) (omega arith))

-- a list, 5,039 slots past its greatest deadline
short : (ds : List Declaration) → Good ds → 0 < length ds → demand_of ds (greatest_of ds + 5039) + 1 ≤ demand_of ds (greatest_of ds) + rate_of ds
unfolding demand_of rate_of greatest_of
short [] w l = absurd (not-suc-le-zero l)
short (d ∷ ds) w l = go (dec_le (greatest_of ds) d.deadline) (short ds (good_rest d ds w))
  where
    go : Dec (greatest_of ds ≤ d.deadline)
        → (0 < length ds → demand_of ds (greatest_of ds + 5039) + 1 ≤ demand_of ds (greatest_of ds) + rate_of ds)
        → demand_of (d ∷ ds) (max d.deadline (greatest_of ds) + 5039) + 1 ≤ demand_of (d ∷ ds) (max d.deadline (greatest_of ds)) + rate_of (d ∷ ds)
    go (yes m) later =
        let e : max d.deadline (greatest_of ds) ≡ d.deadline = omega arith in
        rw e (omega (arith, one_short d (w 0 (omega arith)), most_on ds d.deadline (good_rest d ds w) m))
    go (no m) later =
        let e : max d.deadline (greatest_of ds) ≡ greatest_of ds = omega arith in
        let one = one_rises d (greatest_of ds + 5039) (greatest_of ds + 5040) (omega arith) in
        rw e (omega (arith, one, one_on d (greatest_of ds) (w 0 (omega arith)) (omega arith), later (some_there ds d.deadline (omega arith))))

pub not_last : (ds : List Declaration) → Fits ds → rate_of ds ≤ 5040 → (t : ℕ) → Least ds t → t ≤ greatest_of ds + 5039 → t < greatest_of ds + 5039
not_last ds fit slow t w l = go (dec_lt t (greatest_of ds + 5039))
  where
    go : Dec (t < greatest_of ds + 5039) → t < greatest_of ds + 5039
    go (yes m) = m
    go (no m) =
        let e : t ≡ greatest_of ds + 5039 = omega arith in
        let late = rw e at w.fails in
        absurd (omega (arith, late, short ds fit.within (some_due ds (greatest_of ds + 5039) (omega (arith, late))), w.first (greatest_of ds) (omega arith)))
