-- The test up to the greatest deadline plus 5,039 settles every count of slots: from the greatest deadline on, demand does the same in
-- every 5,040 slots, only higher by the rate each time.
use mathlib.Core.Path.{◌≡◌, refl, sym}
use mathlib.Core.List.{List, [], ◌∷◌}
use Prim.Native.Nat.{ℕ, zero, suc, ◌+◌, ◌-◌, ◌*◌, ◌/◌, ◌≤◌, ◌<◌, max}
use native.Mathlib.Nat.{add-mul-div_right, div-eq_of_eq-mul_left, mul-le-mul_left, not-suc-le-zero}
use native.Mathlib.Decide.{dec_le}
use native.Mathlib.Omega.{arith}
use borrow.Author.Tests.{le-leb, lt-leb}
use Rattle.link.specs.declared.Declaration.{Declaration}
use Rattle.link.specs.Demand.{demand_one, demand_of}
use Rattle.link.specs.Rate.{rate_of, greatest_of}
use Rattle.link.specs.Published.{Within}
use Rattle.link.proofs.Limits.{positive}
use Rattle.link.proofs.Numbers.{Good, good_rest}

-- one declaration, 5,040 slots on: its periods have come 5,040/P times more
pub one_on : (d : Declaration) (t : ℕ) → Within d → d.deadline ≤ t → demand_one d (t + 5040) ≡ demand_one d t + 5040 / d.period
one_on d t w l =
    let k = w.1.0 in
    let p = d.period in
    let pos : 0 < p = positive p k w.1.1 in
    let apart : t + 5040 - d.deadline ≡ t - d.deadline + k * p = omega (arith, w.1.1) in
    let more = add-mul-div_right (t - d.deadline) k pos in
    let rate : 5040 / p ≡ k = div-eq_of_eq-mul_left pos (sym w.1.1) in
    rw (le-leb d.deadline t l, le-leb d.deadline (t + 5040) (omega arith), apart) (omega (arith, more, rate))

-- a list, 5,040 slots on, and k times 5,040 slots on
pub demand_on : (ds : List Declaration) (t : ℕ) → Good ds → greatest_of ds ≤ t → demand_of ds (t + 5040) ≡ demand_of ds t + rate_of ds
unfolding demand_of rate_of greatest_of
demand_on [] t w l = refl
demand_on (d ∷ ds) t w l =
    omega (arith, one_on d t (w 0 (omega arith)) (omega arith), demand_on ds t (good_rest d ds w) (omega arith))

demand_far : (ds : List Declaration) (t k : ℕ) → Good ds → greatest_of ds ≤ t → demand_of ds (t + k * 5040) ≡ demand_of ds t + k * rate_of ds
demand_far ds t zero w l = let e : t + zero * 5040 ≡ t = omega arith in rw e (omega arith)
demand_far ds t (suc k) w l =
    let e : t + suc k * 5040 ≡ t + k * 5040 + 5040 = omega arith in
    rw e (omega (arith, demand_on ds (t + k * 5040) w (omega arith), demand_far ds t k w l))

-- by 0 nothing is due
pub demand_none : (ds : List Declaration) → Good ds → demand_of ds 0 ≡ 0
unfolding demand_of
demand_none [] w = refl
demand_none (d ∷ ds) w = rw (lt-leb d.deadline 0 (w 0 (omega arith)).2.0) (omega (arith, demand_none ds (good_rest d ds w)))

-- tested up to the greatest deadline plus 5,039, and no faster than the link: then by no t is too much due
pub every : (ds : List Declaration) → Good ds → rate_of ds ≤ 5040 → ((t : ℕ) → 1 ≤ t → t ≤ greatest_of ds + 5039 → demand_of ds t ≤ t)
    → (t : ℕ) → demand_of ds t ≤ t
every ds w slow tested t = up_to t t (omega arith)
  where
    -- past the test, 5,040 slots earlier it held
    far : (n t : ℕ) → ((s : ℕ) → s ≤ n → demand_of ds s ≤ s) → t ≤ suc n → Dec (t ≤ greatest_of ds + 5039) → Dec (1 ≤ t) → demand_of ds t ≤ t
    far n t before l near (no z) = let e : t ≡ 0 = omega arith in rw (e, demand_none ds w) (omega arith)
    far n t before l (yes m) (yes o) = tested t o m
    far n t before l (no m) (yes o) =
        let s = t - 5040 in
        let e : t ≡ s + 5040 = omega arith in
        rw e (omega (arith, demand_on ds s w (omega arith), before s (omega arith)))

    up_to : (n t : ℕ) → t ≤ n → demand_of ds t ≤ t
    up_to zero t l = let e : t ≡ 0 = omega arith in rw (e, demand_none ds w) (omega arith)
    up_to (suc n) t l = far n t (up_to n) l (dec_le t (greatest_of ds + 5039)) (dec_le 1 t)

-- a list that has a rate has a cell due by its greatest deadline
due_one : (d : Declaration) (t : ℕ) → Within d → d.deadline ≤ t → 1 ≤ demand_one d t
due_one d t w l = rw (le-leb d.deadline t l) (omega (arith, w.0.0))

due_some : (ds : List Declaration) → Good ds → 0 < rate_of ds → 1 ≤ demand_of ds (greatest_of ds)
unfolding demand_of rate_of greatest_of
due_some [] w l = absurd (not-suc-le-zero l)
due_some (d ∷ ds) w l = omega (arith, due_one d (max d.deadline (greatest_of ds)) (w 0 (omega arith)) (omega arith))

-- faster than the link: by 5,041 times the greatest deadline too much is due
pub too_fast : (ds : List Declaration) → Good ds → 5040 < rate_of ds → 5041 * greatest_of ds < demand_of ds (5041 * greatest_of ds)
too_fast ds w fast =
    let e : 5041 * greatest_of ds ≡ greatest_of ds + greatest_of ds * 5040 = omega arith in
    rw e
    (omega (arith, demand_far ds (greatest_of ds) (greatest_of ds) w (omega arith), due_some ds w (omega arith), mul-le-mul_left (greatest_of ds) fast))
