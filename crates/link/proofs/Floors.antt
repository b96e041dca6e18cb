-- The floor by doubling and halving: what holds before each step, and what a step makes of it.
use mathlib.Core.Path.{◌≡◌, refl, sym, ◌∙◌, ap}
use Prim.Native.Nat.{ℕ, zero, suc, ◌+◌, ◌-◌, ◌*◌, ◌/◌, ◌≤◌, ◌<◌}
use native.Mathlib.Nat.{mul_assoc, mul_comm, mul-le-mul_left, mul-one, mul-div_left, div-eq_of_lt-le, add-mul, one-mul}
use native.Mathlib.Omega.{arith}

-- a period doubled so many times
unfoldable pub twice_over : ℕ → ℕ → ℕ
twice_over zero period = period
twice_over (suc steps) period = twice_over steps period * 2

-- not doubled yet, the part is the period
pub none_doubled : (period : ℕ) → period ≡ twice_over 0 period
unfolding twice_over
none_doubled period = refl

-- a part doubled is one step more
pub once_more : (steps period part : ℕ) → part ≡ twice_over steps period → part * 2 ≡ twice_over (steps + 1) period
unfolding twice_over
once_more steps period part e = let n : steps + 1 ≡ suc steps = omega arith in rw (n, ← e)

-- a part doubled before is halved again, with nothing lost
halved : (steps period part : ℕ) → 0 < steps → part ≡ twice_over steps period → (part / 2 ≡ twice_over (steps - 1) period) × (part / 2 * 2 ≡ part)
unfolding twice_over
halved (suc steps) period part l e =
    let n : suc steps - 1 ≡ steps = omega arith in
    let h : part / 2 ≡ twice_over steps period = ap (λ (m : ℕ). m / 2) e ∙ mul-div_left (twice_over steps period) (omega arith) in
    (rw n h, ap (λ (m : ℕ). m * 2) h ∙ sym e)
halved zero period part l e = absurd (omega arith)

-- the part is the period doubled as often as steps are to come; the slots are so many parts and what is left, less than a part
pub record Split (slots period steps part quotient left : ℕ) : Type 0 where
  pub doubles : part ≡ twice_over steps period
  pub whole : quotient * part + left ≡ slots
  pub small : left < part

-- one step halves the part and doubles the quotient, and half the part goes into what is left once more, or not
module _ {slots period steps part quotient left : ℕ} (s : Split slots period steps part quotient left) (more : 0 < steps) where
  half : (part / 2 ≡ twice_over (steps - 1) period) × (part / 2 * 2 ≡ part)
  half = halved steps period part more s.doubles

  -- twice as many halves, and the same left
  in_halves : quotient * 2 * (part / 2) + left ≡ slots
  in_halves =
      let e : quotient * 2 * (part / 2) ≡ quotient * part = mul_assoc quotient 2 (part / 2) ∙ ap (λ m. quotient * m) (mul_comm 2 (part / 2) ∙ half.1) in
      omega (arith, s.whole)

  -- so the doubled quotient is no more than the slots, and fits
  pub shift_fits : quotient * 2 ≤ slots
  shift_fits =
      let l : 0 < part / 2 = omega (arith, half.1, s.small) in
      omega (arith, in_halves, mul-le-mul_left (quotient * 2) l, mul-one (quotient * 2))

  pub goes_in : (twice : ℕ) → twice ≡ quotient * 2 → part / 2 ≤ left → Split slots period (steps - 1) (part / 2) (twice + 1) (left - part / 2)
  goes_in twice is l =
      record {
        doubles = half.0;
        whole = rw is (omega (arith, in_halves, add-mul (quotient * 2) 1 (part / 2), one-mul (part / 2)));
        small = omega (arith, half.1, s.small);
      }

  pub goes_not : (twice : ℕ) → twice ≡ quotient * 2 → left < part / 2 → Split slots period (steps - 1) (part / 2) twice left
  goes_not twice is l = record { doubles = half.0; whole = rw is in_halves; small = l }

-- with no step to come the part is the period, and the quotient the floor
pub settled : {slots period steps part quotient left : ℕ} → Split slots period steps part quotient left → steps ≡ 0 → quotient ≡ slots / period
unfolding twice_over
settled {slots} {period} {steps} {part} {quotient} {left} s none =
    let p : part ≡ period = s.doubles ∙ ap (λ (k : ℕ). twice_over k period) none in
    let w : quotient * period + left ≡ slots = ap (λ (m : ℕ). quotient * m + left) (sym p) ∙ s.whole in
    sym (div-eq_of_lt-le period (omega (arith, w)) (omega (arith, w, p, s.small, add-mul quotient 1 period, one-mul period)))
