-- The product rule of the charges: one test that is computed over the whole table, and one law that takes it to each entry.
use Rattle.std.proofs.Common.{◌≡◌, ℕ, zero, suc, ◌+◌, ◌-◌, ◌*◌, ◌<◌, ◌≤◌, Bool, true, false, ◌&&◌, eqb, get_or, refl, ap, ◌∙◌, not-suc-le-zero, mul-le-mul_left, zero-mul, le-mul_of_pos_right, arith, eqb-true}
use mathlib.Core.Bool.{false≢true}
use native.Mathlib.Decide.{dec_lt}
use Rattle.units.specs.Limits.{bad_weight}
use Rattle.units.specs.Charges.{byte_units, charges, charge_of, ProductRule}
use Rattle.units.proofs.Limits.{inside}

-- the test holds at each number below n
pub below : (ℕ → Bool) → ℕ → Bool
below f zero = true
below f (suc n) = f n && below f n

-- what a test computed over a whole table says of one entry
pub at_each : (f : ℕ → Bool) (n : ℕ) → below f n ≡ true → (k : ℕ) → k < n → f k ≡ true
unfolding below
at_each f zero t k h = absurd (not-suc-le-zero h)
at_each f (suc n) t k h = go (f n) refl (below f n) (at_each f n) t (dec_lt k n)
  where
    go : (a : Bool) → f n ≡ a → (b : Bool) → (b ≡ true → (k : ℕ) → k < n → f k ≡ true) → (a && b) ≡ true → Dec (k < n) → f k ≡ true
    go true p b r e (yes l) = r e k l
    go true p b r e (no l) = ap f (omega arith) ∙ p
    go false p b r e d = absurd (false≢true e)

entry : ℕ → Bool
entry k = eqb (get_or charges k 0 * (k + 1)) byte_units

entries : below entry 16 ≡ true
unfolding below entry
entries = refl

pub product_rule : ProductRule
unfolding entry
product_rule weight good =
    let l = inside weight 16 good in
    let e : get_or charges (weight - 1) 0 * (weight - 1 + 1) ≡ byte_units =
    eqb-true (get_or charges (weight - 1) 0 * (weight - 1 + 1)) byte_units (at_each entry 16 entries (weight - 1) (omega arith)) in
    let w : weight - 1 + 1 ≡ weight = omega arith in
    rw good (rw w at e)

-- no byte costs more than a byte at weight 1
pub charge_most : (weight : ℕ) → charge_of weight ≤ byte_units
charge_most weight = go (bad_weight weight) refl
  where
    go : (t : Bool) → bad_weight weight ≡ t → charge_of weight ≤ byte_units
    go true p = rw p (omega arith)
    go false p =
        let l = inside weight 16 p in
        omega (arith, product_rule weight p, le-mul_of_pos_right {m = weight} (charge_of weight) (omega arith))

-- every byte costs something, at a weight that a flow can have
pub charge_least : (weight : ℕ) → bad_weight weight ≡ false → 1 ≤ charge_of weight
charge_least weight good = go (charge_of weight) (product_rule weight good)
  where
    go : (charge : ℕ) → charge * weight ≡ byte_units → 1 ≤ charge
    go zero e = absurd (omega (arith, zero-mul weight))
    go (suc c) e = omega arith

-- at such a weight a byte costs no less than at weight 16
pub charge_floor : (weight : ℕ) → bad_weight weight ≡ false → 45045 ≤ charge_of weight
charge_floor weight good =
    let l = inside weight 16 good in
    let m = mul-le-mul_left {m = weight} {n = 16} (charge_of weight) l.1 in
    omega (arith, product_rule weight good, m)
