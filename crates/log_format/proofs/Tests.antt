-- What the tests of the table's fields say.
use mathlib.Core.Path.{◌≡◌, refl, sym, ◌∙◌}
use mathlib.Core.Bool.{Bool, true, false, not, ◌&&◌, ◌||◌, true≢false, false≢true}
use mathlib.Core.Logic.{◌⊎◌, inl, inr}
use Prim.Native.Nat.{ℕ, ◌*◌, ◌/◌, ◌%◌, ◌≤◌, ◌<◌}
use native.Mathlib.Omega.{arith}
use borrow.Author.Tests.{ltb-true, ltb-false, le-ltb, eqb-true, eqb-false, eq-eqb, ne_eqb, not-true, not-false}
use lib.Dec.{ltb, eqb}
use Rattle.log_format.specs.Format.{most_bytes}
use Rattle.log_format.specs.Faults.{OpeningLength, InFours}
use Rattle.log_format.specs.Reading.{bad_opening_length, bad_event_length}

-- a test that is not false is true
pub decided : (t : Bool) → (t ≡ false → ⊥) → t ≡ true
decided true h = refl
decided false h = absurd (h refl)

pub and_true : (a b : Bool) → (a && b) ≡ true → (a ≡ true) × (b ≡ true)
and_true true b e = (refl, e)
and_true false b e = absurd (false≢true e)

pub or_false : (a b : Bool) → (a || b) ≡ false → (a ≡ false) × (b ≡ false)
or_false true b e = absurd (true≢false e)
or_false false b e = (refl, e)

pub or_true : (a b : Bool) → (a || b) ≡ true → (a ≡ true) ⊎ (b ≡ true)
or_true true b e = inl refl
or_true false b e = inr e

-- a wrong offset
pub wrong : (a b : ℕ) → not (eqb a b) ≡ true → a ≡ b → ⊥
wrong a b e = eqb-false a b (not-true (eqb a b) e)

pub is_wrong : (a b : ℕ) → (a ≡ b → ⊥) → not (eqb a b) ≡ true
is_wrong a b h = rw (ne_eqb a b h)

pub right : (a b : ℕ) → not (eqb a b) ≡ false → a ≡ b
right a b e = eqb-true a b (not-false (eqb a b) e)

pub is_right : (a b : ℕ) → a ≡ b → not (eqb a b) ≡ false
is_right a b e = rw (eq-eqb a b e)

-- an opening length
pub is_length : (n : ℕ) → OpeningLength n → bad_opening_length n ≡ false
is_length n h = rw (eq-eqb (n % 3) 0 (omega (arith, h.2)), le-ltb 48 n (omega (arith, h.1, h.2)))

pub length_of : (n : ℕ) → bad_opening_length n ≡ false → (n ≡ 3 * (n / 3)) × (n ≤ 48)
length_of n e =
    let h = or_false (not (eqb (n % 3) 0)) (ltb 48 n) e in
    let d : n % 3 ≡ 0 = right (n % 3) 0 h.0 in
    (omega arith, ltb-false 48 n h.1)

pub wrong_length : (n : ℕ) → bad_opening_length n ≡ true → OpeningLength n → ⊥
wrong_length n e h = true≢false (sym e ∙ is_length n h)

pub is_wrong_length : (n : ℕ) → (OpeningLength n → ⊥) → bad_opening_length n ≡ true
is_wrong_length n h =
    decided (bad_opening_length n) (λ e. let l = length_of n e in h (n / 3, omega (arith, l.0, l.1), l.0))

-- an event length
pub is_events : (n end : ℕ) → InFours n → end ≤ most_bytes → bad_event_length n end ≡ false
is_events n end h l = rw (eq-eqb (n % 4) 0 (omega (arith, h.1)), le-ltb 65536 end l)

pub events_of : (n end : ℕ) → bad_event_length n end ≡ false → (n ≡ 4 * (n / 4)) × (end ≤ most_bytes)
events_of n end e =
    let h = or_false (not (eqb (n % 4) 0)) (ltb 65536 end) e in
    let d : n % 4 ≡ 0 = right (n % 4) 0 h.0 in
    (omega arith, ltb-false 65536 end h.1)

pub wrong_events : (n end : ℕ) → bad_event_length n end ≡ true → (InFours n → ⊥) ⊎ (most_bytes < end)
wrong_events n end e = go (or_true (not (eqb (n % 4) 0)) (ltb 65536 end) e)
  where
    go : (not (eqb (n % 4) 0) ≡ true) ⊎ (ltb 65536 end ≡ true) → (InFours n → ⊥) ⊎ (most_bytes < end)
    go (inl t) = inl (λ h. wrong (n % 4) 0 t (omega (arith, h.1)))
    go (inr t) = inr (ltb-true 65536 end t)

pub is_wrong_events : (n end : ℕ) → (InFours n → ⊥) ⊎ (most_bytes < end) → bad_event_length n end ≡ true
is_wrong_events n end h = decided (bad_event_length n end) (λ e. go h (events_of n end e))
  where
    go : (InFours n → ⊥) ⊎ (most_bytes < end) → (n ≡ 4 * (n / 4)) × (end ≤ most_bytes) → ⊥
    go (inl h) l = h (n / 4, l.0)
    go (inr h) l = omega (arith, h, l.1)
