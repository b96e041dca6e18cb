-- The forms of a log, and the first byte of each.
use mathlib.Core.Path.{◌≡◌, refl, sym}
use mathlib.Core.Bool.{Bool, true, false, cond, ◌||◌, false≢true}
use Prim.Native.Nat.{ℕ, ◌<◌}
use native.Mathlib.Omega.{arith}
use borrow.Author.Tests.{eqb-true, eqb-false, ne_eqb, ltb-false}
use lib.Dec.{eqb}
use Rattle.units.proofs.Limits.{inside}
use Rattle.log_format.specs.declared.Form.{Form}
use Rattle.log_format.specs.declared.Form.TheVariants.{Flow, Own}
use Rattle.log_format.specs.Format.{first_byte, bad_cell}
use Rattle.log_format.specs.Faults.{form_of}
use Rattle.log_format.specs.Reading.{is_first}
use Rattle.log_format.proofs.Tests.{or_false}

-- a first byte tells its form, and the form the byte
pub known : (form : Form) → is_first (first_byte form) ≡ true
known Flow = refl
known Own = refl

pub first_back : (first : ℕ) → is_first first ≡ true → first_byte (form_of first) ≡ first
unfolding form_of
first_back first = go (eqb first 1) refl (eqb first 2) refl
  where
    go : (a : Bool) → eqb first 1 ≡ a → (b : Bool) → eqb first 2 ≡ b → (a || b) ≡ true → first_byte (cond b Own Flow) ≡ first
    go a p true q e = sym (eqb-true first 2 q)
    go true p false q e = sym (eqb-true first 1 p)
    go false p false q e = absurd (false≢true e)

pub form_back : (form : Form) → form_of (first_byte form) ≡ form
unfolding form_of
form_back Flow = refl
form_back Own = refl

pub same_form : (x y : Form) → first_byte x ≡ first_byte y → x ≡ y
same_form Flow Flow e = refl
same_form Flow Own e = absurd (omega arith)
same_form Own Flow e = absurd (omega arith)
same_form Own Own e = refl

-- a byte that tells no form is neither 1 nor 2
pub not_first : (first : ℕ) → is_first first ≡ false → (first ≡ 1 → ⊥) × (first ≡ 2 → ⊥)
not_first first e = let h = or_false (eqb first 1) (eqb first 2) e in (eqb-false first 1 h.0, eqb-false first 2 h.1)

pub no_first : (first : ℕ) → (first ≡ 1 → ⊥) → (first ≡ 2 → ⊥) → is_first first ≡ false
no_first first one two = rw (ne_eqb first 1 one, ne_eqb first 2 two)

-- it is a byte
pub first_small : (form : Form) → first_byte form < 256
first_small Flow = omega arith
first_small Own = omega arith

-- the number of a good cell has two bytes
pub cell_small : (form : Form) (number : ℕ) → bad_cell form number ≡ false → number < 65536
cell_small Flow number e = omega (arith, ltb-false 0 number e)
cell_small Own number e = omega (arith, (inside number 4096 e).1)
