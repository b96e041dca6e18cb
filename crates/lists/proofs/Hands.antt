-- One byte of a line: each way that it can go, by the tests that lead there.
use mathlib.Core.Bool.{Bool, true, false, cond, ◌&&◌, not}
use mathlib.Core.Path.{◌≡◌, refl, sym, ◌∙◌, ap}
use Rattle.std.proofs.Common.{None, Some}
use Rattle.std.proofs.lemmas.Option.{none-some}
use Prim.Native.Nat.{ℕ, ◌-◌}
use borrow.Author.Tests.{eq-eqb, ne_eqb}
use lib.Dec.{eqb}
use Rattle.text.specs.Reading.{blank, is_digit, grown, goes_on}
use Rattle.lists.specs.declared.taking.Hand.{Hand}
use Rattle.lists.specs.Reading.{ended_of, at_hand, spoilt, takes_of, whole_at}

-- a choice by a test whose answer is known
pub chosen : {A : Type 0} (t : Bool) (x y : A) → t ≡ true → cond t x y ≡ x
chosen t x y e = ap (λ (s : Bool). cond s x y) e

pub passed_over : {A : Type 0} (t : Bool) (x y : A) → t ≡ false → cond t x y ≡ y
passed_over t x y e = ap (λ (s : Bool). cond s x y) e

-- no number is at hand; the line is no list's text; or all hangs on how many numbers were given
pub whole_none : (h : Hand) → h.begun ≡ false → whole_at h ≡ false
whole_none h e = ap (λ (t : Bool). t && (not h.bad && eqb h.given 2)) e

pub whole_bad : (h : Hand) → h.begun ≡ true → h.bad ≡ true → whole_at h ≡ false
whole_bad h e f = ap (λ (t : Bool). t && (not h.bad && eqb h.given 2)) e ∙ ap (λ (t : Bool). not t && eqb h.given 2) f

pub whole_given : (h : Hand) → h.begun ≡ true → h.bad ≡ false → whole_at h ≡ eqb h.given 2
whole_given h e f = ap (λ (t : Bool). t && (not h.bad && eqb h.given 2)) e ∙ ap (λ (t : Bool). not t && eqb h.given 2) f

-- what is none by its test did not pass it
pub passed_not : (t : Bool) (x : ℕ) → cond t (Some x) None ≡ None → t ≡ false
passed_not true x e = absurd (none-some x (sym e))
passed_not false x e = refl

-- a number goes on at hand
pub still_at_hand : (h : Hand) (value : ℕ) → h.begun ≡ true
    → record { some = true; bad = h.bad; begun = h.begun; value = value; given = h.given; burst = h.burst; period = h.period } ≡ at_hand h value
still_at_hand h value e = ap (λ (t : Bool). record { some = true; bad = h.bad; begun = t; value = value; given = h.given; burst = h.burst; period = h.period }) e

module _ (h : Hand) (b : ℕ) where
  module _ (e : h.begun ≡ true) where
    pub takes_end : b ≡ blank → takes_of h b ≡ ended_of h
    unfolding takes_of
    takes_end q = chosen h.begun _ _ e ∙ chosen (eqb b blank) _ _ (eq-eqb b blank q)

    module _ (q : b ≡ blank → ⊥) where
      pub takes_digit : goes_on h.value b ≡ true → takes_of h b ≡ at_hand h (grown h.value b)
      unfolding takes_of
      takes_digit g = chosen h.begun _ _ e ∙ passed_over (eqb b blank) _ _ (ne_eqb b blank q) ∙ chosen (goes_on h.value b) _ _ g

      pub takes_wrong : goes_on h.value b ≡ false → takes_of h b ≡ spoilt h
      unfolding takes_of
      takes_wrong g = chosen h.begun _ _ e ∙ passed_over (eqb b blank) _ _ (ne_eqb b blank q) ∙ passed_over (goes_on h.value b) _ _ g

  module _ (e : h.begun ≡ false) where
    pub takes_first : is_digit b ≡ true → takes_of h b ≡ at_hand h (b - 48)
    unfolding takes_of
    takes_first d = passed_over h.begun _ _ e ∙ chosen (is_digit b) _ _ d

    pub takes_none : is_digit b ≡ false → takes_of h b ≡ spoilt h
    unfolding takes_of
    takes_none d = passed_over h.begun _ _ e ∙ passed_over (is_digit b) _ _ d
