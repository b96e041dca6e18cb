-- A description breaks the rules by its tests exactly where it does not keep them.
use mathlib.Core.Path.{◌≡◌, refl, sym}
use mathlib.Core.Bool.{Bool, true, false, not, ◌&&◌, ◌||◌, true≢false}
use mathlib.Core.Logic.{inl, inr}
use Prim.Native.Nat.{ℕ, ◌≤◌, ◌<◌}
use native.Mathlib.Omega.{arith}
use borrow.Author.Tests.{ltb-true, leb-false, eqb-true, le-ltb, lt-ltb, lt-leb, eq-eqb}
use lib.Dec.{ltb, leb, eqb}
use Rattle.units.specs.Limits.{outside_of, bad_weight}
use Rattle.units.proofs.Limits.{inside}
use Rattle.plans.specs.declared.Plan.{Plan}
use Rattle.plans.specs.Numbered.{any_from}
use Rattle.plans.specs.Plans.{parent_in, weight_in, class_in, FourDeep, Fits, not_lower, deeper, bad_class, bad_flow, broken, BrokenJust}
use Rattle.plans.proofs.Numbered.{or_none, or_told, any_none, none_any}

-- a class that is not deeper than four is one of the four
shallow : (p : Plan) (class : ℕ) → deeper 4 p class ≡ false → FourDeep p class
unfolding deeper
shallow p class =
    go (eqb class 0) refl (eqb (parent_in p class) 0) refl (eqb (parent_in p (parent_in p class)) 0) refl
    (eqb (parent_in p (parent_in p (parent_in p class))) 0) refl
  where
    go : (x : Bool) → eqb class 0 ≡ x → (y : Bool) → eqb (parent_in p class) 0 ≡ y → (z : Bool) → eqb (parent_in p (parent_in p class)) 0 ≡ z
        → (w : Bool) → eqb (parent_in p (parent_in p (parent_in p class))) 0 ≡ w
        → (not x && (not y && (not z && (not w && true)))) ≡ false → FourDeep p class
    go true a y b z d w e h = inl (eqb-true class 0 a)
    go false a true b z d w e h = inr (inl (eqb-true (parent_in p class) 0 b))
    go false a false b true d w e h = inr (inr (inl (eqb-true (parent_in p (parent_in p class)) 0 d)))
    go false a false b false d true e h = inr (inr (inr (eqb-true (parent_in p (parent_in p (parent_in p class))) 0 e)))
    go false a false b false d false e h = absurd (true≢false h)

and_never : (a : Bool) → (a && false) ≡ false
and_never true = refl
and_never false = refl

-- and the other way
not_deep : (p : Plan) (class : ℕ) → FourDeep p class → deeper 4 p class ≡ false
unfolding deeper
not_deep p class (inl e) = rw (eq-eqb class 0 e)
not_deep p class (inr (inl e)) = rw (eq-eqb (parent_in p class) 0 e) (and_never (not (eqb class 0)))
not_deep p class (inr (inr (inl e))) =
    rw (eq-eqb (parent_in p (parent_in p class)) 0 e, and_never (not (eqb (parent_in p class) 0))) (and_never (not (eqb class 0)))
not_deep p class (inr (inr (inr e))) =
    rw (
      eq-eqb (parent_in p (parent_in p (parent_in p class))) 0 e,
      and_never (not (eqb (parent_in p (parent_in p class)) 0)),
      and_never (not (eqb (parent_in p class) 0)),
    ) (and_never (not (eqb class 0)))

-- a class that no test finds bad
module _ (p : Plan) (class : ℕ) (e : bad_class p class ≡ false) where
  rest : (deeper 4 p class ≡ false) × (bad_weight (weight_in p class) ≡ false)
  rest = or_told (deeper 4 p class) (bad_weight (weight_in p class)) (or_told (not_lower p class) _ e).1

  hangs_lower : 0 < class → parent_in p class < class
  hangs_lower h = leb-false class (parent_in p class) (go (ltb 0 class) (lt-ltb 0 class h) (or_told (not_lower p class) _ e).0)
    where
      go : (b : Bool) → b ≡ true → (b && leb class (parent_in p class)) ≡ false → leb class (parent_in p class) ≡ false
      go true q r = r
      go false q r = absurd (true≢false (sym q))

-- a description that no test finds broken keeps the rules
pub kept_rules : (p : Plan) → broken p ≡ false → Fits p
unfolding broken
kept_rules p e =
    record {
      rooted = (inside p.count 31 told.0).0;
      few = (inside p.count 31 told.0).1;
      falls = λ c h l. hangs_lower p c (class c l) h;
      depth = λ c l. shallow p c (rest p c (class c l)).0;
      weights = λ c l. inside (weight_in p c) 16 (rest p c (class c l)).1;
      named = λ f h. leb-false p.count (class_in p f) (any_none (bad_flow p) 0 16 both.1 f (omega arith) (omega arith));
    }
  where
    told : (outside_of p.count 31 ≡ false) × ((any_from (bad_class p) 0 p.count || any_from (bad_flow p) 0 16) ≡ false)
    told = or_told (outside_of p.count 31) _ e

    both : (any_from (bad_class p) 0 p.count ≡ false) × (any_from (bad_flow p) 0 16 ≡ false)
    both = or_told (any_from (bad_class p) 0 p.count) (any_from (bad_flow p) 0 16) told.1

    class : (c : ℕ) → c < p.count → bad_class p c ≡ false
    class c l = any_none (bad_class p) 0 p.count both.0 c (omega arith) (omega arith)

-- a class that hangs from a lower one passes that test
not_lower_lem : (p : Plan) (class : ℕ) → (0 < class → parent_in p class < class) → not_lower p class ≡ false
not_lower_lem p class h = go (ltb 0 class) refl
  where
    go : (b : Bool) → ltb 0 class ≡ b → (b && leb class (parent_in p class)) ≡ false
    go true q = lt-leb class (parent_in p class) (h (ltb-true 0 class q))
    go false q = refl

-- a number from 1 to a limit is within it
within : (n most : ℕ) → 1 ≤ n → n ≤ most → outside_of n most ≡ false
within n most a b = or_none (ltb n 1) (ltb most n) (le-ltb n 1 a) (le-ltb most n b)

-- a description that keeps the rules is found broken by no test
pub rules_kept : (p : Plan) → Fits p → broken p ≡ false
unfolding broken
rules_kept p ok =
    or_none (outside_of p.count 31) _ (within p.count 31 ok.rooted ok.few)
    (or_none (any_from (bad_class p) 0 p.count) _ (none_any (bad_class p) 0 p.count (λ c a l. class c (omega arith)))
    (none_any (bad_flow p) 0 16 (λ f a l. lt-leb p.count (class_in p f) (ok.named f (omega arith)))))
  where
    class : (c : ℕ) → c < p.count → bad_class p c ≡ false
    class c l =
        or_none (not_lower p c) _ (not_lower_lem p c (λ h. ok.falls c h l))
        (or_none (deeper 4 p c) _ (not_deep p c (ok.depth c l)) (within (weight_in p c) 16 (ok.weights c l).0 (ok.weights c l).1))

pub broken_just : BrokenJust
broken_just p = (kept_rules p, rules_kept p)
