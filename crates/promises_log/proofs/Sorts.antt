-- What each call is to the log, from the tests of its numbers.
use mathlib.Core.Path.{◌≡◌, refl, ◌∙◌, ap}
use mathlib.Core.Bool.{Bool, true, false, cond, ◌||◌}
use Prim.Native.Nat.{ℕ}
use borrow.Author.Tests.{lt-ltb, le-ltb}
use lib.Dec.{ltb}
use Rattle.units.specs.Limits.{outside_of}
use Rattle.station.specs.declared.Call.{Call}
use Rattle.logging.specs.Sorts.{Sort, beyond, sort_of}
use Rattle.promises_log.specs.Sorts.{ByFlow, ByNumber, CallsSorted}

-- a test by the flow alone
by_flow : (call : ℕ → Call) (sort : ℕ → Sort) → ((flow : ℕ) → sort_of (call flow) ≡ cond (ltb 15 flow) beyond (sort flow)) → ByFlow call sort
by_flow call sort is =
    record {
      within = λ flow l. is flow ∙ rw (le-ltb 15 flow l);
      flow_above = λ flow l. is flow ∙ rw (lt-ltb 15 flow l);
    }

or_last : (a b : Bool) → (a || (b || true)) ≡ true
or_last true b = refl
or_last false true = refl
or_last false false = refl

or_middle : (a : Bool) → (a || true) ≡ true
or_middle true = refl
or_middle false = refl

-- one by a number too
by_number : (most : ℕ) (call : ℕ → ℕ → Call) (sort : ℕ → ℕ → Sort)
    → ((flow number : ℕ) → sort_of (call flow number) ≡ cond (ltb 15 flow || outside_of number most) beyond (sort flow number)) → ByNumber most call sort
by_number most call sort is =
    record {
      within = λ flow number l m n. is flow number ∙ rw (le-ltb 15 flow l, le-ltb number 1 m, le-ltb most number n);
      flow_above = λ flow number l. is flow number ∙ rw (lt-ltb 15 flow l);
      number_0 = λ flow. is flow 0 ∙ ap (λ (t : Bool). cond t beyond (sort flow 0)) (or_middle (ltb 15 flow));
      number_above = λ flow number l. is flow number ∙ rw (lt-ltb most number l) (ap (λ (t : Bool). cond t beyond (sort flow number)) (or_last (ltb 15 flow) (ltb number 1)));
    }

pub calls_sorted : CallsSorted
calls_sorted =
    record {
      open_urgent = by_number 4096 _ _ (λ flow number. refl);
      open_fair = by_number 16 _ _ (λ flow number. refl);
      close_urgent = by_flow _ _ (λ flow. refl);
      close_fair = by_flow _ _ (λ flow. refl);
      cell = by_number 4096 _ _ (λ flow number. refl);
      packet = by_number 1500 _ _ (λ flow number. refl);
      open_turn = refl;
      lost_turn = refl;
      begin = refl;
      end = refl;
    }
