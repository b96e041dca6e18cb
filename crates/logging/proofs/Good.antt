-- The log of a list of calls is good: what was opened is within the limits, and so is each event.
use mathlib.Core.Path.{◌≡◌, refl, sym, ◌∙◌, subst}
use mathlib.Core.Bool.{Bool, true, false, cond}
use mathlib.Core.List.{List, [], ◌∷◌}
use mathlib.Core.Logic.{◌⊎◌, inl, inr}
use Prim.Native.Nat.{ℕ, zero, suc, ◌+◌, ◌≤◌}
use native.Mathlib.Omega.{arith}
use borrow.Author.Tests.{le-ltb, eqb-false}
use lib.Dec.{eqb}
use lib.ListN.{length, get_or, set, replicate, length-set}
use Rattle.units.specs.Limits.{outside_of}
use Rattle.station.specs.declared.Call.{Call}
use Rattle.log_format.specs.declared.Form.TheVariants.{Own}
use Rattle.log_format.specs.Format.{GoodLog, GoodOpenings, GoodEvents, most_deadline, most_weight}
use Rattle.logging.specs.Sorts.{Sort, beyond, opens_urgent, opens_fair, closes, happens, sort_of}
use Rattle.logging.specs.Logging.{Opened, nothing_opened, opened_with, with_urgent, with_fair, listed, events_by, events_of, log_with, log_of}
use Rattle.logging.proofs.Sorts.{View, is_beyond_lem, is_urgent, is_fair, is_closing, is_event_lem, view}
use Rattle.logging.proofs.Halves.{start_by, events_in, after_by, opened_after, log_is}

-- ---- numbers that flows were opened with
abbrev pub AllGood : ℕ → List ℕ → Type 0
AllGood most [] = Unit {0}
AllGood most (n ∷ ns) = ((n ≡ 0) ⊎ (outside_of n most ≡ false)) × AllGood most ns

set_good : (most : ℕ) (ns : List ℕ) (i n : ℕ) → AllGood most ns → outside_of n most ≡ false → AllGood most (set ns i n)
set_good most [] i n a b = tt
set_good most (x ∷ ns) zero n a b = (inr b, a.1)
set_good most (x ∷ ns) (suc i) n a b = (a.0, set_good most ns i n a.1 b)

pub opened_good : (most : ℕ) (ns : List ℕ) (i n : ℕ) → AllGood most ns → outside_of n most ≡ false → AllGood most (opened_with ns i n)
opened_good most ns i n a b = go (eqb (get_or ns i 0) 0)
  where
    go : (t : Bool) → AllGood most (cond t (set ns i n) ns)
    go true = set_good most ns i n a b
    go false = a

pub opened_length : (ns : List ℕ) (i n : ℕ) → length (opened_with ns i n) ≡ length ns
opened_length ns i n = go (eqb (get_or ns i 0) 0)
  where
    go : (t : Bool) → length (cond t (set ns i n) ns) ≡ length ns
    go true = length-set ns i n
    go false = refl

-- a number that is not 0 is good
pub not_zero : (most n : ℕ) → (n ≡ 0) ⊎ (outside_of n most ≡ false) → eqb n 0 ≡ false → outside_of n most ≡ false
not_zero most n (inl z) e = absurd (eqb-false n 0 e z)
not_zero most n (inr b) e = b

pub listed_good : (most least flow : ℕ) (ns : List ℕ) → least ≤ flow → flow + length ns ≤ 16 → AllGood most ns → GoodOpenings most least (listed flow ns)
unfolding listed
listed_good most least flow [] l m a = tt
listed_good most least flow (n ∷ ns) l m a =
    go (eqb n 0) refl (listed_good most least (flow + 1) ns (omega arith) (omega arith) a.1) (listed_good most (flow + 1) (flow + 1) ns (omega arith) (omega arith) a.1)
  where
    go : (t : Bool) → eqb n 0 ≡ t → GoodOpenings most least (listed (flow + 1) ns) → GoodOpenings most (flow + 1) (listed (flow + 1) ns)
        → GoodOpenings most least (cond t (listed (flow + 1) ns) (record { flow = flow; number = n } ∷ listed (flow + 1) ns))
    go true e g h = g
    go false e g h = (rw (le-ltb flow least l, le-ltb 15 flow (omega arith), not_zero most n a.0 e), h)

-- ---- what was opened is good, and so are the events
pub record Valid (o : Opened) : Type 0 where
  pub deadlines : AllGood most_deadline o.deadlines
  pub sixteen : length o.deadlines ≡ 16
  pub weights : AllGood most_weight o.weights
  pub sixteen_weights : length o.weights ≡ 16

zeros_good : (most n : ℕ) → AllGood most (replicate n 0)
zeros_good most zero = tt
zeros_good most (suc n) = (inl refl, zeros_good most n)

nothing_valid : Valid nothing_opened
nothing_valid = record { deadlines = zeros_good most_deadline 16; sixteen = refl; weights = zeros_good most_weight 16; sixteen_weights = refl }

after_valid : (o : Opened) (calls : List Call) → Valid o → Valid (opened_after o calls)
unfolding opened_after
after_valid o [] v = v
after_valid o (call ∷ calls) v = go (sort_of call) (view call) (λ p w. after_valid p calls w)
  where
    go : (x : Sort) → View call x → ((p : Opened) → Valid p → Valid (opened_after p calls)) → Valid (after_by o x (λ (p : Opened). opened_after p calls))
    go beyond (is_beyond_lem q) again = again o v
    go (opens_urgent flow deadline) (is_urgent f d q l b) again =
        again (with_urgent o flow deadline)
        (record {
          deadlines = opened_good most_deadline o.deadlines flow deadline v.deadlines b;
          sixteen = opened_length o.deadlines flow deadline ∙ v.sixteen;
          weights = v.weights;
          sixteen_weights = v.sixteen_weights;
        })
    go (opens_fair flow weight) (is_fair f w q l b) again =
        again (with_fair o flow weight)
        (record {
          deadlines = v.deadlines;
          sixteen = v.sixteen;
          weights = opened_good most_weight o.weights flow weight v.weights b;
          sixteen_weights = opened_length o.weights flow weight ∙ v.sixteen_weights;
        })
    go closes is_closing again = v
    go (happens e) (is_event_lem d b q) again = v

events_on_good : (calls : List Call) → GoodEvents Own (events_of calls)
unfolding events_of
events_on_good [] = tt
events_on_good (call ∷ calls) = go (sort_of call) (view call) (events_on_good calls)
  where
    go : (x : Sort) → View call x → GoodEvents Own (events_of calls) → GoodEvents Own (events_by x (events_of calls))
    go beyond (is_beyond_lem q) again = again
    go (opens_urgent flow deadline) (is_urgent f d q l b) again = tt
    go (opens_fair flow weight) (is_fair f w q l b) again = tt
    go closes is_closing again = tt
    go (happens e) (is_event_lem d b q) again = (b, again)

events_good : (calls : List Call) → GoodEvents Own (events_in calls)
unfolding events_in
events_good [] = tt
events_good (call ∷ calls) = go (sort_of call) (view call) (events_good calls)
  where
    go : (x : Sort) → View call x → GoodEvents Own (events_in calls) → GoodEvents Own (start_by x (events_in calls) (events_of calls))
    go beyond (is_beyond_lem q) again = again
    go (opens_urgent flow deadline) (is_urgent f d q l b) again = again
    go (opens_fair flow weight) (is_fair f w q l b) again = again
    go closes is_closing again = tt
    go (happens e) (is_event_lem d b q) again = (b, events_on_good calls)

-- ---- the whole log
pub valid : (calls : List Call) → Valid (opened_after nothing_opened calls)
valid calls = after_valid nothing_opened calls nothing_valid

pub log_good : (calls : List Call) → GoodLog (log_with (opened_after nothing_opened calls) (events_in calls))
log_good calls =
    let o = opened_after nothing_opened calls in
    let v = valid calls in
    record {
      urgent = listed_good most_deadline 0 0 o.deadlines (omega arith) (omega (arith, v.sixteen)) v.deadlines;
      fair = listed_good most_weight 0 0 o.weights (omega arith) (omega (arith, v.sixteen_weights)) v.weights;
      events = events_good calls;
    }

pub is_good : (calls : List Call) → GoodLog (log_of calls)
is_good calls = subst GoodLog (sym (log_is nothing_opened calls)) (log_good calls)
