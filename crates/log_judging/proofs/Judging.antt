-- What the position of the first bad record means.
use mathlib.Core.Path.{◌≡◌, refl, ap, ◌∙◌}
use mathlib.Core.Bool.{Bool, true, false, true≢false, false≢true}
use mathlib.Core.List.{List, [], ◌∷◌, ◌++◌}
use Prim.Native.Nat.{ℕ, zero, suc, ◌+◌, ◌<◌}
use native.Mathlib.Omega.{arith}
use lib.ListN.{length, get_or}
use Rattle.std.specs.Prelude.{None, Some}
use Rattle.log_format.specs.Format.{Opening, Event, Log, GoodLog, GoodOpenings, GoodEvents, most_deadline, most_weight}
use Rattle.log_format.specs.declared.Form.{Form}
use Rattle.log_judging.specs.Judging.{bad_openings, bad_events, bad_records, first_from, first_bad, Judged}

-- ---- the first of some tests that holds
abbrev NoneBad : List Bool → Type 0
NoneBad [] = Unit {0}
NoneBad (b ∷ bs) = (b ≡ false) × NoneBad bs

none_append : (xs ys : List Bool) → NoneBad xs → NoneBad ys → NoneBad (xs ++ ys)
none_append [] ys h i = i
none_append (x ∷ xs) ys h i = (h.0, none_append xs ys h.1 i)

none_left : (xs ys : List Bool) → NoneBad (xs ++ ys) → NoneBad xs
none_left [] ys h = tt
none_left (x ∷ xs) ys h = (h.0, none_left xs ys h.1)

none_right : (xs ys : List Bool) → NoneBad (xs ++ ys) → NoneBad ys
none_right [] ys h = h
none_right (x ∷ xs) ys h = none_right xs ys h.1

abbrev First : ℕ → List Bool → ℕ → Type 0
First i bs p = (j : ℕ) × (p ≡ i + j) × (j < length bs) × (get_or bs j false ≡ true) × ((k : ℕ) → k < j → get_or bs k false ≡ false)

first_at : (i : ℕ) (bs : List Bool) (p : ℕ) → first_from i bs ≡ Some p → First i bs p
unfolding first_from
first_at i [] p e = cc
first_at i (true ∷ bs) p e = let is : i ≡ p = cc in (0, omega arith, omega arith, refl, λ k h. absurd (omega arith))
first_at i (false ∷ bs) p e =
    let r = first_at (i + 1) bs p e in
    (suc r.0, omega (arith, r.1), omega (arith, r.2), r.3, below r.0 r.4)
  where
    below : (q : ℕ) → ((k : ℕ) → k < q → get_or bs k false ≡ false) → (k : ℕ) → k < suc q → get_or (false ∷ bs) k false ≡ false
    below q r zero h = refl
    below q r (suc k) h = r k (omega arith)

first_bad_at : (bs : List Bool) (p : ℕ) → first_bad bs ≡ Some p
    → (p < length bs) × (get_or bs p false ≡ true) × ((k : ℕ) → k < p → get_or bs k false ≡ false)
first_bad_at bs p e = let r = first_at 0 bs p e in let is : p ≡ r.0 = omega (arith, r.1) in rw is (r.2, r.3, r.4)

is_first : (i : ℕ) (bs : List Bool) (position : ℕ) → get_or bs position false ≡ true → ((k : ℕ) → k < position → get_or bs k false ≡ false)
    → (first_from i bs ≡ Some (i + position)) × (position < length bs)
unfolding first_from
is_first i [] position t h = absurd (false≢true t)
is_first i (true ∷ bs) zero t h = (let z : i ≡ i + 0 = omega arith in ap Some z, omega arith)
is_first i (true ∷ bs) (suc p) t h = absurd (true≢false (h zero (omega arith)))
is_first i (false ∷ bs) zero t h = absurd (false≢true t)
is_first i (false ∷ bs) (suc p) t h =
    let r = is_first (i + 1) bs p t (λ k l. h (suc k) (omega arith)) in
    let on : i + 1 + p ≡ i + suc p = omega arith in
    (r.0 ∙ ap Some on, omega (arith, r.1))

is_first_bad : (bs : List Bool) (position : ℕ) → get_or bs position false ≡ true → ((k : ℕ) → k < position → get_or bs k false ≡ false)
    → (first_bad bs ≡ Some position) × (position < length bs)
is_first_bad bs position t h =
    let r = is_first 0 bs position t h in
    let is : 0 + position ≡ position = omega arith in
    (r.0 ∙ ap Some is, r.1)

none_first : (i : ℕ) (bs : List Bool) → NoneBad bs → first_from i bs ≡ None
unfolding first_from
none_first i [] h = refl
none_first i (true ∷ bs) h = absurd (true≢false h.0)
none_first i (false ∷ bs) h = none_first (i + 1) bs h.1

first_none : (i : ℕ) (bs : List Bool) → first_from i bs ≡ None → NoneBad bs
unfolding first_from
first_none i [] e = tt
first_none i (true ∷ bs) e = cc
first_none i (false ∷ bs) e = (refl, first_none (i + 1) bs e)

-- ---- a log with no bad record
openings_none : (most least : ℕ) (os : List Opening) → GoodOpenings most least os → NoneBad (bad_openings most least os)
unfolding bad_openings
openings_none most least [] g = tt
openings_none most least (o ∷ os) g = (g.0, openings_none most (o.flow + 1) os g.1)

openings_good : (most least : ℕ) (os : List Opening) → NoneBad (bad_openings most least os) → GoodOpenings most least os
unfolding bad_openings
openings_good most least [] g = tt
openings_good most least (o ∷ os) g = (g.0, openings_good most (o.flow + 1) os g.1)

events_none : (form : Form) (es : List Event) → GoodEvents form es → NoneBad (bad_events form es)
unfolding bad_events
events_none form [] g = tt
events_none form (e ∷ es) g = (g.0, events_none form es g.1)

events_good : (form : Form) (es : List Event) → NoneBad (bad_events form es) → GoodEvents form es
unfolding bad_events
events_good form [] g = tt
events_good form (e ∷ es) g = (g.0, events_good form es g.1)

module _ (log : Log) where
  abbrev us : List Bool
  us = bad_openings most_deadline 0 log.urgent

  abbrev fs : List Bool
  fs = bad_openings most_weight 0 log.fair

  abbrev es : List Bool
  es = bad_events log.form log.events

  good_none : GoodLog log → first_bad (bad_records log) ≡ None
  good_none g =
      none_first 0 (bad_records log)
      (none_append us (fs ++ es) (openings_none most_deadline 0 log.urgent g.urgent)
      (none_append fs es (openings_none most_weight 0 log.fair g.fair) (events_none log.form log.events g.events)))

  none_good : first_bad (bad_records log) ≡ None → GoodLog log
  none_good l =
      let n = first_none 0 (bad_records log) l in
      let m = none_right us (fs ++ es) n in
      record {
        urgent = openings_good most_deadline 0 log.urgent (none_left us (fs ++ es) n);
        fair = openings_good most_weight 0 log.fair (none_left fs es m);
        events = events_good log.form log.events (none_right fs es m);
      }

  pub judged : Judged log
  judged = record { bad = first_bad_at (bad_records log); is_bad = is_first_bad (bad_records log); good = none_good; is_good = good_none }
