-- The first bad record, as it is looked for. Of each loop the invariant is that the first bad record of those still to be judged, so many
-- records further on, is that of them all.
use mathlib.Core.Path.{◌≡◌, refl, sym, ◌∙◌, ap}
use mathlib.Core.Bool.{Bool, true, false}
use Rattle.std.specs.Prelude.{Option, None, Some}
use mathlib.Core.List.{List, [], ◌∷◌, ◌++◌, map}
use Prim.Native.Nat.{ℕ, suc, ◌+◌, ◌/◌, ◌%◌, ◌≤◌, ◌<◌}
use native.Mathlib.Numerals.{add-one}
use native.Mathlib.Omega.{arith}
use lib.ListN.{length, drop, get_or, length-map, drop_of_length-le}
use lib.Seq.{drop-cons}
use Rattle.log_format.specs.declared.Form.{Form}
use Rattle.log_format.specs.Format.{Opening, Event, bad_opening, bad_event, most_deadline, most_weight}
use Rattle.log_format.specs.Words.{opening_of, event_of, lent_log}
use Rattle.log_judging.specs.Judging.{bad_openings, bad_events, bad_records, first_from, first_bad}

-- ---- the openings of a body from one on
abbrev pub openings_from : ℕ → ℕ → List ℕ → ℕ → Option ℕ
openings_from most least ws i = first_from i (bad_openings most least (map opening_of (drop i ws)))

module _ (most least : ℕ) (ws : List ℕ) (i : ℕ) where
  pub opening_bad : i < length ws → bad_opening most least (get_or ws i 0 % 256) (get_or ws i 0 / 256) ≡ true → Some i ≡ openings_from most least ws i
  unfolding first_from bad_openings
  opening_bad l e = rw (drop-cons ws i 0 l, e)

  pub opening_good : i < length ws → bad_opening most least (get_or ws i 0 % 256) (get_or ws i 0 / 256) ≡ false
      → openings_from most (get_or ws i 0 % 256 + 1) ws (i + 1) ≡ openings_from most least ws i
  unfolding first_from bad_openings
  opening_good l e = rw (drop-cons ws i 0 l, e, add-one i)

  pub openings_end : length ws ≤ i → None ≡ openings_from most least ws i
  unfolding first_from bad_openings
  openings_end l = rw (drop_of_length-le ws l)

-- ---- the events from one on
abbrev pub events_from : Form → List ℕ → ℕ → Option ℕ
events_from form ws i = first_from i (bad_events form (map event_of (drop i ws)))

module _ (form : Form) (ws : List ℕ) (i : ℕ) where
  pub event_bad : i < length ws → bad_event form (get_or ws i 0 % 256) (get_or ws i 0 / 256 % 256) (get_or ws i 0 / 65536) ≡ true → Some i ≡ events_from form ws i
  unfolding first_from bad_events
  event_bad l e = rw (drop-cons ws i 0 l, e)

  pub event_good : i < length ws → bad_event form (get_or ws i 0 % 256) (get_or ws i 0 / 256 % 256) (get_or ws i 0 / 65536) ≡ false
      → events_from form ws (i + 1) ≡ events_from form ws i
  unfolding first_from bad_events
  event_good l e = rw (drop-cons ws i 0 l, e, add-one i)

  pub events_end : length ws ≤ i → None ≡ events_from form ws i
  unfolding first_from bad_events
  events_end l = rw (drop_of_length-le ws l)

-- ---- one body after the other
before : (i : ℕ) (bs cs : List Bool) (p : ℕ) → first_from i bs ≡ Some p → first_from i (bs ++ cs) ≡ Some p
unfolding first_from
before i [] cs p e = cc
before i (true ∷ bs) cs p e = e
before i (false ∷ bs) cs p e = before (i + 1) bs cs p e

after : (i j : ℕ) (bs cs : List Bool) → first_from i bs ≡ None → j ≡ i + length bs → first_from i (bs ++ cs) ≡ first_from j cs
unfolding first_from
after i j [] cs e n = let is : j ≡ i = omega arith in rw is
after i j (true ∷ bs) cs e n = cc
after i j (false ∷ bs) cs e n = after (i + 1) j bs cs e (omega arith)

-- records that come after n others stand n positions further on
on_none : (n i j : ℕ) (bs : List Bool) → first_from i bs ≡ None → first_from j bs ≡ None
unfolding first_from
on_none n i j [] e = refl
on_none n i j (true ∷ bs) e = cc
on_none n i j (false ∷ bs) e = on_none n (i + 1) (j + 1) bs e

on_some : (n i j : ℕ) (bs : List Bool) (p : ℕ) → j ≡ n + i → first_from i bs ≡ Some p → first_from j bs ≡ Some (n + p)
unfolding first_from
on_some n i j [] p q e = cc
on_some n i j (true ∷ bs) p q e = let is : i ≡ p = cc in let at : j ≡ n + p = omega arith in ap Some at
on_some n i j (false ∷ bs) p q e = on_some n (i + 1) (j + 1) bs p (omega arith) e

in_range : (i : ℕ) (bs : List Bool) (p : ℕ) → first_from i bs ≡ Some p → p < i + length bs
unfolding first_from
in_range i [] p e = cc
in_range i (true ∷ bs) p e = let is : i ≡ p = cc in omega arith
in_range i (false ∷ bs) p e = omega (arith, in_range (i + 1) bs p e)

openings_judged : (most least : ℕ) (os : List Opening) → length (bad_openings most least os) ≡ length os
unfolding bad_openings
openings_judged most least [] = refl
openings_judged most least (o ∷ os) = ap suc (openings_judged most (o.flow + 1) os)

events_judged : (form : Form) (es : List Event) → length (bad_events form es) ≡ length es
unfolding bad_events
events_judged form [] = refl
events_judged form (e ∷ es) = ap suc (events_judged form es)

-- so many records are judged as are lent
pub openings_many : (most : ℕ) (ws : List ℕ) → length (bad_openings most 0 (map opening_of ws)) ≡ length ws
openings_many most ws = openings_judged most 0 (map opening_of ws) ∙ length-map ws opening_of

pub events_many : (form : Form) (ws : List ℕ) → length (bad_events form (map event_of ws)) ≡ length ws
events_many form ws = events_judged form (map event_of ws) ∙ length-map ws event_of

pub opening_within : (most : ℕ) (ws : List ℕ) (p : ℕ) → Some p ≡ first_bad (bad_openings most 0 (map opening_of ws)) → p < length ws
opening_within most ws p e = omega (arith, in_range 0 (bad_openings most 0 (map opening_of ws)) p (sym e), openings_many most ws)

pub event_within : (form : Form) (ws : List ℕ) (p : ℕ) → Some p ≡ first_bad (bad_events form (map event_of ws)) → p < length ws
event_within form ws p e = omega (arith, in_range 0 (bad_events form (map event_of ws)) p (sym e), events_many form ws)

module _ (form : Form) (urgent fair events : List ℕ) where
  abbrev us : List Bool
  us = bad_openings most_deadline 0 (map opening_of urgent)

  abbrev fs : List Bool
  fs = bad_openings most_weight 0 (map opening_of fair)

  abbrev es : List Bool
  es = bad_events form (map event_of events)

  abbrev first : Option ℕ
  first = first_bad (bad_records (lent_log form urgent fair events))

  pub bad_urgent : (p : ℕ) → Some p ≡ first_bad us → Some p ≡ first
  bad_urgent p e = sym (before 0 us (fs ++ es) p (sym e))

  module _ (u : None ≡ first_bad us) where
    past_urgent : first ≡ first_from (length urgent) (fs ++ es)
    past_urgent = after 0 (length urgent) us (fs ++ es) (sym u) (omega (arith, openings_many most_deadline urgent))

    pub bad_fair : (p : ℕ) → Some p ≡ first_bad fs → Some (length urgent + p) ≡ first
    bad_fair p e =
        sym (past_urgent ∙ before (length urgent) fs es (length urgent + p) (on_some (length urgent) 0 (length urgent) fs p (omega arith) (sym e)))

    module _ (f : None ≡ first_bad fs) where
      past_fair : first ≡ first_from (length urgent + length fair) es
      past_fair =
          past_urgent
          ∙ after (length urgent) (length urgent + length fair) fs es (on_none 0 0 (length urgent) fs (sym f)) (omega (arith, openings_many most_weight fair))

      pub bad_event_lem : (p : ℕ) → Some p ≡ first_bad es → Some (length urgent + length fair + p) ≡ first
      bad_event_lem p e =
          sym (past_fair ∙ on_some (length urgent + length fair) 0 (length urgent + length fair) es p (omega arith) (sym e))

      pub no_bad : None ≡ first_bad es → None ≡ first
      no_bad e = sym (past_fair ∙ on_none 0 0 (length urgent + length fair) es (sym e))
