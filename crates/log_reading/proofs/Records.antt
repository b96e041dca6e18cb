-- The steps of a scan over the records of a body.
use Rattle.std.proofs.Common.{◌≡◌, ◌∙◌, true, false, List, ◌∷◌, ◌++◌, ℕ, suc, ◌+◌, ◌-◌, ◌/◌, ◌≤◌, ◌<◌, Result, Ok, Err, length, get_or, arith}
use borrow.Author.Tests.{lt-ltb, le-ltb}
use Rattle.log_format.specs.declared.Flaw.{Flaw}
use Rattle.log_format.specs.declared.Form.{Form}
use Rattle.log_format.specs.declared.Fault.{Fault}
use Rattle.log_format.specs.declared.Fault.TheVariants.{BadRecord, EndsEarly}
use Rattle.log_format.specs.Format.{bad_opening, bad_event, most_deadline, most_weight}
use Rattle.log_format.specs.Faults.{byte_at, two_of, two_at}
use Rattle.log_format.specs.Reading.{Part, first_fault, opening_parts, event_parts}
use Rattle.std.specs.Result.{result_and}
use Rattle.log_table.specs.Scanning.{found_in}
use Rattle.log_table.proofs.Laws.{stops, passes}

abbrev pub flaw : Fault → ℕ → Flaw
flaw fault place = record { fault = fault; place = place }

-- ---- a part that is cut, one that is bad, and one with nothing wrong
module _ (n : ℕ) (p : Part) (ps : List Part) where
  cut : n < p.start + p.size → Err (flaw EndsEarly n) ≡ found_in n (p ∷ ps)
  unfolding first_fault
  cut l = rw (lt-ltb n (p.start + p.size) l)

  bad : p.start + p.size ≤ n → p.bad ≡ true → Err (flaw p.fault p.start) ≡ found_in n (p ∷ ps)
  unfolding first_fault
  bad l e = rw (le-ltb n (p.start + p.size) l, e)

  good : p.start + p.size ≤ n → p.bad ≡ false → found_in n (p ∷ ps) ≡ found_in n ps
  unfolding first_fault
  good l e = rw (le-ltb n (p.start + p.size) l, e)

-- what is found in so many openings, or events, from a place on
abbrev pub openings : ℕ → ℕ → List ℕ → ℕ → ℕ → Result (Unit {0}) Flaw
openings most least s at k = found_in (length s) (opening_parts most least s at k)

abbrev pub events : Form → List ℕ → ℕ → ℕ → Result (Unit {0}) Flaw
events form s at k = found_in (length s) (event_parts form s at k)

-- an opening and an event
abbrev opening : ℕ → ℕ → List ℕ → ℕ → Part
opening most least s at = record { start = at; size = 3; bad = bad_opening most least (byte_at s at) (two_at s (at + 1)); fault = BadRecord }

abbrev event : Form → List ℕ → ℕ → Part
event form s at = record { start = at; size = 4; bad = bad_event form (byte_at s at) (byte_at s (at + 1)) (two_at s (at + 2)); fault = BadRecord }

-- so many records are left
more : (count k : ℕ) → k < count → count - k ≡ suc (count - (k + 1))
more count k h = omega arith

pub opening_cut : (most least : ℕ) (s : List ℕ) (at count k : ℕ) → k < count → length s < at + 3
    → Err (flaw EndsEarly (length s)) ≡ openings most least s at (count - k)
unfolding opening_parts
opening_cut most least s at count k h l = rw (more count k h) (cut (length s) _ _ l)

pub opening_bad : (most least : ℕ) (s : List ℕ) (at count k : ℕ) → k < count → at + 3 ≤ length s
    → bad_opening most least (get_or s at 0) (two_of (get_or s (at + 1) 0) (get_or s (at + 1 + 1) 0)) ≡ true
    → Err (flaw BadRecord at) ≡ openings most least s at (count - k)
unfolding opening_parts
opening_bad most least s at count k h l e =
    rw (more count k h) (bad (length s) (opening most least s at) (opening_parts most (byte_at s at + 1) s (at + 3) (count - (k + 1))) l e)

pub opening_good : (most least : ℕ) (s : List ℕ) (at count k : ℕ) → k < count → at + 3 ≤ length s
    → bad_opening most least (get_or s at 0) (two_of (get_or s (at + 1) 0) (get_or s (at + 1 + 1) 0)) ≡ false
    → openings most least s at (count - k) ≡ openings most (get_or s at 0 + 1) s (at + 3) (count - (k + 1))
unfolding opening_parts
opening_good most least s at count k h l e = rw (more count k h) (good (length s) (opening most least s at) (opening_parts most (byte_at s at + 1) s (at + 3) (count - (k + 1))) l e)

pub openings_done : (most least : ℕ) (s : List ℕ) (at count k : ℕ) → count ≤ k → Ok tt ≡ openings most least s at (count - k)
unfolding opening_parts first_fault
openings_done most least s at count k l = let none : count - k ≡ 0 = omega arith in rw none

pub event_cut : (form : Form) (s : List ℕ) (at count k : ℕ) → k < count → length s < at + 4
    → Err (flaw EndsEarly (length s)) ≡ events form s at (count - k)
unfolding event_parts
event_cut form s at count k h l = rw (more count k h) (cut (length s) _ _ l)

pub event_bad : (form : Form) (s : List ℕ) (at count k : ℕ) → k < count → at + 4 ≤ length s
    → bad_event form (get_or s at 0) (get_or s (at + 1) 0) (two_of (get_or s (at + 2) 0) (get_or s (at + 2 + 1) 0)) ≡ true
    → Err (flaw BadRecord at) ≡ events form s at (count - k)
unfolding event_parts
event_bad form s at count k h l e = rw (more count k h) (bad (length s) (event form s at) (event_parts form s (at + 4) (count - (k + 1))) l e)

pub event_good : (form : Form) (s : List ℕ) (at count k : ℕ) → k < count → at + 4 ≤ length s
    → bad_event form (get_or s at 0) (get_or s (at + 1) 0) (two_of (get_or s (at + 2) 0) (get_or s (at + 2 + 1) 0)) ≡ false
    → events form s at (count - k) ≡ events form s (at + 4) (count - (k + 1))
unfolding event_parts
event_good form s at count k h l e = rw (more count k h) (good (length s) (event form s at) (event_parts form s (at + 4) (count - (k + 1))) l e)

pub events_done : (form : Form) (s : List ℕ) (at count k : ℕ) → count ≤ k → Ok tt ≡ events form s at (count - k)
unfolding event_parts first_fault
events_done form s at count k l = let none : count - k ≡ 0 = omega arith in rw none

-- ---- the three bodies, one after the other
module _ (form : Form) (s : List ℕ) (u f e : ℕ) where
  abbrev us : List Part
  us = opening_parts most_deadline 0 s 25 (u / 3)

  abbrev fs : List Part
  fs = opening_parts most_weight 0 s (25 + u) (f / 3)

  abbrev es : List Part
  es = event_parts form s (25 + u + f) (e / 4)

  abbrev pub all : Result (Unit {0}) Flaw
  all = found_in (length s) (us ++ (fs ++ es))

  pub urgent_wrong : (flaw : Flaw) → Err flaw ≡ found_in (length s) us → Err flaw ≡ all
  urgent_wrong flaw d = stops (length s) us (fs ++ es) (tt {0}) (tt {0}) flaw d

  module _ (a : Ok tt ≡ found_in (length s) us) where
    after_urgent : found_in (length s) (fs ++ es) ≡ all
    after_urgent = passes (length s) us (fs ++ es) (tt {0}) (tt {0}) (tt {0}) a

    -- what is found in the fair openings, or else in the events
    pub others : (a b : Result (Unit {0}) Flaw) → a ≡ found_in (length s) fs → b ≡ found_in (length s) es → result_and a b ≡ all
    others (Ok u) b p q = q ∙ passes (length s) fs es (tt {0}) (tt {0}) u p ∙ after_urgent
    others (Err wrong) b p q = stops (length s) fs es (tt {0}) (tt {0}) wrong p ∙ after_urgent
