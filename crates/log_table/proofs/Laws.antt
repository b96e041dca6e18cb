-- What is found in parts of the bytes, one after the other.
use Rattle.std.proofs.Common.{◌≡◌, refl, sym, ◌∙◌, ap, Bool, true, false, cond, not, List, [], ◌∷◌, ◌++◌, ℕ, ◌+◌, ◌≤◌, Option, None, Some, Result, Ok, Err, length, arith}
use lib.Dec.{ltb, eqb}
use Rattle.log_format.specs.declared.Fault.TheVariants.{EndsEarly}
use Rattle.log_format.specs.declared.Flaw.{Flaw}
use Rattle.log_format.specs.declared.Form.{Form}
use Rattle.log_format.specs.declared.Fault.{Fault}
use Rattle.log_format.specs.Format.{most_bytes}
use Rattle.log_format.specs.Faults.{byte_at, four_at, form_at, urgent_length, fair_length, event_length}
use Rattle.log_format.specs.Reading.{Part, first_part, field, table_parts, bad_opening_length, bad_event_length, first_fault}
use Rattle.log_format.proofs.Parts.{all_good}
use Rattle.log_format.proofs.Faults.{table_of}
use Rattle.log_table.specs.Scanning.{unless, found_in, layout_of, layout_told, entry}

-- ---- parts before others: what is found in them is told, and where nothing is, what is found in the others
abbrev or_then : Option (Fault × ℕ) → Option (Fault × ℕ) → Option (Fault × ℕ)
or_then None other = other
or_then (Some found) other = Some found

pub first_append : (n : ℕ) (xs ys : List Part) → first_fault n (xs ++ ys) ≡ or_then (first_fault n xs) (first_fault n ys)
unfolding first_fault
first_append n [] ys = refl
first_append n (p ∷ ps) ys = go (ltb n (p.start + p.size)) p.bad (first_append n ps ys)
  where
    go : (a b : Bool) → first_fault n (ps ++ ys) ≡ or_then (first_fault n ps) (first_fault n ys)
        → cond a (Some (EndsEarly, n)) (cond b (Some (p.fault, p.start)) (first_fault n (ps ++ ys)))
        ≡ or_then (cond a (Some (EndsEarly, n)) (cond b (Some (p.fault, p.start)) (first_fault n ps))) (first_fault n ys)
    go true b e = refl
    go false true e = refl
    go false false e = e

module _ {A B : Type 0} (n : ℕ) (xs ys : List Part) (x : A) (y : B) where
  pub stops : (flaw : Flaw) → Err flaw ≡ unless (first_fault n xs) x → Err flaw ≡ unless (first_fault n (xs ++ ys)) y
  stops flaw e = rw (first_append n xs ys) (go (first_fault n xs) e)
    where
      go : (o : Option (Fault × ℕ)) → Err flaw ≡ unless o x → Err flaw ≡ unless (or_then o (first_fault n ys)) y
      go None e = cc
      go (Some found) e = let is : flaw ≡ record { fault = found.0; place = found.1 } = cc in ap Err is

  pub passes : (z : A) → Ok z ≡ unless (first_fault n xs) x → unless (first_fault n ys) y ≡ unless (first_fault n (xs ++ ys)) y
  passes z e = rw (first_append n xs ys) (go (first_fault n xs) e)
    where
      go : (o : Option (Fault × ℕ)) → Ok z ≡ unless o x → unless (first_fault n ys) y ≡ unless (or_then o (first_fault n ys)) y
      go None e = refl
      go (Some found) e = cc

-- where nothing is found, the value is told
pub is_value : {A : Type 0} (o : Option (Fault × ℕ)) (x z : A) → Ok z ≡ unless o x → z ≡ x
is_value None x z e = cc
is_value (Some found) x z e = cc

pub none_found : {A : Type 0} (o : Option (Fault × ℕ)) (x z : A) → Ok z ≡ unless o x → o ≡ None
none_found None x z e = refl
none_found (Some found) x z e = cc

right_fits : (s : List ℕ) → first_fault (length s) (table_parts s) ≡ None → 25 + four_at s 5 + four_at s 13 + four_at s 21 ≤ most_bytes
unfolding urgent_length fair_length event_length
right_fits s e = (table_of s (all_good (length s) (table_parts s) e)).most

-- ---- an entry: its offset, and then its length
module _ (s : List ℕ) (at right : ℕ) (bad : Bool) (is : ℕ) (e : is ≡ four_at s at) where
  abbrev offset : List Part
  offset = field at (not (eqb is right)) ∷ []

  abbrev long : List Part
  long = field (at + 4) bad ∷ []

  both : found_in (length s) (offset ++ long) ≡ found_in (length s) (entry s at right bad)
  both = rw e

  pub offset_wrong : (flaw : Flaw) → Err flaw ≡ found_in (length s) offset → Err flaw ≡ found_in (length s) (entry s at right bad)
  offset_wrong flaw d = stops (length s) offset long (tt {0}) (tt {0}) flaw d ∙ both

  pub offset_right : Ok tt ≡ found_in (length s) offset → found_in (length s) long ≡ found_in (length s) (entry s at right bad)
  offset_right d = passes (length s) offset long (tt {0}) (tt {0}) (tt {0}) d ∙ both

-- ---- the first byte and the three entries, given what the table states
module _ (s : List ℕ) (u f e : ℕ) (is-u : u ≡ four_at s 5) (is-f : f ≡ four_at s 13) (is-e : e ≡ four_at s 21) where
  module _
      (bad-u bad-f bad-e : Bool)
      (by-u : bad-u ≡ bad_opening_length u)
      (by-f : bad-f ≡ bad_opening_length f)
      (by-e : bad-e ≡ bad_event_length e (25 + u + f + e))
    where
      abbrev n : ℕ
      n = length s

      abbrev first : List Part
      first = first_part s ∷ []

      abbrev urgent : List Part
      urgent = entry s 1 25 bad-u

      abbrev fair : List Part
      fair = entry s 9 (25 + u) bad-f

      abbrev events : List Part
      events = entry s 17 (25 + u + f) bad-e

      told : unless (first_fault n (first ++ (urgent ++ (fair ++ events)))) (layout_of s) ≡ layout_told s
      unfolding urgent_length fair_length event_length
      told = rw (by-u, by-f, by-e, is-u, is-f, is-e)

      pub first_wrong : (flaw : Flaw) → Err flaw ≡ unless (first_fault n first) (form_at s) → Err flaw ≡ layout_told s
      first_wrong flaw d = stops n first (urgent ++ (fair ++ events)) (form_at s) (layout_of s) flaw d ∙ told

      module _ (form : Form) (a : Ok form ≡ unless (first_fault n first) (form_at s)) where
        after_first : unless (first_fault n (urgent ++ (fair ++ events))) (layout_of s) ≡ layout_told s
        after_first = passes n first (urgent ++ (fair ++ events)) (form_at s) (layout_of s) form a ∙ told

        pub urgent_wrong : (flaw : Flaw) → Err flaw ≡ found_in n urgent → Err flaw ≡ layout_told s
        urgent_wrong flaw d = stops n urgent (fair ++ events) tt (layout_of s) flaw d ∙ after_first

        module _ (b : Ok tt ≡ found_in n urgent) where
          after_urgent : unless (first_fault n (fair ++ events)) (layout_of s) ≡ layout_told s
          after_urgent = passes n urgent (fair ++ events) tt (layout_of s) tt b ∙ after_first

          pub fair_wrong : (flaw : Flaw) → Err flaw ≡ found_in n fair → Err flaw ≡ layout_told s
          fair_wrong flaw d = stops n fair events tt (layout_of s) flaw d ∙ after_urgent

          module _ (c : Ok tt ≡ found_in n fair) where
            after_fair : unless (first_fault n events) (layout_of s) ≡ layout_told s
            after_fair = passes n fair events tt (layout_of s) tt c ∙ after_urgent

            pub events_wrong : (flaw : Flaw) → Err flaw ≡ found_in n events → Err flaw ≡ layout_told s
            events_wrong flaw d = go (first_fault n events) d ∙ after_fair
              where
                go : (o : Option (Fault × ℕ)) → ◌≡◌ {A = Result (Unit {0}) Flaw} (Err flaw) (unless o tt) → Err flaw ≡ unless o (layout_of s)
                go None d = cc
                go (Some found) d = let is : flaw ≡ record { fault = found.0; place = found.1 } = cc in ap Err is

            right : Ok tt ≡ found_in n events → Ok (layout_of s) ≡ layout_told s
            right d = rw (none_found (first_fault n events) tt tt d) at after_fair

            -- what is stated is told
            pub stated : Ok tt ≡ found_in n events → Ok (record { form = form; urgent = u; fair = f; events = e }) ≡ layout_told s
            stated d = rw (is_value (first_fault n first) (form_at s) form a, is-u, is-f, is-e) (right d)

            -- a log with a right table is not too long
            pub fits : Ok tt ≡ found_in n events → 25 + u + f + e ≤ most_bytes
            fits d =
                omega (arith, right_fits s (none_found (first_fault n (table_parts s)) (layout_of s) (layout_of s) (right d)), is-u, is-f, is-e)
