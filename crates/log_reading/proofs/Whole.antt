-- The reading: the table, the bodies, and then the end.
use Rattle.std.proofs.Common.{◌≡◌, ◌∙◌, ap, List, ℕ, ◌+◌, ◌/◌, ◌≤◌, ◌<◌, Option, None, Some, Result, Ok, Err, length, arith}
use borrow.Author.Tests.{lt-ltb, le-ltb}
use Rattle.log_format.specs.declared.Contents.{Contents}
use Rattle.log_format.specs.declared.Fault.{Fault}
use Rattle.log_format.specs.declared.Fault.TheVariants.{ByteTooMany}
use Rattle.log_format.specs.declared.Flaw.{Flaw}
use Rattle.log_format.specs.Faults.{four_at, form_at, urgent_length, fair_length, event_length, fair_start, event_start, log_end}
use Rattle.log_format.specs.Reading.{first_fault, table_parts, body_parts, after_bodies, after_table, read_of, verdict_of}
use Rattle.log_format.proofs.Back.{openings_many, events_many}
use Rattle.log_table.specs.declared.Layout.{Layout}
use Rattle.log_table.specs.Scanning.{unless, layout_of, layout_told}
use Rattle.log_table.proofs.Laws.{is_value, none_found}
use Rattle.log_reading.proofs.Records.{flaw, all}

module _ (s : List ℕ) where
  abbrev in_table : Option (Fault × ℕ)
  in_table = first_fault (length s) (table_parts s)

  abbrev in_bodies : Option (Fault × ℕ)
  in_bodies = first_fault (length s) (body_parts s)

  pub table_wrong : (wrong : Flaw) → Err wrong ≡ layout_told s → Err wrong ≡ verdict_of (read_of s)
  unfolding read_of
  table_wrong wrong e = go in_table e
    where
      go : (o : Option (Fault × ℕ)) → Err wrong ≡ unless o (layout_of s) → Err wrong ≡ verdict_of (after_table s o)
      go None e = cc
      go (Some found) e = let is : wrong ≡ record { fault = found.0; place = found.1 } = cc in ap Err is

  module _ (l : Layout) (told : Ok l ≡ layout_told s) where
    is-l : l ≡ layout_of s
    is-l = is_value in_table (layout_of s) l told

    right : verdict_of (after_bodies s in_bodies) ≡ verdict_of (read_of s)
    unfolding read_of
    right = rw (none_found in_table (layout_of s) l told)

    found : all l.form s l.urgent l.fair l.events ≡ unless in_bodies (tt {0})
    unfolding urgent_length fair_length event_length
    found = rw is-l

    end_is : log_end s ≡ 25 + l.urgent + l.fair + l.events
    unfolding urgent_length fair_length event_length
    end_is = rw is-l

    pub bodies_wrong : (wrong : Flaw) → Err wrong ≡ all l.form s l.urgent l.fair l.events → Err wrong ≡ verdict_of (read_of s)
    bodies_wrong wrong e = go in_bodies (e ∙ found) ∙ right
      where
        go : (o : Option (Fault × ℕ)) → ◌≡◌ {A = Result (Unit {0}) Flaw} (Err wrong) (unless o tt) → Err wrong ≡ verdict_of (after_bodies s o)
        go None e = cc
        go (Some found) e = let is : wrong ≡ record { fault = found.0; place = found.1 } = cc in ap Err is

    module _ (clean : Ok tt ≡ all l.form s l.urgent l.fair l.events) where
      past : verdict_of (after_bodies s None) ≡ verdict_of (read_of s)
      past = rw (none_found in_bodies (tt {0}) (tt {0}) (clean ∙ found)) at right

      pub too_many : 25 + l.urgent + l.fair + l.events < length s
          → Err (flaw ByteTooMany (25 + l.urgent + l.fair + l.events)) ≡ verdict_of (read_of s)
      too_many m = rw (lt-ltb (log_end s) (length s) (omega (arith, end_is)), end_is) at past

      pub whole : length s ≤ 25 + l.urgent + l.fair + l.events
          → Ok (record { form = l.form; urgent = l.urgent / 3; fair = l.fair / 3; events = l.events / 4 }) ≡ verdict_of (read_of s)
      unfolding urgent_length fair_length event_length
      whole m =
          rw is-l
          (counted (openings_many s 25 (four_at s 5 / 3)) (openings_many s (fair_start s) (four_at s 13 / 3)) (events_many s (event_start s) (four_at s 21 / 4))
          ∙ rw (le-ltb (log_end s) (length s) (omega (arith, end_is))) at past)
        where
          counted : {x y z : ℕ} → x ≡ four_at s 5 / 3 → y ≡ four_at s 13 / 3 → z ≡ four_at s 21 / 4
              → ◌≡◌ {A = Result Contents Flaw} (Ok (record { form = form_at s; urgent = four_at s 5 / 3; fair = four_at s 13 / 3; events = four_at s 21 / 4 }))
              (Ok (record { form = form_at s; urgent = x; fair = y; events = z }))
          counted a b c = rw (a, b, c)
