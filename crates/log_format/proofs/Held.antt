-- What is known of bytes that were read as a log.
use mathlib.Core.Path.{◌≡◌, refl, ◌∙◌, ap}
use mathlib.Core.List.{List}
use Prim.Native.Nat.{ℕ, ◌*◌, ◌/◌, ◌≤◌}
use native.Mathlib.Omega.{arith}
use lib.ListN.{length}
use Rattle.std.specs.Prelude.{Ok}
use Rattle.log_format.specs.declared.Contents.{Contents}
use Rattle.log_format.specs.Format.{GoodLog, most_bytes}
use Rattle.log_format.specs.Faults.{form_at, urgent_length, fair_length, event_length, fair_start, event_start, log_end}
use Rattle.log_format.specs.Reading.{Good, log_at, contents_of, read_of, verdict_of}
use Rattle.log_format.proofs.Faults.{Sound, read_cases}
use Rattle.log_format.proofs.Back.{openings_many, events_many, good_log}

-- the log that stands in the bytes, that it is good, its counts by the table, and where it ends
pub record Held (s : List ℕ) (c : Contents) : Type 0 where
  pub reads : read_of s ≡ Good (log_at s)
  pub good : GoodLog (log_at s)
  pub form : c.form ≡ form_at s
  pub urgent : c.urgent ≡ urgent_length s / 3
  pub fair : c.fair ≡ fair_length s / 3
  pub events : c.events ≡ event_length s / 4
  pub urgent_long : 3 * c.urgent ≡ urgent_length s
  pub fair_long : 3 * c.fair ≡ fair_length s
  pub events_long : 4 * c.events ≡ event_length s
  pub all : log_end s ≡ length s
  pub most : log_end s ≤ most_bytes

module _ (s : List ℕ) (c : Contents) where
  held_of : Sound s → log_end s ≡ length s → read_of s ≡ Good (log_at s) → c ≡ contents_of (log_at s) → Held s c
  held_of h all reads is =
      let t = h.table in
      let u : c.urgent ≡ urgent_length s / 3 = ap (λ (d : Contents). d.urgent) is ∙ openings_many s 25 (urgent_length s / 3) in
      let f : c.fair ≡ fair_length s / 3 = ap (λ (d : Contents). d.fair) is ∙ openings_many s (fair_start s) (fair_length s / 3) in
      let e : c.events ≡ event_length s / 4 = ap (λ (d : Contents). d.events) is ∙ events_many s (event_start s) (event_length s / 4) in
      record {
        reads = reads;
        good = good_log s h;
        form = ap (λ (d : Contents). d.form) is;
        urgent = u;
        fair = f;
        events = e;
        urgent_long = omega (arith, t.urgent, u);
        fair_long = omega (arith, t.fair, f);
        events_long = omega (arith, t.events, e);
        all = all;
        most = t.most;
      }

  -- bytes whose verdict is a log
  pub held : Ok c ≡ verdict_of (read_of s) → Held s c
  held e =
      read_cases s (λ r. read_of s ≡ r → Ok c ≡ verdict_of r → Held s c)
      (λ x f r v. cc)
      (λ h l r v. cc)
      (λ h l r v. held_of h l r (let is : c ≡ contents_of (log_at s) = cc in is))
      refl
      e
