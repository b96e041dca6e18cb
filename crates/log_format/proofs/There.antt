-- What is written is read.
use mathlib.Core.Path.{◌≡◌, refl, sym, ◌∙◌, ap}
use mathlib.Core.Bool.{Bool, true, false, cond, ◌||◌}
use mathlib.Core.List.{List, [], ◌∷◌, ◌++◌, append-nil}
use Prim.Native.Nat.{ℕ, ◌+◌, ◌*◌, ◌/◌, ◌%◌, ◌≤◌, ◌<◌}
use native.Mathlib.Omega.{arith}
use borrow.Author.Tests.{ltb-false}
use lib.Dec.{ltb, eqb}
use lib.ListN.{length, drop, get_or, length-append}
use lib.Seq.{drop_at, drop-drop, get_or-drop}
use Rattle.units.specs.Limits.{no_such_flow, outside_of, bad_length}
use Rattle.units.proofs.Limits.{inside}
use Rattle.log_format.specs.declared.Form.{Form}
use Rattle.log_format.specs.Format.{Opening, Event, Log, GoodLog, GoodOpenings, GoodEvents, Fits, bad_opening, bad_cell, bad_event, opening_bytes, event_bytes, bytes_of, size_of, most_deadline, most_weight}
use Rattle.log_format.specs.Faults.{byte_at, two_at, four_at, urgent_length, fair_length, event_length, fair_start, event_start, log_end}
use Rattle.log_format.specs.Reading.{Good, openings_at, events_at, log_at, opening_parts, event_parts, read_of, table_parts, body_parts, urgent_body, fair_body, event_body}
use Rattle.log_format.proofs.Forms.{known, form_back, cell_small}
use Rattle.log_format.proofs.Parts.{All, all_append, none_of_good}
use Rattle.log_format.proofs.Tests.{or_false, is_right, is_length, is_events}
use Rattle.log_format.proofs.Faults.{Whole, read_cases}
use Rattle.log_format.proofs.Numbers.{two_back, four_back}
use Rattle.log_format.proofs.Places.{parts}

-- ---- lengths
pub openings_long : (os : List Opening) → length (opening_bytes os) ≡ 3 * length os
unfolding opening_bytes
openings_long [] = refl
openings_long (o ∷ os) = omega (arith, openings_long os)

pub events_long : (es : List Event) → length (event_bytes es) ≡ 4 * length es
unfolding event_bytes
events_long [] = refl
events_long (e ∷ es) = omega (arith, events_long es)

module _ (most least flow number : ℕ) (b : bad_opening most least flow number ≡ false) where
  pub opening_flow : (least ≤ flow) × (flow ≤ 15)
  opening_flow =
      let h = or_false (ltb flow least || no_such_flow flow) (outside_of number most) b in
      let i = or_false (ltb flow least) (no_such_flow flow) h.0 in
      (ltb-false flow least i.0, ltb-false 15 flow i.1)

  pub opening_number : (1 ≤ number) × (number ≤ most)
  opening_number = inside number most (or_false (ltb flow least || no_such_flow flow) (outside_of number most) b).1

-- rising flows are few
pub few : (most least : ℕ) (os : List Opening) → GoodOpenings most least os → least ≤ 16 → least + length os ≤ 16
few most least [] g l = omega arith
few most least (o ∷ os) g l =
    let f = opening_flow most least o.flow o.number g.0 in
    let r = few most (o.flow + 1) os g.1 (omega (arith, f.1)) in
    omega (arith, f.0, r)

-- the number of a good event has two bytes
pub event_small : (form : Form) (kind flow number : ℕ) → bad_event form kind flow number ≡ false → number < 65536
event_small form kind flow number = go (eqb kind 3) (eqb kind 2)
  where
    go : (a b : Bool) → cond a (no_such_flow flow || bad_length number) (cond b (no_such_flow flow || bad_cell form number) (ltb 5 kind || ltb 0 flow || ltb 0 number)) ≡ false → number < 65536
    go true b e = omega (arith, (inside number 1500 (or_false (no_such_flow flow) (bad_length number) e).1).1)
    go false true e = cell_small form number (or_false (no_such_flow flow) (bad_cell form number) e).1
    go false false e = omega (arith, ltb-false 0 number (or_false (ltb 5 kind || ltb 0 flow) (ltb 0 number) e).1)

-- ---- a body in bytes
byte_of : (s t : List ℕ) (at i j : ℕ) → drop at s ≡ t → j ≡ at + i → byte_at s j ≡ get_or t i 0
byte_of s t at i j e f = rw (f, ← get_or-drop at s i 0, e)

drop_of : (s t : List ℕ) (at i j : ℕ) → drop at s ≡ t → j ≡ at + i → drop j s ≡ drop i t
drop_of s t at i j e f = rw (f, ← drop-drop i at s, e)

module _ (s : List ℕ) where
  opening_is : (o : Opening) (at : ℕ) (t : List ℕ) → o.number < 65536 → drop at s ≡ o.flow ∷ o.number % 256 ∷ o.number / 256 % 256 ∷ t
      → (byte_at s at ≡ o.flow) × (two_at s (at + 1) ≡ o.number)
  opening_is o at t l e =
      let x = o.flow ∷ o.number % 256 ∷ o.number / 256 % 256 ∷ t in (
        byte_of s x at 0 at e (omega arith),
        rw (byte_of s x at 1 (at + 1) e refl, byte_of s x at 2 (at + 1 + 1) e (omega arith)) (two_back o.number l),
      )

  openings_read : (most least : ℕ) (os : List Opening) (at : ℕ) (rest : List ℕ) → most < 65536 → GoodOpenings most least os
      → drop at s ≡ opening_bytes os ++ rest → at + 3 * length os ≤ length s
      → (openings_at s at (length os) ≡ os) × All (Whole (length s)) (opening_parts most least s at (length os))
  unfolding opening_bytes openings_at opening_parts
  openings_read most least [] at rest m g e l = (refl, tt)
  openings_read most least (o ∷ os) at rest m g e l =
      let n = opening_number most least o.flow o.number g.0 in
      let h = opening_is o at (opening_bytes os ++ rest) (omega (arith, n.1)) e in
      let a = h.0 in
      let b = h.1 in
      let r = openings_read most (o.flow + 1) os (at + 3) rest m g.1 (drop_of s _ at 3 (at + 3) e refl) (omega arith) in
      rw (a, b) (ap (λ (t : List Opening). o ∷ t) r.0, ((omega arith, g.0), r.1))

  event_is : (v : Event) (at : ℕ) (t : List ℕ) → v.number < 65536 → drop at s ≡ v.kind ∷ v.flow ∷ v.number % 256 ∷ v.number / 256 % 256 ∷ t
      → (byte_at s at ≡ v.kind) × (byte_at s (at + 1) ≡ v.flow) × (two_at s (at + 2) ≡ v.number)
  event_is v at t l e =
      let x = v.kind ∷ v.flow ∷ v.number % 256 ∷ v.number / 256 % 256 ∷ t in (
        byte_of s x at 0 at e (omega arith),
        byte_of s x at 1 (at + 1) e refl,
        rw (byte_of s x at 2 (at + 2) e refl, byte_of s x at 3 (at + 2 + 1) e (omega arith)) (two_back v.number l),
      )

  events_read : (form : Form) (vs : List Event) (at : ℕ) (rest : List ℕ) → GoodEvents form vs
      → drop at s ≡ event_bytes vs ++ rest → at + 4 * length vs ≤ length s
      → (events_at s at (length vs) ≡ vs) × All (Whole (length s)) (event_parts form s at (length vs))
  unfolding event_bytes events_at event_parts
  events_read form [] at rest g e l = (refl, tt)
  events_read form (v ∷ vs) at rest g e l =
      let h = event_is v at (event_bytes vs ++ rest) (event_small form v.kind v.flow v.number g.0) e in
      let a = h.0 in
      let b = h.1 in
      let c = h.2 in
      let r = events_read form vs (at + 4) rest g.1 (drop_of s _ at 4 (at + 4) e refl) (omega arith) in
      rw (a, b, c) (ap (λ (t : List Event). v ∷ t) r.0, ((omega arith, g.0), r.1))

-- ---- the whole log
pub size_of_lem : (log : Log) → length (bytes_of log) ≡ size_of log
size_of_lem log =
    omega (arith, length-append (opening_bytes log.urgent) (opening_bytes log.fair ++ event_bytes log.events), length-append (opening_bytes log.fair) (event_bytes log.events), openings_long log.urgent, openings_long log.fair, events_long log.events)

module _ (log : Log) (g : GoodLog log) (fits : Fits log) where
  abbrev s : List ℕ
  s = bytes_of log

  abbrev tail : List ℕ
  tail = opening_bytes log.fair ++ event_bytes log.events

  pub urgent_is : urgent_length s ≡ 3 * length log.urgent
  unfolding urgent_length
  urgent_is = four_back (3 * length log.urgent) (omega arith)

  pub fair_is : fair_length s ≡ 3 * length log.fair
  unfolding fair_length
  fair_is = four_back (3 * length log.fair) (omega arith)

  events_is : event_length s ≡ 4 * length log.events
  unfolding event_length
  events_is = four_back (4 * length log.events) (omega arith)

  fair_offset_is : four_at s 9 ≡ fair_start s
  fair_offset_is = rw urgent_is (four_back (25 + 3 * length log.urgent) (omega arith))

  event_offset_is : four_at s 17 ≡ event_start s
  event_offset_is = rw (urgent_is, fair_is) (four_back (25 + 3 * length log.urgent + 3 * length log.fair) (omega arith))

  size_is : length s ≡ size_of log
  size_is = size_of_lem log

  fair_from : drop (fair_start s) s ≡ tail
  fair_from =
      drop_of s (opening_bytes log.urgent ++ tail) 25 (3 * length log.urgent) (fair_start s) refl (omega (arith, urgent_is))
      ∙ drop_at (opening_bytes log.urgent) tail (3 * length log.urgent) (openings_long log.urgent)

  pub events_from : drop (event_start s) s ≡ event_bytes log.events ++ []
  events_from =
      drop_of s tail (fair_start s) (3 * length log.fair) (event_start s) fair_from (omega (arith, fair_is))
      ∙ drop_at (opening_bytes log.fair) (event_bytes log.events) (3 * length log.fair) (openings_long log.fair)
      ∙ sym (append-nil (event_bytes log.events))

  urgent_read : (openings_at s 25 (length log.urgent) ≡ log.urgent) × All (Whole (length s)) (opening_parts most_deadline 0 s 25 (length log.urgent))
  urgent_read = openings_read s most_deadline 0 log.urgent 25 tail (omega arith) g.urgent refl (omega (arith, size_is))

  fair_read : (openings_at s (fair_start s) (length log.fair) ≡ log.fair) × All (Whole (length s)) (opening_parts most_weight 0 s (fair_start s) (length log.fair))
  fair_read =
      openings_read s most_weight 0 log.fair (fair_start s) (event_bytes log.events) (omega arith) g.fair fair_from (omega (arith, size_is, urgent_is))

  events_read_all : (events_at s (event_start s) (length log.events) ≡ log.events) × All (Whole (length s)) (event_parts log.form s (event_start s) (length log.events))
  events_read_all =
      events_read s log.form log.events (event_start s) [] g.events events_from (omega (arith, size_is, urgent_is, fair_is))

  urgent_count : urgent_length s / 3 ≡ length log.urgent
  urgent_count = omega (arith, urgent_is)

  fair_count : fair_length s / 3 ≡ length log.fair
  fair_count = omega (arith, fair_is)

  event_count : event_length s / 4 ≡ length log.events
  event_count = omega (arith, events_is)

  table_whole : All (Whole (length s)) (table_parts s)
  table_whole =
      let l = size_is in
      let u = few most_deadline 0 log.urgent g.urgent (omega arith) in
      let f = few most_weight 0 log.fair g.fair (omega arith) in (
        (omega arith, rw (known log.form)),
        (
          (omega arith, is_right (four_at s 1) 25 (four_back 25 (omega arith))),
          (
            (omega arith, is_length (urgent_length s) (length log.urgent, omega arith, urgent_is)),
            (
              (omega arith, is_right (four_at s 9) (fair_start s) fair_offset_is),
              (
                (omega arith, is_length (fair_length s) (length log.fair, omega arith, fair_is)),
                (
                  (omega arith, is_right (four_at s 17) (event_start s) event_offset_is),
                  ((omega arith, is_events (event_length s) (log_end s) (length log.events, events_is) (omega (arith, urgent_is, fair_is, events_is))), tt),
                ),
              ),
            ),
          ),
        ),
      )

  parts_whole : All (Whole (length s)) (parts s)
  parts_whole =
      all_append (Whole (length s)) (table_parts s) (body_parts s) table_whole
      (all_append (Whole (length s)) (urgent_body s) (fair_body s ++ event_body s) (rw urgent_count urgent_read.1)
      (all_append (Whole (length s)) (fair_body s) (event_body s) (rw fair_count fair_read.1) (rw (event_count, form_back log.form) events_read_all.1)))

  log_is : log_at s ≡ log
  log_is =
      ap (λ (form : Form). record { form = form; urgent = openings_at s 25 (urgent_length s / 3); fair = openings_at s (fair_start s) (fair_length s / 3); events = events_at s (event_start s) (event_length s / 4) }) (form_back log.form)
      ∙ ap (λ (us : List Opening). record { form = log.form; urgent = us; fair = openings_at s (fair_start s) (fair_length s / 3); events = events_at s (event_start s) (event_length s / 4) })
      (ap (λ (k : ℕ). openings_at s 25 k) urgent_count ∙ urgent_read.0)
      ∙ ap (λ (fs : List Opening). record { form = log.form; urgent = log.urgent; fair = fs; events = events_at s (event_start s) (event_length s / 4) })
      (ap (λ (k : ℕ). openings_at s (fair_start s) k) fair_count ∙ fair_read.0)
      ∙ ap (λ (vs : List Event). record { form = log.form; urgent = log.urgent; fair = log.fair; events = vs })
      (ap (λ (k : ℕ). events_at s (event_start s) k) event_count ∙ events_read_all.0)

  pub is_written : read_of s ≡ Good log
  is_written =
      read_cases s (λ r. r ≡ Good log)
      (λ x e. absurd (let c = none_of_good (length s) (parts s) parts_whole in let z : ◌≡◌ {A = ℕ} 0 1 = cc in omega arith))
      (λ h l. absurd (omega (arith, urgent_is, fair_is, events_is, size_is)))
      (λ h l. ap Good log_is)
