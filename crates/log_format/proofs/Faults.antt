-- A refusal is a fault of the bytes, and no other stands before it.
use mathlib.Core.Path.{◌≡◌, refl, sym}
use mathlib.Core.Bool.{Bool, true, false}
use mathlib.Core.List.{List, [], ◌∷◌, ◌++◌}
use mathlib.Core.Logic.{◌⊎◌, inl, inr}
use Rattle.std.proofs.Common.{None, Some}
use Prim.Native.Nat.{ℕ, zero, suc, ◌+◌, ◌*◌, ◌/◌, ◌≤◌, ◌<◌}
use native.Mathlib.Omega.{arith}
use borrow.Author.Tests.{ltb-true, ltb-false, not-false}
use lib.Dec.{ltb}
use lib.ListN.{length}
use Rattle.log_format.specs.declared.Fault.{Fault}
use Rattle.log_format.specs.declared.Fault.TheVariants.{FirstByte, TableField, BadRecord, EndsEarly, ByteTooMany}
use Rattle.log_format.specs.declared.Form.{Form}
use Rattle.log_format.specs.Format.{Log, most_deadline, most_weight, most_bytes}
use Rattle.log_format.specs.Faults.{FaultAt, WrongField, byte_at, four_at, form_at, urgent_length, fair_length, event_length, fair_start, event_start, log_end}
use Rattle.log_format.specs.Reading.{Reading, Good, Bad, Part, is_first, first_fault, table_parts, body_parts, opening_parts, event_parts, urgent_body, fair_body, event_body, log_at, after_bodies, after_table, read_of}
use Rattle.log_format.specs.Laws.{OneFault}
use Rattle.log_format.proofs.Parts.{Found, All, Any, Hit, lowest, not_none, found, all_good, append_some, append_none}
use Rattle.log_format.proofs.Tests.{right, length_of, events_of}
use Rattle.log_format.proofs.Places.{parts, parts_after, Told, parts_told, is_hit}

abbrev pub Whole : ℕ → Part → Type 0
Whole n p = (p.start + p.size ≤ n) × (p.bad ≡ false)

pub all_left : (P : Part → Type 0) (xs ys : List Part) → All P (xs ++ ys) → All P xs
all_left P [] ys a = tt
all_left P (x ∷ xs) ys a = (a.0, all_left P xs ys a.1)

pub all_right : (P : Part → Type 0) (xs ys : List Part) → All P (xs ++ ys) → All P ys
all_right P [] ys a = a
all_right P (x ∷ xs) ys a = all_right P xs ys a.1

-- ---- what a good table says
pub record Table (s : List ℕ) : Type 0 where
  pub first : is_first (byte_at s 0) ≡ true
  pub offset : four_at s 1 ≡ 25
  pub urgent : urgent_length s ≡ 3 * (urgent_length s / 3)
  pub urgent_most : urgent_length s ≤ 48
  pub fair_offset : four_at s 9 ≡ fair_start s
  pub fair : fair_length s ≡ 3 * (fair_length s / 3)
  pub fair_most : fair_length s ≤ 48
  pub event_offset : four_at s 17 ≡ event_start s
  pub events : event_length s ≡ 4 * (event_length s / 4)
  pub most : log_end s ≤ most_bytes
  pub whole : 25 ≤ length s

module _ (s : List ℕ) where
  pub table_of : All (Whole (length s)) (table_parts s) → Table s
  table_of a =
      let u = length_of (urgent_length s) a.1.1.0.1 in
      let f = length_of (fair_length s) a.1.1.1.1.0.1 in
      let e = events_of (event_length s) (log_end s) a.1.1.1.1.1.1.0.1 in
      record {
        first = not-false (is_first (byte_at s 0)) a.0.1;
        offset = right (four_at s 1) 25 a.1.0.1;
        urgent = u.0;
        urgent_most = u.1;
        fair_offset = right (four_at s 9) (fair_start s) a.1.1.1.0.1;
        fair = f.0;
        fair_most = f.1;
        event_offset = right (four_at s 17) (event_start s) a.1.1.1.1.1.0.1;
        events = e.0;
        most = e.1;
        whole = a.1.1.1.1.1.1.0.0;
      }

  openings_end : (n most least at k : ℕ) → at ≤ n → All (Whole n) (opening_parts most least s at k) → at + 3 * k ≤ n
  unfolding opening_parts
  openings_end n most least at zero l a = omega arith
  openings_end n most least at (suc k) l a =
      let r = openings_end n most (byte_at s at + 1) (at + 3) k a.0.0 a.1 in omega (arith, r)

  events_end : (n : ℕ) (form : Form) (at k : ℕ) → at ≤ n → All (Whole n) (event_parts form s at k) → at + 4 * k ≤ n
  unfolding event_parts
  events_end n form at zero l a = omega arith
  events_end n form at (suc k) l a = let r = events_end n form (at + 4) k a.0.0 a.1 in omega (arith, r)

  -- the parts of good bytes
  pub record Sound : Type 0 where
    pub table : Table s
    pub urgent : All (Whole (length s)) (urgent_body s)
    pub fair : All (Whole (length s)) (fair_body s)
    pub events : All (Whole (length s)) (event_body s)
    pub fits : log_end s ≤ length s
    pub clean : first_fault (length s) (parts s) ≡ None

  pub sound : first_fault (length s) (parts s) ≡ None → Sound
  sound e =
      let a = all_good (length s) (parts s) e in
      let t = table_of (all_left (Whole (length s)) (table_parts s) (body_parts s) a) in
      let b = all_right (Whole (length s)) (table_parts s) (body_parts s) a in
      let u = all_left (Whole (length s)) (urgent_body s) (fair_body s ++ event_body s) b in
      let c = all_right (Whole (length s)) (urgent_body s) (fair_body s ++ event_body s) b in
      let f = all_left (Whole (length s)) (fair_body s) (event_body s) c in
      let v = all_right (Whole (length s)) (fair_body s) (event_body s) c in
      let x : 25 + urgent_length s ≤ length s =
      omega (arith, openings_end (length s) most_deadline 0 25 (urgent_length s / 3) t.whole u, t.urgent) in
      let y : 25 + urgent_length s + fair_length s ≤ length s =
      omega (arith, openings_end (length s) most_weight 0 (fair_start s) (fair_length s / 3) x f, t.fair) in
      record {
        table = t;
        urgent = u;
        fair = f;
        events = v;
        fits = omega (arith, events_end (length s) (form_at s) (event_start s) (event_length s / 4) y v, t.events);
        clean = e;
      }

  -- ---- the reading's three ways
  read_once : read_of s ≡ after_bodies s (first_fault (length s) (parts s))
  unfolding read_of
  read_once = go (first_fault (length s) (table_parts s)) refl
    where
      go : (r : Found) → first_fault (length s) (table_parts s) ≡ r → after_table s r ≡ after_bodies s (first_fault (length s) (parts s))
      go (Some x) e = rw (append_some (length s) x (table_parts s) (body_parts s) e)
      go None e = rw (append_none (length s) (table_parts s) (body_parts s) e)

  pub read_cases : (P : Reading → Type 0)
      → ((x : Fault × ℕ) → first_fault (length s) (parts s) ≡ Some x → P (Bad x.0 x.1))
      → (Sound → log_end s < length s → P (Bad ByteTooMany (log_end s)))
      → (Sound → log_end s ≡ length s → P (Good (log_at s)))
      → P (read_of s)
  read_cases P found many good = rw read_once (go (first_fault (length s) (parts s)) refl (ltb (log_end s) (length s)) refl)
    where
      go : (r : Found) → first_fault (length s) (parts s) ≡ r → (t : Bool) → ltb (log_end s) (length s) ≡ t → P (after_bodies s r)
      go (Some x) e t f = found x e
      go None e true f = rw f (many (sound e) (ltb-true (log_end s) (length s) f))
      go None e false f =
          let h = sound e in
          rw f (good h (omega (arith, h.fits, ltb-false (log_end s) (length s) f)))

  -- ---- a refusal is a fault
  told : (x : Fault × ℕ) → first_fault (length s) (parts s) ≡ Some x → FaultAt s x.0 x.1
  told = found (length s) (λ x. FaultAt s x.0 x.1) (parts s) parts_told'
    where
      parts_told' : All (Told s) (parts s)
      parts_told' = parts_told s

  pub is_fault : (f : Fault) (place : ℕ) → read_of s ≡ Bad f place → FaultAt s f place
  is_fault f place =
      read_cases (λ r. r ≡ Bad f place → FaultAt s f place)
      (λ x e q. let a : x.0 ≡ f = cc in let b : x.1 ≡ place = cc in rw (a, b) at (told x e))
      (λ h l q. let a : ByteTooMany ≡ f = cc in let b : log_end s ≡ place = cc in rw (← a) (sym b, l))
      (λ h l q. absurd (let z : ◌≡◌ {A = ℕ} 0 1 = cc in omega arith))

  -- ---- where faults stand
  -- where a fault of each number can stand
  abbrev Stands : Fault → ℕ → Type 0
  Stands FirstByte place = (place ≡ 0) × (place < length s)
  Stands TableField place = (1 ≤ place) × (place ≤ 21) × (place < length s)
  Stands BadRecord place = (25 ≤ place) × (place < length s) × (place < log_end s)
  Stands EndsEarly place = (place ≡ length s) × (place < log_end s)
  Stands ByteTooMany place = (place ≡ log_end s) × (25 ≤ place) × (place < length s)

  stands : (f : Fault) (place : ℕ) → FaultAt s f place → Stands f place
  stands FirstByte place h = (h.0, omega (arith, h.0, h.1))
  stands TableField place h = go h.1
    where
      go : WrongField s place → Stands TableField place
      go (inl w) = (omega (arith, w.0), omega (arith, w.0), omega (arith, h.0))
      go (inr (inl w)) = (omega (arith, w.0), omega (arith, w.0), omega (arith, h.0))
      go (inr (inr (inl w))) = (omega (arith, w.0), omega (arith, w.0), omega (arith, h.0))
      go (inr (inr (inr (inl w)))) = (omega (arith, w.0), omega (arith, w.0), omega (arith, h.0))
      go (inr (inr (inr (inr (inl w))))) = (omega (arith, w.0), omega (arith, w.0), omega (arith, h.0))
      go (inr (inr (inr (inr (inr w))))) = (omega (arith, w.0), omega (arith, w.0), omega (arith, h.0))
  stands BadRecord place (inl w) = (omega (arith, w.1), omega (arith, w.3), omega (arith, w.1, w.2))
  stands BadRecord place (inr (inl w)) = (omega (arith, w.1), omega (arith, w.3), omega (arith, w.1, w.2))
  stands BadRecord place (inr (inr w)) = (omega (arith, w.1), omega (arith, w.3), omega (arith, w.1, w.2))
  stands EndsEarly place h = (h.0, omega (arith, h.0, h.1))
  stands ByteTooMany place h = (h.0, omega (arith, h.0), omega (arith, h.0, h.1))

  early_most : (f : Fault) (place : ℕ) → Stands f place → place ≤ length s
  early_most FirstByte place h = omega (arith, h.1)
  early_most TableField place h = omega (arith, h.2)
  early_most BadRecord place h = omega (arith, h.1)
  early_most EndsEarly place h = omega (arith, h.0)
  early_most ByteTooMany place h = omega (arith, h.2)

  many_most : (f : Fault) (place : ℕ) → Stands f place → place ≤ log_end s
  many_most FirstByte place h = omega (arith, h.0)
  many_most TableField place h = omega (arith, h.1)
  many_most BadRecord place h = omega (arith, h.2)
  many_most EndsEarly place h = omega (arith, h.1)
  many_most ByteTooMany place h = omega (arith, h.0)

  -- ---- no fault stands before the refusal
  module _ (g : Fault) (other : ℕ) (h : FaultAt s g other) where
    none_before : (x : Fault × ℕ) → first_fault (length s) (parts s) ≡ Some x → x.1 ≤ other
    none_before x e = go (is_hit s other g h)
      where
        t : Stands x.0 x.1
        t = stands x.0 x.1 (told x e)

        go : Any (Hit (length s) other) (parts s) ⊎ ((other ≡ length s) × (length s < log_end s)) ⊎ ((other ≡ log_end s) × (log_end s < length s)) → x.1 ≤ other
        go (inl i) = lowest (length s) other 0 (parts s) (parts_after s) i x e
        go (inr (inl i)) = omega (arith, early_most x.0 x.1 t, i.0)
        go (inr (inr i)) = omega (arith, many_most x.0 x.1 t, i.0)

    only_end : first_fault (length s) (parts s) ≡ None → log_end s ≤ length s → (other ≡ log_end s) × (log_end s < length s)
    only_end e l = go (is_hit s other g h)
      where
        go : Any (Hit (length s) other) (parts s) ⊎ ((other ≡ length s) × (length s < log_end s)) ⊎ ((other ≡ log_end s) × (log_end s < length s)) → (other ≡ log_end s) × (log_end s < length s)
        go (inl i) = absurd (not_none (length s) other 0 (parts s) (parts_after s) i e)
        go (inr (inl i)) = absurd (omega (arith, i.1))
        go (inr (inr i)) = i

    pub is_lowest : (f : Fault) (place : ℕ) → read_of s ≡ Bad f place → place ≤ other
    is_lowest f place =
        read_cases (λ r. r ≡ Bad f place → place ≤ other)
        (λ x e q. let b : x.1 ≡ place = cc in omega (arith, none_before x e))
        (λ c l q. let b : log_end s ≡ place = cc in omega (arith, (only_end c.clean c.fits).0))
        (λ c l q. absurd (let z : ◌≡◌ {A = ℕ} 0 1 = cc in omega arith))

    pub is_faultless : (log : Log) → read_of s ≡ Good log → ⊥
    is_faultless log =
        read_cases (λ r. r ≡ Good log → ⊥)
        (λ x e q. let z : ◌≡◌ {A = ℕ} 0 1 = cc in omega arith)
        (λ c l q. let z : ◌≡◌ {A = ℕ} 0 1 = cc in omega arith)
        (λ c l q. omega (arith, (only_end c.clean c.fits).1))

  -- ---- no two faults stand at one place
  one : (f g : Fault) (place : ℕ) → Stands f place → Stands g place → f ≡ g
  one FirstByte FirstByte place h i = refl
  one FirstByte TableField place h i = absurd (omega (arith, h.0, i.0))
  one FirstByte BadRecord place h i = absurd (omega (arith, h.0, i.0))
  one FirstByte EndsEarly place h i = absurd (omega (arith, h.1, i.0))
  one FirstByte ByteTooMany place h i = absurd (omega (arith, h.0, i.1))
  one TableField FirstByte place h i = absurd (omega (arith, h.0, i.0))
  one TableField TableField place h i = refl
  one TableField BadRecord place h i = absurd (omega (arith, h.1, i.0))
  one TableField EndsEarly place h i = absurd (omega (arith, h.2, i.0))
  one TableField ByteTooMany place h i = absurd (omega (arith, h.1, i.1))
  one BadRecord FirstByte place h i = absurd (omega (arith, h.0, i.0))
  one BadRecord TableField place h i = absurd (omega (arith, h.0, i.1))
  one BadRecord BadRecord place h i = refl
  one BadRecord EndsEarly place h i = absurd (omega (arith, h.1, i.0))
  one BadRecord ByteTooMany place h i = absurd (omega (arith, h.2, i.0))
  one EndsEarly FirstByte place h i = absurd (omega (arith, h.0, i.1))
  one EndsEarly TableField place h i = absurd (omega (arith, h.0, i.2))
  one EndsEarly BadRecord place h i = absurd (omega (arith, h.0, i.1))
  one EndsEarly EndsEarly place h i = refl
  one EndsEarly ByteTooMany place h i = absurd (omega (arith, h.0, i.2))
  one ByteTooMany FirstByte place h i = absurd (omega (arith, h.1, i.0))
  one ByteTooMany TableField place h i = absurd (omega (arith, h.1, i.1))
  one ByteTooMany BadRecord place h i = absurd (omega (arith, h.0, i.2))
  one ByteTooMany EndsEarly place h i = absurd (omega (arith, h.2, i.0))
  one ByteTooMany ByteTooMany place h i = refl

pub one_fault : OneFault
one_fault s f g place h i = one s f g place (stands s f place h) (stands s g place i)
