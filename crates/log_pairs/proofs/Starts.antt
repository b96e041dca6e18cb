-- Two logs that start alike.
use mathlib.Core.Path.{◌≡◌, refl, sym, ◌∙◌, ap}
use mathlib.Core.Bool.{Bool, true, false, cond, ◌&&◌, not, true≢false}
use mathlib.Core.List.{List, [], ◌∷◌}
use Prim.Native.Nat.{ℕ, ◌+◌, ◌*◌, ◌/◌, ◌≤◌}
use native.Mathlib.Omega.{arith}
use borrow.Author.Tests.{ne_eqb, eq-eqb}
use lib.Dec.{eqb}
use lib.ListN.{length}
use Rattle.log_format.specs.declared.Contents.{Contents}
use denote.Enum.Bare.{sameb}
use Rattle.log_format.specs.contracts.Form.{the_type}
use Rattle.log_format.specs.declared.Flaw.{Flaw}
use Rattle.log_format.specs.declared.Form.{Form}
use Rattle.log_format.specs.declared.Form.TheVariants.{Flow, Own}
use Rattle.std.specs.Result.{result_ok}
use Rattle.std.proofs.Common.{None, Some, Result, Ok, Err}
use Rattle.log_format.specs.Format.{Opening, first_byte, most_bytes}
use Rattle.log_format.specs.Faults.{form_at, urgent_length, fair_length, fair_start, event_start}
use Rattle.log_format.specs.Reading.{Reading, Good, Bad, openings_at, log_at, read_of, verdict_of}
use Rattle.log_format.specs.Pairs.{same_openings, same_start, comparable, comparable_by}
use Rattle.log_format.proofs.Back.{openings_many}
use Rattle.log_format.proofs.Held.{Held, held}
use Rattle.log_pairs.specs.Common.{common_of}
use Rattle.log_pairs.proofs.Differ.{same_left}

-- lists of other lengths are not the same
not_as_long : (xs ys : List Opening) → (length xs ≡ length ys → ⊥) → same_openings xs ys ≡ false
unfolding same_openings
not_as_long [] [] n = absurd (n refl)
not_as_long [] (y ∷ ys) n = refl
not_as_long (x ∷ xs) [] n = refl
not_as_long (x ∷ xs) (y ∷ ys) n = no (eqb x.flow y.flow) (eqb x.number y.number) (not_as_long xs ys (λ e. n (omega (arith, e))))
  where
    no : (p q : Bool) → same_openings xs ys ≡ false → (p && q && same_openings xs ys) ≡ false
    no true true e = e
    no true false e = refl
    no false q e = refl

-- a first byte tells one form
one_form : (f g : Form) → first_byte f ≡ first_byte g → f ≡ g
one_form Flow Flow e = refl
one_form Flow Own e = absurd (omega arith)
one_form Own Flow e = absurd (omega arith)
one_form Own Own e = refl

-- the test whether two forms differ
pub forms_same : (f g : Form) → false ≡ not (sameb the_type f g) → f ≡ g
forms_same Flow Flow e = refl
forms_same Flow Own e = absurd (true≢false (sym e))
forms_same Own Flow e = absurd (true≢false (sym e))
forms_same Own Own e = refl

pub forms_differ : (f g : Form) → true ≡ not (sameb the_type f g) → f ≡ g → ⊥
forms_differ Flow Flow e d = true≢false e
forms_differ Flow Own e d = cc
forms_differ Own Flow e d = cc
forms_differ Own Own e d = true≢false e

-- ---- three tests
second_fails : (p q r : Bool) → q ≡ false → false ≡ (p && q && r)
second_fails true true r e = absurd (let z : ◌≡◌ {A = ℕ} 0 1 = cc in omega arith)
second_fails true false r e = refl
second_fails false q r e = refl

third_fails : (p q r : Bool) → r ≡ false → false ≡ (p && q && r)
third_fails true true r e = sym e
third_fails true false r e = refl
third_fails false q r e = refl

-- ---- logs with these contents
module _ (a b : List ℕ) (x y : Contents) (g : Ok x ≡ verdict_of (read_of a)) (h : Ok y ≡ verdict_of (read_of b)) where
  abbrev H : Held a x
  H = held a x g

  abbrev K : Held b y
  K = held b y h

  -- the three tests of logs that start alike
  abbrev P : Bool
  P = eqb (first_byte (form_at a)) (first_byte (form_at b))

  abbrev Q : Bool
  Q = same_openings (openings_at a 25 (urgent_length a / 3)) (openings_at b 25 (urgent_length b / 3))

  abbrev R : Bool
  R = same_openings (openings_at a (fair_start a) (fair_length a / 3)) (openings_at b (fair_start b) (fair_length b / 3))

  -- the openings lie within both
  pub urgent_within : x.urgent ≡ y.urgent → (25 + 3 * x.urgent ≤ length a) × (25 + 3 * x.urgent ≤ length b)
  urgent_within e = (omega (arith, H.urgent_long, H.all), omega (arith, e, K.urgent_long, K.all))

  pub fair_within : x.urgent ≡ y.urgent → x.fair ≡ y.fair
      → (25 + 3 * x.urgent + 3 * x.fair ≤ length a) × (25 + 3 * x.urgent + 3 * x.fair ≤ length b)
  fair_within e f = (omega (arith, H.urgent_long, H.fair_long, H.all), omega (arith, e, f, K.urgent_long, K.fair_long, K.all))

  pub small : 25 + 3 * x.urgent + 3 * x.fair ≤ most_bytes
  small = omega (arith, H.urgent_long, H.fair_long, H.most)

  -- logs of other forms, or with other counts
  pub other_form : (x.form ≡ y.form → ⊥) → false ≡ same_start (log_at a) (log_at b)
  other_form n =
      let t : P ≡ false = ne_eqb (first_byte (form_at a)) (first_byte (form_at b)) (λ e. n (one_form x.form y.form (ap first_byte H.form ∙ e ∙ sym (ap first_byte K.form)))) in
      rw t

  pub other_urgent_count : (x.urgent ≡ y.urgent → ⊥) → false ≡ same_start (log_at a) (log_at b)
  other_urgent_count n =
      second_fails P Q R (not_as_long (openings_at a 25 (urgent_length a / 3)) (openings_at b 25 (urgent_length b / 3))
      (λ e. n (omega (arith, H.urgent, K.urgent, openings_many a 25 (urgent_length a / 3), openings_many b 25 (urgent_length b / 3), e))))

  pub other_fair_count : (x.fair ≡ y.fair → ⊥) → false ≡ same_start (log_at a) (log_at b)
  other_fair_count n =
      third_fails P Q R (not_as_long (openings_at a (fair_start a) (fair_length a / 3)) (openings_at b (fair_start b) (fair_length b / 3))
      (λ e. n (omega (arith, H.fair, K.fair, openings_many a (fair_start a) (fair_length a / 3), openings_many b (fair_start b) (fair_length b / 3), e))))

  -- and logs of one form, with the same counts
  module _ (d : x.form ≡ y.form) (e : x.urgent ≡ y.urgent) (f : x.fair ≡ y.fair) where
    abbrev T : Bool
    T = same_left a b 25 x.urgent

    abbrev S : Bool
    S = same_left a b (25 + 3 * x.urgent) x.fair

    first_same : P ≡ true
    first_same = eq-eqb (first_byte (form_at a)) (first_byte (form_at b)) (ap first_byte (sym H.form ∙ d ∙ K.form))

    urgent_is : T ≡ Q
    urgent_is =
        ap (λ (k : ℕ). same_openings (openings_at a 25 k) (openings_at b 25 x.urgent)) H.urgent
        ∙ ap (λ (k : ℕ). same_openings (openings_at a 25 (urgent_length a / 3)) (openings_at b 25 k)) (e ∙ K.urgent)

    fair_is : S ≡ R
    fair_is =
        let p : 25 + 3 * x.urgent ≡ fair_start a = omega (arith, H.urgent_long) in
        let q : 25 + 3 * x.urgent ≡ fair_start b = omega (arith, e, K.urgent_long) in
        ap (λ (k : ℕ). same_openings (openings_at a (25 + 3 * x.urgent) k) (openings_at b (25 + 3 * x.urgent) x.fair)) H.fair
        ∙ ap (λ (k : ℕ). same_openings (openings_at a (25 + 3 * x.urgent) (fair_length a / 3)) (openings_at b (25 + 3 * x.urgent) k)) (f ∙ K.fair)
        ∙ ap (λ (k : ℕ). same_openings (openings_at a k (fair_length a / 3)) (openings_at b (25 + 3 * x.urgent) (fair_length b / 3))) p
        ∙ ap (λ (k : ℕ). same_openings (openings_at a (fair_start a) (fair_length a / 3)) (openings_at b k (fair_length b / 3))) q

    pub both_bodies : (T && S) ≡ same_start (log_at a) (log_at b)
    both_bodies = rw (first_same, urgent_is, fair_is)

  -- ---- two logs that can be compared
  both_read : comparable a b ≡ same_start (log_at a) (log_at b)
  both_read = rw (H.reads, K.reads)

  pub common_start : same_start (log_at a) (log_at b) ≡ true → Some (25 + 3 * x.urgent + 3 * x.fair) ≡ common_of a b
  common_start alike =
      let c : comparable a b ≡ true = both_read ∙ alike in
      let s : 25 + 3 * x.urgent + 3 * x.fair ≡ event_start a = omega (arith, H.urgent_long, H.fair_long) in
      rw c (ap Some s)

  pub common_not : same_start (log_at a) (log_at b) ≡ false → None ≡ common_of a b
  common_not other = let c : comparable a b ≡ false = both_read ∙ other in rw c

-- ---- bytes that are no log
module _ (a b : List ℕ) (r : Result Contents Flaw) where
  pub first_refused : r ≡ verdict_of (read_of a) → result_ok r ≡ None → None ≡ common_of a b
  first_refused is e = go (read_of a) is
    where
      go : (q : Reading) → r ≡ verdict_of q → None ≡ cond (comparable_by q (read_of b)) (Some (event_start a)) None
      go (Good log) is = let told : result_ok r ≡ Some _ = ap result_ok is in cc
      go (Bad fault place) is = refl

  pub second_refused : r ≡ verdict_of (read_of b) → result_ok r ≡ None → None ≡ common_of a b
  second_refused is e = go (read_of a) (read_of b) is
    where
      go : (p q : Reading) → r ≡ verdict_of q → None ≡ cond (comparable_by p q) (Some (event_start a)) None
      go (Good log) (Good more) is = let told : result_ok r ≡ Some _ = ap result_ok is in cc
      go (Good log) (Bad fault place) is = refl
      go (Bad fault place) q is = refl

-- ---- bytes that are a log
pub reads_as : (s : List ℕ) (r : Result Contents Flaw) (x : Contents) → r ≡ verdict_of (read_of s) → Some x ≡ result_ok r → Ok x ≡ verdict_of (read_of s)
reads_as s (Ok y) x is e = let p : x ≡ y = cc in ap Ok p ∙ is
reads_as s (Err flaw) x is e = cc
