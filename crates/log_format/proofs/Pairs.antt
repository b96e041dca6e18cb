-- Two logs: the tail of the longer, and the first difference.
use mathlib.Core.Path.{◌≡◌, refl, sym, ◌∙◌, ap, ap₂, subst}
use mathlib.Core.Bool.{Bool, true, false, cond, ◌&&◌, false≢true}
use mathlib.Core.List.{List, [], ◌∷◌, ◌++◌, append-nil}
use Rattle.std.proofs.Common.{None, Some}
use Prim.Native.Nat.{ℕ, zero, suc, ◌+◌, ◌-◌, ◌*◌, ◌/◌, ◌%◌, ◌≤◌, ◌<◌}
use native.Mathlib.Omega.{arith}
use borrow.Author.Tests.{eqb-true, eq-eqb, ne_eqb}
use lib.Dec.{eqb}
use lib.ListN.{length, drop, get_or, length-drop}
use lib.Seq.{get_or-drop}
use Rattle.log_format.specs.declared.Form.{Form}
use Rattle.log_format.specs.Format.{Opening, Event, Log, first_byte, GoodEvents, Bytes, event_bytes}
use Rattle.log_format.specs.Faults.{byte_at, event_start}
use Rattle.log_format.specs.Reading.{Reading, Good, Bad, read_of}
use Rattle.log_format.specs.Pairs.{same_openings, comparable_by, comparable, rest_of, differ_from, tail_of, difference_of}
use Rattle.log_format.specs.Laws.{Alike, Prefix, Compared}
use Rattle.log_format.proofs.Forms.{same_form}
use Rattle.log_format.proofs.Tests.{and_true}
use Rattle.log_format.proofs.Numbers.{two_back}
use Rattle.log_format.proofs.Back.{is_read}
use Rattle.log_format.proofs.There.{event_small, urgent_is, fair_is, events_from}

-- ---- tests
same_self : (n : ℕ) → eqb n n ≡ true
same_self n = eq-eqb n n refl

openings_self : (os : List Opening) → same_openings os os ≡ true
unfolding same_openings
openings_self [] = refl
openings_self (o ∷ os) = rw (same_self o.flow, same_self o.number, openings_self os)

openings_equal : (os ps : List Opening) → same_openings os ps ≡ true → os ≡ ps
unfolding same_openings
openings_equal [] [] e = refl
openings_equal [] (p ∷ ps) e = absurd (false≢true e)
openings_equal (o ∷ os) [] e = absurd (false≢true e)
openings_equal (o ∷ os) (p ∷ ps) e =
    let h = and_true (eqb o.flow p.flow && eqb o.number p.number) (same_openings os ps) e in
    let i = and_true (eqb o.flow p.flow) (eqb o.number p.number) h.0 in
    let f = eqb-true o.flow p.flow i.0 in
    let n = eqb-true o.number p.number i.1 in
    let r = openings_equal os ps h.1 in
    λ k. (record { flow = f k; number = n k }) ∷ r k

-- ---- the rest of the longer
rest_self : (p q : List ℕ) → rest_of p (p ++ q) ≡ q
unfolding rest_of
rest_self [] q = refl
rest_self (x ∷ p) q = rw (same_self x, rest_self p q)

rest_other : (p q : List ℕ) → rest_of (p ++ q) p ≡ q
unfolding rest_of
rest_other [] [] = refl
rest_other [] (y ∷ q) = refl
rest_other (x ∷ p) q = rw (same_self x, rest_other p q)

bytes_append : (xs ys : List Event) → event_bytes (xs ++ ys) ≡ event_bytes xs ++ event_bytes ys
unfolding event_bytes
bytes_append [] ys = refl
bytes_append (x ∷ xs) ys = ap (λ (t : List ℕ). x.kind ∷ x.flow ∷ x.number % 256 ∷ x.number / 256 % 256 ∷ t) (bytes_append xs ys)

-- one byte of two bodies
rest_step : (x y : ℕ) (xs ys : List ℕ) → (x ≡ y → rest_of xs ys ≡ []) → rest_of (x ∷ xs) (y ∷ ys) ≡ []
unfolding rest_of
rest_step x y xs ys h = go (eqb x y) refl
  where
    go : (t : Bool) → eqb x y ≡ t → cond t (rest_of xs ys) [] ≡ []
    go true e = h (eqb-true x y e)
    go false e = refl

number_same : (m n : ℕ) → m < 65536 → n < 65536 → m % 256 ≡ n % 256 → m / 256 % 256 ≡ n / 256 % 256 → m ≡ n
number_same m n l k e f = sym (two_back m l) ∙ (let q : m % 256 + 256 * (m / 256 % 256) ≡ n % 256 + 256 * (n / 256 % 256) = rw (e, f) in q) ∙ two_back n k

no_prefix : (form : Form) (xs ys : List Event) → GoodEvents form xs → GoodEvents form ys → (Prefix xs ys → ⊥) → (Prefix ys xs → ⊥)
    → rest_of (event_bytes xs) (event_bytes ys) ≡ []
unfolding event_bytes
no_prefix form [] ys g h p q = absurd (p (ys, refl))
no_prefix form (x ∷ xs) [] g h p q = absurd (q (x ∷ xs, refl))
no_prefix form (x ∷ xs) (y ∷ ys) g h p q =
    rest_step x.kind y.kind _ _ (λ a. rest_step x.flow y.flow _ _ (λ b. rest_step (x.number % 256) (y.number % 256) _ _ (λ c. rest_step (x.number / 256 % 256) (y.number / 256 % 256) _ _ (λ d.
    let n : x.number ≡ y.number = number_same x.number y.number (event_small form x.kind x.flow x.number g.0) (event_small form y.kind y.flow y.number h.0) c d in
    let e : x ≡ y = λ i. record { kind = a i; flow = b i; number = n i } in
    no_prefix form xs ys g.1 h.1
    (λ r. p (r.0, ap₂ (λ (z : Event) (zs : List Event). z ∷ zs) (sym e) r.1))
    (λ r. q (r.0, ap₂ (λ (z : Event) (zs : List Event). z ∷ zs) e r.1))))))

-- ---- the first difference
differ_at : (at : ℕ) (xs ys : List ℕ) (k : ℕ) → k < length xs → k < length ys → (get_or xs k 0 ≡ get_or ys k 0 → ⊥)
    → ((j : ℕ) → j < k → get_or xs j 0 ≡ get_or ys j 0) → differ_from at xs ys ≡ Some (at + k)
unfolding differ_from
differ_at at [] ys k l m d s = absurd (omega arith)
differ_at at (x ∷ xs) [] k l m d s = absurd (omega arith)
differ_at at (x ∷ xs) (y ∷ ys) zero l m d s = rw (ne_eqb x y d) (let e : at ≡ at + 0 = omega arith in ap Some e)
differ_at at (x ∷ xs) (y ∷ ys) (suc k) l m d s =
    let e : at + 1 + k ≡ at + suc k = omega arith in
    rw (eq-eqb x y (s 0 (omega arith))) (differ_at (at + 1) xs ys k (omega arith) (omega arith) d (λ j h. s (suc j) (omega arith)) ∙ ap Some e)

differ_not : (at : ℕ) (xs ys : List ℕ) → ((j : ℕ) → j < length xs → j < length ys → get_or xs j 0 ≡ get_or ys j 0) → differ_from at xs ys ≡ None
unfolding differ_from
differ_not at [] ys s = refl
differ_not at (x ∷ xs) [] s = refl
differ_not at (x ∷ xs) (y ∷ ys) s =
    rw (eq-eqb x y (s 0 (omega arith) (omega arith))) (differ_not (at + 1) xs ys (λ j h i. s (suc j) (omega arith) (omega arith)))

-- ---- two logs
body_of : (a : List ℕ) (x : Log) → Bytes a → read_of a ≡ Good x → drop (event_start a) a ≡ event_bytes x.events
body_of a x b e =
    let h = is_read a x b e in
    subst (λ (s : List ℕ). drop (event_start s) s ≡ event_bytes x.events) h.0 (events_from x h.1 h.2 ∙ append-nil (event_bytes x.events))

start_of : (a : List ℕ) (x : Log) → Bytes a → read_of a ≡ Good x → event_start a ≡ 25 + 3 * length x.urgent + 3 * length x.fair
start_of a x b e =
    let h = is_read a x b e in
    subst (λ (s : List ℕ). event_start s ≡ 25 + 3 * length x.urgent + 3 * length x.fair) h.0 (rw (urgent_is x h.1 h.2, fair_is x h.1 h.2))

module _ (a b : List ℕ) where
  module _ (x y : Log) (al : Alike a b x y) where
    same : comparable a b ≡ true
    same = rw (al.reads, al.other_reads, al.form, al.urgent, al.fair, same_self (first_byte y.form), openings_self y.urgent, openings_self y.fair)

    body : drop (event_start a) a ≡ event_bytes x.events
    body = body_of a x al.bytes al.reads

    other_body : drop (event_start b) b ≡ event_bytes y.events
    other_body = body_of b y al.other_bytes al.other_reads

    starts : event_start b ≡ event_start a
    starts = start_of b y al.other_bytes al.other_reads ∙ rw (← al.urgent, ← al.fair) (sym (start_of a x al.bytes al.reads))

    tail_is : tail_of a b ≡ rest_of (event_bytes x.events) (event_bytes y.events)
    tail_is = rw (same, body, other_body)

    second : (more : List Event) → y.events ≡ x.events ++ more → tail_of a b ≡ event_bytes more
    second more e = tail_is ∙ rw (e, bytes_append) (rest_self (event_bytes x.events) (event_bytes more))

    one : (more : List Event) → x.events ≡ y.events ++ more → tail_of a b ≡ event_bytes more
    one more e = tail_is ∙ rw (e, bytes_append) (rest_other (event_bytes y.events) (event_bytes more))

    neither : (Prefix x.events y.events → ⊥) → (Prefix y.events x.events → ⊥) → tail_of a b ≡ []
    neither p q =
        let g = (is_read a x al.bytes al.reads).1.events in
        let h = (is_read b y al.other_bytes al.other_reads).1.events in
        tail_is ∙ no_prefix x.form x.events y.events g (subst (λ (form : Form). GoodEvents form y.events) (sym al.form) h) p q

    difference_is : difference_of a b ≡ differ_from (event_start a) (drop (event_start a) a) (drop (event_start a) b)
    difference_is = rw (same, starts)

    at_place : (place : ℕ) → event_start a ≤ place → place < length a → place < length b → (byte_at a place ≡ byte_at b place → ⊥)
        → ((k : ℕ) → event_start a ≤ k → k < place → byte_at a k ≡ byte_at b k) → difference_of a b ≡ Some place
    at_place place l m n d s =
        let e : event_start a + (place - event_start a) ≡ place = omega arith in
        difference_is
        ∙ differ_at (event_start a) (drop (event_start a) a) (drop (event_start a) b) (place - event_start a) (omega (arith, length-drop (event_start a) a)) (omega (arith, length-drop (event_start a) b))
        (λ q. d (let p : byte_at a (event_start a + (place - event_start a)) ≡ byte_at b (event_start a + (place - event_start a)) = sym (get_or-drop (event_start a) a (place - event_start a) 0) ∙ q ∙ get_or-drop (event_start a) b (place - event_start a) 0 in rw e at p))
        (λ j h. get_or-drop (event_start a) a j 0 ∙ s (event_start a + j) (omega arith) (omega arith) ∙ sym (get_or-drop (event_start a) b j 0))
        ∙ ap Some e

    nowhere : ((k : ℕ) → event_start a ≤ k → k < length a → k < length b → byte_at a k ≡ byte_at b k) → difference_of a b ≡ None
    nowhere s =
        difference_is
        ∙ differ_not (event_start a) (drop (event_start a) a) (drop (event_start a) b)
        (λ j h i. get_or-drop (event_start a) a j 0 ∙ s (event_start a + j) (omega arith) (omega (arith, length-drop (event_start a) a)) (omega (arith, length-drop (event_start a) b)) ∙ sym (get_or-drop (event_start a) b j 0))

  -- bytes that can be compared are two logs alike
  alike : Bytes a → Bytes b → comparable a b ≡ true → (x : Log) × (y : Log) × Alike a b x y
  alike ba bb = go (read_of a) refl (read_of b) refl
    where
      go : (r : Reading) → read_of a ≡ r → (q : Reading) → read_of b ≡ q → comparable_by r q ≡ true → (x : Log) × (y : Log) × Alike a b x y
      go (Good x) e (Good y) f t =
          let h = and_true (eqb (first_byte x.form) (first_byte y.form) && same_openings x.urgent y.urgent) (same_openings x.fair y.fair) t in
          let i = and_true (eqb (first_byte x.form) (first_byte y.form)) (same_openings x.urgent y.urgent) h.0 in (
            x,
            y,
            record {
              bytes = ba;
              other_bytes = bb;
              reads = e;
              other_reads = f;
              form = same_form x.form y.form (eqb-true (first_byte x.form) (first_byte y.form) i.0);
              urgent = openings_equal x.urgent y.urgent i.1;
              fair = openings_equal x.fair y.fair h.1;
            },
          )
      go (Good x) e (Bad g place) f t = absurd (false≢true t)
      go (Bad g place) e q f t = absurd (false≢true t)

  pub compared : Compared a b
  compared =
      record {
        tail_second = λ x y more al e. second x y al more e;
        tail_first = λ x y more al e. one x y al more e;
        tail_none = λ ba bb h. none_of ba bb h (comparable a b) refl;
        differ = λ x y place al l m n d s. at_place x y al place l m n d s;
        differ_none = λ ba bb h. no_difference ba bb h (comparable a b) refl;
      }
    where
      none_of : Bytes a → Bytes b → ((x y : Log) → Alike a b x y → (Prefix x.events y.events → ⊥) × (Prefix y.events x.events → ⊥))
          → (t : Bool) → comparable a b ≡ t → tail_of a b ≡ []
      none_of ba bb h true e =
          let r = alike ba bb e in
          let p = h r.0 r.1 r.2 in
          neither r.0 r.1 r.2 p.0 p.1
      none_of ba bb h false e = rw e

      no_difference : Bytes a → Bytes b → ((x y : Log) (k : ℕ) → Alike a b x y → event_start a ≤ k → k < length a → k < length b → byte_at a k ≡ byte_at b k)
          → (t : Bool) → comparable a b ≡ t → difference_of a b ≡ None
      no_difference ba bb h true e = let r = alike ba bb e in nowhere r.0 r.1 r.2 (λ k. h r.0 r.1 k r.2)
      no_difference ba bb h false e = rw e
