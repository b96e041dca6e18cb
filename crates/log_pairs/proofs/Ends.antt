-- Where two logs that start alike differ, and what the longer has past the shorter.
use mathlib.Core.Path.{◌≡◌, refl, sym, ◌∙◌, ap}
use mathlib.Core.Bool.{Bool, true, false, cond, ◌&&◌, true≢false, false≢true}
use mathlib.Core.List.{List, [], ◌∷◌}
use Rattle.std.proofs.Common.{Option, None, Some}
use Rattle.std.specs.Prelude.{is_none}
use Prim.Native.Nat.{ℕ, ◌+◌, ◌-◌, ◌≤◌, ◌<◌}
use native.Mathlib.Omega.{arith}
use lib.Dec.{eqb}
use lib.ListN.{length, take, drop, length-drop}
use lib.Seq.{take_all, drop-drop, drop-length}
use Rattle.log_format.specs.Format.{Opening, first_byte}
use Rattle.log_format.specs.Faults.{event_start}
use Rattle.log_format.specs.Reading.{Reading, Good, Bad, contents_of, read_of, verdict_of}
use Rattle.log_format.specs.Pairs.{same_openings, comparable_by, comparable, rest_of, differ_from, tail_of, difference_of}
use Rattle.log_format.proofs.Tests.{and_true}
use Rattle.log_format.proofs.Held.{held}
use Rattle.log_pairs.specs.Common.{common_of, begins}

-- ---- two bodies
rest_differs : (at : ℕ) (xs ys : List ℕ) → is_none (differ_from at xs ys) ≡ false → rest_of xs ys ≡ []
unfolding differ_from rest_of
rest_differs at [] ys e = absurd (true≢false e)
rest_differs at (x ∷ xs) [] e = absurd (true≢false e)
rest_differs at (x ∷ xs) (y ∷ ys) e = go (eqb x y) (rest_differs (at + 1) xs ys) e
  where
    go : (t : Bool) → (is_none (differ_from (at + 1) xs ys) ≡ false → rest_of xs ys ≡ []) → is_none (cond t (differ_from (at + 1) xs ys) (Some at)) ≡ false → cond t (rest_of xs ys) [] ≡ []
    go true again e = again e
    go false again e = refl

rest_second : (at : ℕ) (xs ys : List ℕ) → is_none (differ_from at xs ys) ≡ true → length xs ≤ length ys → rest_of xs ys ≡ drop (length xs) ys
unfolding differ_from rest_of
rest_second at [] ys e l = refl
rest_second at (x ∷ xs) [] e l = absurd (omega arith)
rest_second at (x ∷ xs) (y ∷ ys) e l = go (eqb x y) (λ e. rest_second (at + 1) xs ys e (omega arith)) e
  where
    go : (t : Bool) → (is_none (differ_from (at + 1) xs ys) ≡ true → rest_of xs ys ≡ drop (length xs) ys) → is_none (cond t (differ_from (at + 1) xs ys) (Some at)) ≡ true → cond t (rest_of xs ys) [] ≡ drop (length xs) ys
    go true again e = again e
    go false again e = absurd (false≢true e)

rest_first : (at : ℕ) (xs ys : List ℕ) → is_none (differ_from at xs ys) ≡ true → length ys ≤ length xs → rest_of xs ys ≡ drop (length ys) xs
unfolding differ_from rest_of
rest_first at [] [] e l = refl
rest_first at [] (y ∷ ys) e l = absurd (omega arith)
rest_first at (x ∷ xs) [] e l = refl
rest_first at (x ∷ xs) (y ∷ ys) e l = go (eqb x y) (λ e. rest_first (at + 1) xs ys e (omega arith)) e
  where
    go : (t : Bool) → (is_none (differ_from (at + 1) xs ys) ≡ true → rest_of xs ys ≡ drop (length ys) xs) → is_none (cond t (differ_from (at + 1) xs ys) (Some at)) ≡ true → cond t (rest_of xs ys) [] ≡ drop (length ys) xs
    go true again e = again e
    go false again e = absurd (false≢true e)

-- a part up to the end
pub part_is : (k : ℕ) (l : List ℕ) → take (length l - k) (drop k l) ≡ drop k l
part_is k l = take_all (length l - k) (drop k l) (omega (arith, length-drop k l))

-- what comes after a part of the shorter comes after the shorter
drop_past : (s : ℕ) (a b : List ℕ) → s ≤ length a → drop (length (drop s a)) (drop s b) ≡ drop (length a) b
drop_past s a b l =
    let e : s + length (drop s a) ≡ length a = omega (arith, length-drop s a) in
    drop-drop (length (drop s a)) s b ∙ ap (λ (k : ℕ). drop k b) e

-- ---- two logs that can be compared start their events at one place
as_long : (xs ys : List Opening) → same_openings xs ys ≡ true → length xs ≡ length ys
unfolding same_openings
as_long [] [] e = refl
as_long [] (y ∷ ys) e = absurd (false≢true e)
as_long (x ∷ xs) [] e = absurd (false≢true e)
as_long (x ∷ xs) (y ∷ ys) e = let h = and_true (eqb x.flow y.flow && eqb x.number y.number) (same_openings xs ys) e in omega (arith, as_long xs ys h.1)

record OneStart (a b : List ℕ) : Type 0 where
  pub same : event_start b ≡ event_start a
  pub first : event_start a ≤ length a
  pub second : event_start a ≤ length b

one_start : (a b : List ℕ) → comparable a b ≡ true → OneStart a b
one_start a b = go (read_of a) refl (read_of b) refl
  where
    go : (r : Reading) → read_of a ≡ r → (q : Reading) → read_of b ≡ q → comparable_by r q ≡ true → OneStart a b
    go (Good x) e (Good y) f t =
        let h = held a (contents_of x) (sym (ap verdict_of e)) in
        let k = held b (contents_of y) (sym (ap verdict_of f)) in
        let p = and_true (eqb (first_byte x.form) (first_byte y.form) && same_openings x.urgent y.urgent) (same_openings x.fair y.fair) t in
        let u = as_long x.urgent y.urgent (and_true (eqb (first_byte x.form) (first_byte y.form)) (same_openings x.urgent y.urgent) p.0).1 in
        let w = as_long x.fair y.fair p.1 in
        record {
          same = omega (arith, h.urgent_long, h.fair_long, k.urgent_long, k.fair_long, u, w);
          first = omega (arith, h.all);
          second = omega (arith, h.urgent_long, h.fair_long, k.urgent_long, k.fair_long, u, w, k.all);
        }
    go (Good x) e (Bad fault place) f t = absurd (false≢true t)
    go (Bad fault place) e q f t = absurd (false≢true t)

-- ---- the tail
module _ (a b : List ℕ) where
  tail_by : (t : Bool) → comparable a b ≡ t → begins a b ≡ cond t (is_none (differ_from (event_start a) (drop (event_start a) a) (drop (event_start a) b))) false
  tail_by t e = rw e

  pub no_tail : (t : Bool) → t ≡ begins a b → t ≡ false → drop (length a) a ≡ tail_of a b
  no_tail t is e = drop-length a ∙ sym (go (comparable a b) refl)
    where
      go : (c : Bool) → comparable a b ≡ c → tail_of a b ≡ []
      go true f =
          let d = one_start a b f in
          let n : is_none (differ_from (event_start a) (drop (event_start a) a) (drop (event_start a) b)) ≡ false = sym (tail_by true f) ∙ sym is ∙ e in
          rw (f, d.same) (rest_differs (event_start a) (drop (event_start a) a) (drop (event_start a) b) n)
      go false f = rw f

  -- one begins the other
  begun : (t : Bool) → t ≡ begins a b → t ≡ true → (comparable a b ≡ true) × (is_none (differ_from (event_start a) (drop (event_start a) a) (drop (event_start a) b)) ≡ true)
  begun t is e = go (comparable a b) refl
    where
      go : (c : Bool) → comparable a b ≡ c → (comparable a b ≡ true) × (is_none (differ_from (event_start a) (drop (event_start a) a) (drop (event_start a) b)) ≡ true)
      go true f = (f, sym (tail_by true f) ∙ sym is ∙ e)
      go false f = absurd (false≢true (sym (tail_by false f) ∙ sym is ∙ e))

  pub second_tail : (t : Bool) → t ≡ begins a b → t ≡ true → length a < length b → drop (length a) b ≡ tail_of a b
  second_tail t is e l =
      let h = begun t is e in
      let d = one_start a b h.0 in
      let s = event_start a in
      rw (h.0, d.same)
      (sym (rest_second s (drop s a) (drop s b) h.1 (omega (arith, length-drop s a, length-drop s b)) ∙ drop_past s a b d.first))

  pub first_tail : (t : Bool) → t ≡ begins a b → t ≡ true → length b ≤ length a → drop (length b) a ≡ tail_of a b
  first_tail t is e l =
      let h = begun t is e in
      let d = one_start a b h.0 in
      let s = event_start a in
      rw (h.0, d.same)
      (sym (rest_first s (drop s a) (drop s b) h.1 (omega (arith, length-drop s a, length-drop s b)) ∙ drop_past s b a d.second))

  -- ---- what is found from the common start on
  module _ (common : Option ℕ) (is : common ≡ common_of a b) where
    not_common : common ≡ None → comparable a b ≡ false
    not_common e = go (comparable a b) refl
      where
        go : (c : Bool) → comparable a b ≡ c → c ≡ false
        go true f = let q : cond true (Some (event_start a)) None ≡ None = ap (λ (t : Bool). cond t (Some (event_start a)) None) (sym f) ∙ sym is ∙ e in cc
        go false f = refl

    pub no_difference : common ≡ None → None ≡ difference_of a b
    no_difference e = rw (not_common e)

    pub begins_not : common ≡ None → false ≡ begins a b
    begins_not e = rw (not_common e)

    module _ (start : ℕ) (e : common ≡ Some start) where
      starts_at : (comparable a b ≡ true) × (start ≡ event_start a)
      starts_at = go (comparable a b) refl
        where
          go : (c : Bool) → comparable a b ≡ c → (comparable a b ≡ true) × (start ≡ event_start a)
          go true f = (f, let q : Some (event_start a) ≡ Some start = ap (λ (t : Bool). cond t (Some (event_start a)) None) (sym f) ∙ sym is ∙ e in let p : event_start a ≡ start = cc in sym p)
          go false f = absurd (let q : None ≡ Some start = ap (λ (t : Bool). cond t (Some (event_start a)) None) (sym f) ∙ sym is ∙ e in cc)

      pub within : (start ≤ length a) × (start ≤ length b)
      within = let d = one_start a b starts_at.0 in (omega (arith, starts_at.1, d.first), omega (arith, starts_at.1, d.second))

      pub difference : differ_from start (drop start a) (drop start b) ≡ difference_of a b
      difference = rw (starts_at.0, starts_at.1, (one_start a b starts_at.0).same)

      pub begins_is : is_none (differ_from start (drop start a) (drop start b)) ≡ begins a b
      begins_is = rw (starts_at.0, starts_at.1)
