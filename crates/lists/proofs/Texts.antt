-- A line is read as a list exactly where it is the list's one text. While a line is no list's spoilt text, what was read of it is the
-- text of the numbers given so far, each with its blank, and of the number at hand.
use Rattle.std.proofs.lemmas.Option.{same_Some, none-some}
use mathlib.Core.Path.{◌≡◌, refl, sym, ◌∙◌, ap, subst}
use mathlib.Core.Bool.{Bool, true, false, cond, ◌&&◌, false≢true}
use mathlib.Core.List.{List, [], ◌∷◌, ◌++◌, append_assoc, append-nil}
use Rattle.std.proofs.Common.{Option, None, Some}
use Prim.Native.Nat.{ℕ, zero, suc, ◌+◌, ◌-◌, ◌≤◌}
use native.Mathlib.Omega.{arith}
use borrow.Author.Tests.{eqb-true}
use lib.Dec.{eqb}
use Rattle.link.specs.declared.Declaration.{Declaration}
use Rattle.text.specs.Decimal.{decimal_of}
use Rattle.text.specs.Reading.{blank, largest, is_digit, grown, goes_on}
use Rattle.text.proofs.Decimal.{decimal_snoc, decimal_digit}
use Rattle.text.proofs.Taken.{digit_range, goes_on_range}
use Rattle.lists.specs.declared.taking.Hand.{Hand}
use Rattle.lists.specs.Grammar.{numbers_in, numbers_text, list_text, AllSmall, Small}
use Rattle.lists.specs.Reading.{ended_of, at_hand, spoilt, takes_of, declared, Line, fresh_line, line_step, line_from, heard_as, read_list, ReadsOneList}
use Rattle.lists.proofs.Numbers.{trailed, trailed_snoc, text_last, small_snoc, numbers_snoc}
use Rattle.lists.proofs.Heard.{line_of, and-false, reads_text}

-- the numbers of a declaration that were given so far
given_of : ℕ → ℕ → ℕ → List ℕ
given_of zero burst period = []
given_of (suc zero) burst period = burst ∷ []
given_of (suc (suc n)) burst period = burst ∷ period ∷ []

-- all numbers given so far
abbrev done_of : Line → List ℕ
done_of line = numbers_in line.whole ++ given_of line.hand.given line.hand.burst line.hand.period

-- what was read is the text of those, and of the number at hand; where no byte was read there are none
record Holds (line : Line) (text : List ℕ) : Type 0 where
  few : line.hand.given ≤ 2
  small : AllSmall (done_of line)
  between : line.hand.begun ≡ false → text ≡ trailed (done_of line)
  within : line.hand.begun ≡ true → (text ≡ trailed (done_of line) ++ decimal_of line.hand.value) × (line.hand.value ≤ largest)
  empty : line.hand.some ≡ false → (text ≡ []) × (line.whole ≡ [])

-- a number at its end, and a number at hand
ended_holds : (whole : List Declaration) (value given burst period : ℕ) (done text : List ℕ) (v b : ℕ) → given ≤ 2 → AllSmall done → v ≤ largest
    → text ≡ trailed done ++ decimal_of v → b ≡ blank → done_of (line_of whole true false value given burst period) ≡ done ++ v ∷ [] → Holds (line_of whole true false value given burst period) (text ++ b ∷ [])
ended_holds whole value given burst period done text v b g s l e z q =
    record {
      few = g;
      small = subst AllSmall (sym q) (small_snoc done v s l);
      between = λ y. rw (e, z) (sym (trailed_snoc done v)) ∙ ap trailed (sym q);
      within = λ y. absurd (false≢true y);
      empty = λ y. absurd (false≢true (sym y));
    }

at_hand_holds : (whole : List Declaration) (value given burst period : ℕ) (text : List ℕ) → given ≤ 2 → AllSmall (done_of (line_of whole true true value given burst period)) → value ≤ largest
    → text ≡ trailed (done_of (line_of whole true true value given burst period)) ++ decimal_of value → Holds (line_of whole true true value given burst period) text
at_hand_holds whole value given burst period text g s l e =
    record { few = g; small = s; between = λ y. absurd (false≢true (sym y)); within = λ y. (e, l); empty = λ y. absurd (false≢true (sym y)) }

-- the last digit of a text
with_digit : (text : List ℕ) (value b : ℕ) → 1 ≤ value → 48 ≤ b → b ≤ 57 → (text ++ decimal_of value) ++ b ∷ [] ≡ text ++ decimal_of (grown value b)
with_digit text value b p l h =
    let m : 48 + (b - 48) ≡ b = omega arith in
    let s : decimal_of (grown value b) ≡ decimal_of value ++ b ∷ [] = rw m at (decimal_snoc value (b - 48) p (omega arith)) in
    rw (s, append_assoc text (decimal_of value) (b ∷ []))

first_digit : (text : List ℕ) (b : ℕ) → 48 ≤ b → b ≤ 57 → text ++ b ∷ [] ≡ text ++ decimal_of (b - 48)
first_digit text b l h =
    let m : 48 + (b - 48) ≡ b = omega arith in
    let s : decimal_of (b - 48) ≡ b ∷ [] = rw m at (decimal_digit (b - 48) (omega arith)) in
    rw s

-- the blank after a number
blank_holds : (whole : List Declaration) (any : Bool) (value given burst period b : ℕ) (text : List ℕ) → b ≡ blank → Holds (line_of whole any true value given burst period) text
    → Holds (record { whole = cond (eqb given 2 && true) (whole ++ record { burst = burst; period = period; deadline = value } ∷ []) whole; hand = ended_of (line_of whole any true value given burst period).hand }) (text ++ b ∷ [])
unfolding given_of
blank_holds whole any value zero burst period b text e h =
    let w = h.within refl in
    ended_holds whole value 1 value period (numbers_in whole ++ []) text value b (omega arith) h.small w.1 w.0 e (rw (append-nil (numbers_in whole)))
blank_holds whole any value (suc zero) burst period b text e h =
    let w = h.within refl in
    ended_holds whole value 2 burst value (numbers_in whole ++ burst ∷ []) text value b (omega arith) h.small w.1 w.0 e (rw (append_assoc (numbers_in whole) (burst ∷ []) (value ∷ [])))
blank_holds whole any value (suc (suc zero)) burst period b text e h =
    let w = h.within refl in
    let d : Declaration = record { burst = burst; period = period; deadline = value } in
    ended_holds (whole ++ d ∷ []) value 0 burst period (numbers_in whole ++ burst ∷ period ∷ []) text value b (omega arith) h.small w.1 w.0 e
    (rw (append-nil (numbers_in (whole ++ d ∷ [])), numbers_snoc whole d, append_assoc (numbers_in whole) (burst ∷ period ∷ []) (value ∷ [])))
blank_holds whole any value (suc (suc (suc n))) burst period b text e h = absurd (omega (arith, h.few))

-- one byte more of a line that it does not spoil
holds_step : (whole : List Declaration) (any begun : Bool) (value given burst period b : ℕ) (text : List ℕ) → Holds (line_of whole any begun value given burst period) text
    → (line_step (line_of whole any begun value given burst period) b).hand.bad ≡ false → Holds (line_step (line_of whole any begun value given burst period) b) (text ++ b ∷ [])
unfolding takes_of
holds_step whole any true value given burst period b text h = go (eqb b blank) refl (goes_on value b) refl
  where
    start : Line
    start = line_of whole any true value given burst period

    go : (t : Bool) → eqb b blank ≡ t → (u : Bool) → goes_on value b ≡ u
        → (cond t (ended_of start.hand) (cond u (at_hand start.hand (grown value b)) (spoilt start.hand))).bad ≡ false
        → Holds (record { whole = cond (eqb given 2 && t) (whole ++ declared start.hand ∷ []) whole; hand = cond t (ended_of start.hand) (cond u (at_hand start.hand (grown value b)) (spoilt start.hand)) }) (text ++ b ∷ [])
    go true p u q g = blank_holds whole any value given burst period b text (eqb-true b blank p) h
    go false p true q g =
        let r = goes_on_range value b q in
        let w = h.within refl in
        rw (and-false (eqb given 2))
        (at_hand_holds whole (grown value b) given burst period (text ++ b ∷ []) h.few h.small r.3 (ap (λ (t : List ℕ). t ++ b ∷ []) w.0 ∙ with_digit (trailed (done_of start)) value b r.2 r.0 r.1))
    go false p false q g = absurd (false≢true (sym g))
holds_step whole any false value given burst period b text h = go (is_digit b) refl
  where
    start : Line
    start = line_of whole any false value given burst period

    go : (t : Bool) → is_digit b ≡ t → (cond t (at_hand start.hand (b - 48)) (spoilt start.hand)).bad ≡ false
        → Holds (record { whole = whole; hand = cond t (at_hand start.hand (b - 48)) (spoilt start.hand) }) (text ++ b ∷ [])
    go true p g =
        let r = digit_range b p in
        at_hand_holds whole (b - 48) given burst period (text ++ b ∷ []) h.few h.small (omega (arith, r.0, r.1)) (ap (λ (t : List ℕ). t ++ b ∷ []) (h.between refl) ∙ first_digit (trailed (done_of start)) b r.0 r.1)
    go false p g = absurd (false≢true (sym g))

-- every byte counts as some, and a spoilt line stays spoilt
pub takes_kept : (h : Hand) (b : ℕ) → ((takes_of h b).some ≡ true) × (h.bad ≡ true → (takes_of h b).bad ≡ true)
unfolding takes_of
takes_kept h b = go h.begun (eqb b blank) (goes_on h.value b) (is_digit b) (eqb h.given 0) (eqb h.given 1)
  where
    next : Bool → Bool → Bool → Bool → Bool → Bool → Hand
    next t u v w x y =
        cond t
        (cond u
        (cond x
        (record { some = true; bad = h.bad; begun = false; value = h.value; given = 1; burst = h.value; period = h.period })
        (cond y
        (record { some = true; bad = h.bad; begun = false; value = h.value; given = 2; burst = h.burst; period = h.value })
        (record { some = true; bad = h.bad; begun = false; value = h.value; given = 0; burst = h.burst; period = h.period })))
        (cond v (at_hand h (grown h.value b)) (spoilt h)))
        (cond w (at_hand h (b - 48)) (spoilt h))

    go : (t u v w x y : Bool) → ((next t u v w x y).some ≡ true) × (h.bad ≡ true → (next t u v w x y).bad ≡ true)
    go true true v w true y = (refl, λ e. e)
    go true true v w false true = (refl, λ e. e)
    go true true v w false false = (refl, λ e. e)
    go true false true w x y = (refl, λ e. e)
    go true false false w x y = (refl, λ e. refl)
    go false u v true x y = (refl, λ e. e)
    go false u v false x y = (refl, λ e. refl)

-- one byte more of any line that is not spoilt so far
unspoilt : (line : Line) (text : List ℕ) (b : ℕ) → line.hand.bad ≡ false → Holds line text → (line_step line b).hand.bad ≡ false → Holds (line_step line b) (text ++ b ∷ [])
unspoilt line text b e =
    let h = line.hand in
    subst (λ (t : Bool). Holds (line_by t) text → (line_step (line_by t) b).hand.bad ≡ false → Holds (line_step (line_by t) b) (text ++ b ∷ [])) (sym e)
    (holds_step line.whole h.some h.begun h.value h.given h.burst h.period b text)
  where
    line_by : Bool → Line
    line_by t = record { whole = line.whole; hand = record { some = line.hand.some; bad = t; begun = line.hand.begun; value = line.hand.value; given = line.hand.given; burst = line.hand.burst; period = line.hand.period } }

-- a line's state and what was read of it, also where it is spoilt
record Read (line : Line) (text : List ℕ) : Type 0 where
  good : line.hand.bad ≡ false → Holds line text
  counts : line.hand.bad ≡ true → line.hand.some ≡ true

read_step : (line : Line) (text : List ℕ) (b : ℕ) → Read line text → Read (line_step line b) (text ++ b ∷ [])
read_step line text b r = go line.hand.bad refl
  where
    go : (t : Bool) → line.hand.bad ≡ t → Read (line_step line b) (text ++ b ∷ [])
    go true e = record { good = λ y. absurd (false≢true (sym y ∙ (takes_kept line.hand b).1 e)); counts = λ y. (takes_kept line.hand b).0 }
    go false e = record { good = unspoilt line text b e (r.good e); counts = λ y. (takes_kept line.hand b).0 }

-- at the end: a line that is heard as a list is its text
abbrev IsText : List ℕ → List Declaration → Type 0
IsText text ds = (text ≡ list_text ds) × Small ds

abbrev declaration : ℕ → ℕ → ℕ → Declaration
declaration burst period value = record { burst = burst; period = period; deadline = value }

whole_two : (whole : List Declaration) (value burst period : ℕ) (text : List ℕ) → Holds (line_of whole true true value 2 burst period) text → IsText text (whole ++ declaration burst period value ∷ [])
unfolding given_of
whole_two whole value burst period text h =
    let done = numbers_in whole ++ burst ∷ period ∷ [] in
    let d = declaration burst period value in
    let n : numbers_in (whole ++ d ∷ []) ≡ done ++ value ∷ [] = numbers_snoc whole d ∙ sym (append_assoc (numbers_in whole) (burst ∷ period ∷ []) (value ∷ [])) in
    let w = h.within refl in
    (w.0 ∙ sym (text_last done value) ∙ ap numbers_text (sym n), subst AllSmall (sym n) (small_snoc done value h.small w.1))

whole_is_text : (whole : List Declaration) (value given burst period : ℕ) (text : List ℕ) (ds : List Declaration) → Holds (line_of whole true true value given burst period) text
    → heard_as (line_of whole true true value given burst period) ≡ Some ds → IsText text ds
whole_is_text whole value given burst period text ds h e = go (eqb given 2) refl e
  where
    go : (t : Bool) → eqb given 2 ≡ t → cond t (Some (whole ++ declaration burst period value ∷ [])) None ≡ Some ds → IsText text ds
    go true p e =
        subst (IsText text) (same_Some (whole ++ declaration burst period value ∷ []) ds e)
        (whole_two whole value burst period text (subst (λ (g : ℕ). Holds (line_of whole true true value g burst period) text) (eqb-true given 2 p) h))
    go false p e = absurd (none-some ds e)

heard_is_text : (whole : List Declaration) (any bad begun : Bool) (value given burst period : ℕ) (text : List ℕ) (ds : List Declaration)
    → Read (record { whole = whole; hand = record { some = any; bad = bad; begun = begun; value = value; given = given; burst = burst; period = period } }) text
    → heard_as (record { whole = whole; hand = record { some = any; bad = bad; begun = begun; value = value; given = given; burst = burst; period = period } }) ≡ Some ds → IsText text ds
unfolding numbers_in numbers_text AllSmall
heard_is_text whole true true true value given burst period text ds r e = absurd (none-some ds e)
heard_is_text whole true true false value given burst period text ds r e = absurd (none-some ds e)
heard_is_text whole true false true value given burst period text ds r e = whole_is_text whole value given burst period text ds (r.good refl) e
heard_is_text whole true false false value given burst period text ds r e = absurd (none-some ds e)
heard_is_text whole false true begun value given burst period text ds r e = absurd (false≢true (r.counts refl))
heard_is_text whole false false begun value given burst period text ds r e =
    let h = (r.good refl).empty refl in
    subst (IsText text) (sym h.1 ∙ same_Some whole ds e) (h.0, tt)

from_is_text : (rest : List ℕ) (line : Line) (text : List ℕ) (ds : List Declaration) → Read line text → heard_as (line_from line rest) ≡ Some ds → IsText (text ++ rest) ds
unfolding line_from
from_is_text [] line text ds r e =
    let h = line.hand in
    rw (append-nil text) (heard_is_text line.whole h.some h.bad h.begun h.value h.given h.burst h.period text ds r e)
from_is_text (b ∷ rest) line text ds r e = rw (append_assoc text (b ∷ []) rest) at (from_is_text rest (line_step line b) (text ++ b ∷ []) ds (read_step line text b r) e)

fresh_read : Read fresh_line []
unfolding numbers_in given_of AllSmall trailed
fresh_read =
    record {
      good =
          λ y. record {
            few = omega arith;
            small = tt;
            between = λ z. refl;
            within = λ z. absurd (false≢true z);
            empty = λ z. (refl, refl);
          };
      counts = λ y. absurd (false≢true y);
    }

is_text : (line : List ℕ) (ds : List Declaration) → read_list line ≡ Some ds → IsText line ds
is_text line ds e = from_is_text line fresh_line [] ds fresh_read e

-- and any other line as none
other : (line : List ℕ) → ((ds : List Declaration) → line ≡ list_text ds → Small ds → ⊥) → read_list line ≡ None
other line f = go (read_list line) refl
  where
    go : (o : Option (List Declaration)) → read_list line ≡ o → read_list line ≡ None
    go None e = e
    go (Some ds) e = let w = is_text line ds e in absurd (f ds w.0 w.1)

pub reads_one_list : ReadsOneList
reads_one_list line = (is_text line, λ ds e s. ap read_list e ∙ reads_text ds s, other line)
