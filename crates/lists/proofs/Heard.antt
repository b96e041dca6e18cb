-- A list's text is read as the list: digit by digit, number by number and declaration by declaration.
use mathlib.Core.Path.{◌≡◌, refl, sym, ◌∙◌, ap}
use mathlib.Core.Bool.{Bool, true, false, ◌&&◌}
use mathlib.Core.List.{List, [], ◌∷◌, ◌++◌, append_assoc, append-nil}
use Rattle.std.proofs.Common.{Some}
use Prim.Native.Nat.{ℕ, zero, suc, ◌+◌, ◌-◌, ◌*◌, ◌/◌, ◌%◌, ◌≤◌, ◌<◌}
use native.Mathlib.Decide.{dec_lt}
use native.Mathlib.Omega.{arith}
use borrow.Author.Tests.{le-leb, ne_eqb}
use lib.Dec.{eqb}
use Rattle.link.specs.declared.Declaration.{Declaration}
use Rattle.text.specs.Decimal.{decimal_within, decimal_of}
use Rattle.text.specs.Reading.{blank, largest}
use Rattle.text.proofs.Decimal.{one_digit, more_digits}
use Rattle.lists.specs.Grammar.{numbers_in, numbers_text, list_text, AllSmall, Small}
use Rattle.lists.specs.Reading.{takes_of, Line, line_step, line_from, heard_as, read_list}

-- a line by its parts, no spoilt one
abbrev pub line_of : List Declaration → Bool → Bool → ℕ → ℕ → ℕ → ℕ → Line
line_of whole any begun value given burst period = record { whole = whole; hand = record { some = any; bad = false; begun = begun; value = value; given = given; burst = burst; period = period } }

pub and-false : (t : Bool) → (t && false) ≡ false
and-false true = refl
and-false false = refl

-- a list's text is read as the list: bytes one part after the other
pub from_append : (line : Line) (a b : List ℕ) → line_from line (a ++ b) ≡ line_from (line_from line a) b
unfolding line_from
from_append line [] b = refl
from_append line (x ∷ a) b = from_append (line_step line x) a b

-- a digit that begins a number, and one that goes on with it
digit_first : (whole : List Declaration) (any : Bool) (value given burst period d : ℕ) → d < 10
    → line_step (line_of whole any false value given burst period) (48 + d) ≡ line_of whole true true d given burst period
unfolding takes_of
digit_first whole any value given burst period d l =
    let e : 48 + d - 48 ≡ d = omega arith in
    rw (le-leb 48 (48 + d) (omega arith), le-leb (48 + d) 57 (omega arith), e)

digit_next : (whole : List Declaration) (a given burst period d : ℕ) → 1 ≤ a → d < 10 → a * 10 + d ≤ largest
    → line_step (line_of whole true true a given burst period) (48 + d) ≡ line_of whole true true (a * 10 + d) given burst period
unfolding takes_of
digit_next whole a given burst period d p l h =
    let e : 48 + d - 48 ≡ d = omega arith in
    rw (ne_eqb (48 + d) 32 (λ z. omega arith), and-false (eqb given 2), le-leb 48 (48 + d) (omega arith), le-leb (48 + d) 57 (omega arith), e, le-leb 1 a p, le-leb (a * 10 + d) largest h)

decimal_within_lem : (f : ℕ) (whole : List Declaration) (any : Bool) (value given burst period n : ℕ) → n ≤ f → n ≤ largest
    → line_from (line_of whole any false value given burst period) (decimal_within f n) ≡ line_of whole true true n given burst period
unfolding line_from
decimal_within_lem zero whole any value given burst period n e l = rw (one_digit zero n (omega arith)) (digit_first whole any value given burst period n (omega arith))
decimal_within_lem (suc f) whole any value given burst period n e l = go (decimal_within_lem f) (dec_lt n 10)
  where
    start : Line
    start = line_of whole any false value given burst period

    go : ((whole : List Declaration) (any : Bool) (value given burst period n : ℕ) → n ≤ f → n ≤ largest
        → line_from (line_of whole any false value given burst period) (decimal_within f n) ≡ line_of whole true true n given burst period)
        → Dec (n < 10) → line_from start (decimal_within (suc f) n) ≡ line_of whole true true n given burst period
    go r (yes h) = rw (one_digit (suc f) n h) (digit_first whole any value given burst period n h)
    go r (no h) =
        let q : n / 10 * 10 + n % 10 ≡ n = omega arith in
        ap (line_from start) (more_digits f n (omega arith))
        ∙ from_append start (decimal_within f (n / 10)) ((48 + n % 10) ∷ [])
        ∙ ap (λ (line : Line). line_step line (48 + n % 10)) (r whole any value given burst period (n / 10) (omega arith) (omega arith))
        ∙ digit_next whole (n / 10) given burst period (n % 10) (omega arith) (omega arith) (omega arith)
        ∙ ap (λ (k : ℕ). line_of whole true true k given burst period) q

decimal_read : (whole : List Declaration) (any : Bool) (value given burst period n : ℕ) (rest : List ℕ) → n ≤ largest
    → line_from (line_of whole any false value given burst period) (decimal_of n ++ rest) ≡ line_from (line_of whole true true n given burst period) rest
unfolding decimal_of
decimal_read whole any value given burst period n rest l =
    from_append (line_of whole any false value given burst period) (decimal_within n n) rest
    ∙ ap (λ (line : Line). line_from line rest) (decimal_within_lem n whole any value given burst period n (omega arith) l)

-- a declaration and what follows it
three_read : (whole : List Declaration) (any : Bool) (value burst period b p d : ℕ) (rest : List ℕ) → b ≤ largest → p ≤ largest → d ≤ largest
    → line_from (line_of whole any false value 0 burst period) (decimal_of b ++ blank ∷ (decimal_of p ++ blank ∷ (decimal_of d ++ rest))) ≡ line_from (line_of whole true true d 2 b p) rest
unfolding line_from takes_of
three_read whole any value burst period b p d rest lb lp ld =
    decimal_read whole any value 0 burst period b (blank ∷ (decimal_of p ++ blank ∷ (decimal_of d ++ rest))) lb
    ∙ decimal_read whole true b 1 b period p (blank ∷ (decimal_of d ++ rest)) lp
    ∙ decimal_read whole true p 2 b p d rest ld

list_read : (d : Declaration) (ds whole : List Declaration) (any : Bool) (value burst period : ℕ) → Small (d ∷ ds)
    → heard_as (line_from (line_of whole any false value 0 burst period) (list_text (d ∷ ds))) ≡ Some (whole ++ d ∷ ds)
unfolding line_from takes_of numbers_in numbers_text AllSmall
list_read d [] whole any value burst period s =
    ap heard_as (ap (λ (end : List ℕ). line_from (line_of whole any false value 0 burst period) (decimal_of d.burst ++ blank ∷ (decimal_of d.period ++ blank ∷ end))) (sym (append-nil (decimal_of d.deadline)))
    ∙ three_read whole any value burst period d.burst d.period d.deadline [] s.0 s.1.0 s.1.1.0)
list_read d (e ∷ ds) whole any value burst period s =
    ap heard_as (three_read whole any value burst period d.burst d.period d.deadline (blank ∷ list_text (e ∷ ds)) s.0 s.1.0 s.1.1.0)
    ∙ list_read e ds (whole ++ d ∷ []) true d.deadline d.burst d.period s.1.1.1
    ∙ ap Some (append_assoc whole (d ∷ []) (e ∷ ds))

pub reads_text : (ds : List Declaration) → Small ds → read_list (list_text ds) ≡ Some ds
unfolding line_from numbers_in numbers_text
reads_text [] s = refl
reads_text (d ∷ ds) s = list_read d ds [] false 0 0 0 s
