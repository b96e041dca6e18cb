-- What a line is read as, byte by byte, and the law by which a reader may go instead: a line is read as a call exactly where it
-- is the call's one text and its numbers are small enough.
use Rattle.std.specs.Prelude.{cond, List, [], ◌∷◌, ◌≡◌, ℕ, ◌≤◌, eqb, length, Option, None, Some}
use Rattle.shapes.specs.declared.Shape.{Shape}
use Rattle.shapes.specs.declared.Shape.TheVariants.{Word, One, Two}
use Rattle.text.specs.Reading.{blank, Taken, read_number}
use Rattle.station.specs.declared.Call.{Call}
use Rattle.station.specs.declared.Call.TheVariants.{OpenUrgent, OpenFair, CloseUrgent, CloseFair, OfferCell, OfferPacket, OpenTurn, LostTurn, Begin, End}
use Rattle.lines.specs.Grammar.{big_u, big_f, big_c, small_c, small_u, small_f, small_t, small_x, small_b, small_e, text_of, Small}

-- the command of a letter alone
abbrev pub word_of : ℕ → Option Call
word_of letter =
    cond (eqb letter small_t) (Some OpenTurn)
    (cond (eqb letter small_x) (Some LostTurn)
    (cond (eqb letter small_b) (Some Begin) (cond (eqb letter small_e) (Some End) None)))

-- the command of a letter and one number
abbrev pub one_of : ℕ → ℕ → Option Call
one_of letter a =
    cond (eqb letter big_c) (Some (CloseUrgent a)) (cond (eqb letter small_c) (Some (CloseFair a)) None)

-- the command of a letter and two numbers
abbrev pub two_of : ℕ → ℕ → ℕ → Option Call
two_of letter a b =
    cond (eqb letter big_u) (Some (OpenUrgent a b))
    (cond (eqb letter big_f) (Some (OpenFair a b))
    (cond (eqb letter small_u) (Some (OfferCell a b)) (cond (eqb letter small_f) (Some (OfferPacket a b)) None)))

-- after a first number and a blank a second number ends the line
abbrev pub read_second : ℕ → ℕ → Option Taken → Option Call
read_second letter a None = None
read_second letter a (Some (b, [])) = two_of letter a b
read_second letter a (Some (b, x ∷ rest)) = None

-- a first number ends the line, or a blank and a second number follow it
abbrev pub read_first : ℕ → Option Taken → Option Call
read_first letter None = None
read_first letter (Some (a, [])) = one_of letter a
read_first letter (Some (a, x ∷ rest)) = read_second letter a (read_number rest)

-- a line: a letter alone, or a letter, a blank and what follows
abbrev pub read_call : List ℕ → Option Call
read_call [] = None
read_call (letter ∷ []) = word_of letter
read_call (letter ∷ x ∷ rest) = cond (eqb x blank) (read_first letter (read_number rest)) None

-- the command of a line's shape
abbrev pub call_in : Shape → Option Call
call_in (Word letter) = word_of letter
call_in (One letter a) = one_of letter a
call_in (Two letter a b) = two_of letter a b

-- A line is read as a call exactly where it is the call's one text and each number is small enough; any other line is none.
abbrev pub ReadsOneText : Type 0
ReadsOneText =
    (line : List ℕ)
    → ((c : Call) → read_call line ≡ Some c → (line ≡ text_of c) × Small c)
    × ((c : Call) → line ≡ text_of c → Small c → read_call line ≡ Some c)
    × (((c : Call) → line ≡ text_of c → Small c → ⊥) → read_call line ≡ None)

-- No call with numbers small enough has a text longer than 23 bytes, so that no limit of 32 bytes shuts one out.
abbrev pub TextsFit : Type 0
TextsFit = (c : Call) → Small c → length (text_of c) ≤ 23
