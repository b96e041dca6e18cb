-- A line is read as a call exactly where it is the call's one text: every call has a shape of its own.
use Rattle.std.proofs.lemmas.Option.{none-some}
use Rattle.std.specs.Option.{option_and_then}
use mathlib.Core.Path.{◌≡◌, refl, subst}
use mathlib.Core.Bool.{Bool, true, false, cond}
use mathlib.Core.List.{List, [], ◌∷◌}
use Rattle.std.proofs.Common.{Option, None, Some}
use Prim.Native.Nat.{ℕ}
use lib.Dec.{eqb}
use Rattle.text.specs.Reading.{blank, Taken, read_number}
use Rattle.shapes.specs.declared.Shape.{Shape}
use Rattle.shapes.specs.declared.Shape.TheVariants.{Word, One, Two}
use Rattle.shapes.specs.Shapes.{shape_of}
use Rattle.shapes.specs.Shapes.{read_first as shape_first, read_second as shape_second}
use Rattle.shapes.proofs.Calls.{chosen, Tells, reads, fits}
use Rattle.station.specs.declared.Call.{Call}
use Rattle.station.specs.declared.Call.TheVariants.{OpenUrgent, OpenFair, CloseUrgent, CloseFair, OfferCell, OfferPacket, OpenTurn, LostTurn, Begin, End}
use Rattle.lines.specs.Grammar.{big_u, big_f, big_c, small_c, small_u, small_f, small_t, small_x, small_b, small_e, text_of, Small}
use Rattle.lines.specs.Reading.{word_of, one_of, two_of, call_in, read_first, read_second, read_call, ReadsOneText, TextsFit}

-- the shape of a call's text
abbrev shaped : Call → Shape
shaped (OpenUrgent flow deadline) = Two big_u flow deadline
shaped (OpenFair flow weight) = Two big_f flow weight
shaped (CloseUrgent flow) = One big_c flow
shaped (CloseFair flow) = One small_c flow
shaped (OfferCell flow deadline) = Two small_u flow deadline
shaped (OfferPacket flow len) = Two small_f flow len
shaped OpenTurn = Word small_t
shaped LostTurn = Word small_x
shaped Begin = Word small_b
shaped End = Word small_e

-- it tells the call, and has its text and its numbers
tells : (c : Call) → Tells shaped call_in text_of Small c
tells (OpenUrgent flow deadline) = (refl, refl, refl)
tells (OpenFair flow weight) = (refl, refl, refl)
tells (CloseUrgent flow) = (refl, refl, refl)
tells (CloseFair flow) = (refl, refl, refl)
tells (OfferCell flow deadline) = (refl, refl, refl)
tells (OfferPacket flow len) = (refl, refl, refl)
tells OpenTurn = (refl, refl, refl)
tells LostTurn = (refl, refl, refl)
tells Begin = (refl, refl, refl)
tells End = (refl, refl, refl)

-- a shape that tells a call is the call's
word_told : (letter : ℕ) (c : Call) → word_of letter ≡ Some c → Word letter ≡ shaped c
word_told letter c e =
    chosen shaped Word letter small_t OpenTurn _ c e refl
    (λ e. chosen shaped Word letter small_x LostTurn _ c e refl
    (λ e. chosen shaped Word letter small_b Begin _ c e refl
    (λ e. chosen shaped Word letter small_e End _ c e refl (λ e. absurd (none-some c e)))))

one_told : (letter a : ℕ) (c : Call) → one_of letter a ≡ Some c → One letter a ≡ shaped c
one_told letter a c e =
    let at-letter : ℕ → Shape = λ l. One l a in
    chosen shaped at-letter letter big_c (CloseUrgent a) _ c e refl
    (λ e. chosen shaped at-letter letter small_c (CloseFair a) _ c e refl (λ e. absurd (none-some c e)))

two_told : (letter a b : ℕ) (c : Call) → two_of letter a b ≡ Some c → Two letter a b ≡ shaped c
two_told letter a b c e =
    let at-letter : ℕ → Shape = λ l. Two l a b in
    chosen shaped at-letter letter big_u (OpenUrgent a b) _ c e refl
    (λ e. chosen shaped at-letter letter big_f (OpenFair a b) _ c e refl
    (λ e. chosen shaped at-letter letter small_u (OfferCell a b) _ c e refl
    (λ e. chosen shaped at-letter letter small_f (OfferPacket a b) _ c e refl (λ e. absurd (none-some c e)))))

told : (s : Shape) (c : Call) → call_in s ≡ Some c → s ≡ shaped c
told (Word letter) c e = word_told letter c e
told (One letter a) c e = one_told letter a c e
told (Two letter a b) c e = two_told letter a b c e

-- a line is read as the call of its shape
second_read : (letter a : ℕ) (t : Option Taken) → option_and_then call_in (shape_second letter a t) ≡ read_second letter a t
second_read letter a None = refl
second_read letter a (Some (b, [])) = refl
second_read letter a (Some (b, x ∷ rest)) = refl

first_read : (letter : ℕ) (t : Option Taken) → option_and_then call_in (shape_first letter t) ≡ read_first letter t
first_read letter None = refl
first_read letter (Some (a, [])) = refl
first_read letter (Some (a, x ∷ rest)) = second_read letter a (read_number rest)

blank_read : (b : Bool) (s : Option Shape) (o : Option Call) → option_and_then call_in s ≡ o → option_and_then call_in (cond b s None) ≡ cond b o None
blank_read true s o e = e
blank_read false s o e = refl

pub read_by_shape : (line : List ℕ) → option_and_then call_in (shape_of line) ≡ read_call line
read_by_shape [] = refl
read_by_shape (letter ∷ []) = refl
read_by_shape (letter ∷ x ∷ rest) = blank_read (eqb x blank) (shape_first letter (read_number rest)) _ (first_read letter (read_number rest))

-- what ReadsOneText says of a line, of what it is read as
abbrev Right : List ℕ → Option Call → Type 0
Right line o =
    ((c : Call) → o ≡ Some c → (line ≡ text_of c) × Small c)
    × ((c : Call) → line ≡ text_of c → Small c → o ≡ Some c)
    × (((c : Call) → line ≡ text_of c → Small c → ⊥) → o ≡ None)

pub reads_one_text : ReadsOneText
reads_one_text line = subst (Right line) (read_by_shape line) (reads shaped call_in text_of Small tells told line)

pub texts_fit : TextsFit
texts_fit = fits shaped call_in text_of Small tells
