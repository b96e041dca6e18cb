-- What is read of a number, with what is left, is the text again; and a number's text is read as the number.
use Rattle.std.specs.Prelude.{Option, None, Some}
use Rattle.std.proofs.lemmas.Option.{same_Some, none-some}
use mathlib.Core.Path.{◌≡◌, refl, sym, ◌∙◌, ap, subst}
use mathlib.Core.Bool.{Bool, true, false, cond, ◌&&◌, false≢true}
use mathlib.Core.List.{List, [], ◌∷◌, ◌++◌, append_assoc, append-nil}
use Prim.Native.Nat.{ℕ, ◌+◌, ◌-◌, ◌≤◌}
use native.Mathlib.Omega.{arith}
use borrow.Author.Tests.{eqb-true, leb-true}
use lib.Dec.{leb, eqb}
use Rattle.text.specs.Decimal.{decimal_of}
use Rattle.text.specs.Reading.{blank, largest, is_digit, grown, goes_on, Taken, read_on, read_number}
use Rattle.text.proofs.Decimal.{decimal_snoc, decimal_digit, read_text}

-- both of two tests hold
pub both : (a b : Bool) → (a && b) ≡ true → (a ≡ true) × (b ≡ true)
both true b e = (refl, e)
both false b e = absurd (false≢true e)

-- what is not none by its test passed it
pub passed : {A : Type 0} (t : Bool) (o : Option A) (a : A) → cond t o None ≡ Some a → (t ≡ true) × (o ≡ Some a)
passed true o a e = (refl, e)
passed false o a e = absurd (none-some a e)

pub digit_range : (b : ℕ) → is_digit b ≡ true → (48 ≤ b) × (b ≤ 57)
digit_range b e = let t = both (leb 48 b) (leb b 57) e in (leb-true 48 b t.0, leb-true b 57 t.1)

pub goes_on_range : (value b : ℕ) → goes_on value b ≡ true → (48 ≤ b) × (b ≤ 57) × (1 ≤ value) × (grown value b ≤ largest)
goes_on_range value b e =
    let t = both (is_digit b) (leb 1 value && leb (grown value b) largest) e in
    let u = both (leb 1 value) (leb (grown value b) largest) t.1 in
    let d = digit_range b t.0 in
    (d.0, d.1, leb-true 1 value u.0, leb-true (grown value b) largest u.1)

-- what follows a number is nothing, or starts with a blank
abbrev pub Stops : List ℕ → Type 0
Stops [] = Unit {0}
Stops (b ∷ bs) = b ≡ blank

-- the number taken, with what is left, is the number so far with what stood there
abbrev pub Kept : List ℕ → Taken → Type 0
Kept text t = (text ≡ decimal_of t.0 ++ t.1) × (t.0 ≤ largest) × Stops t.1

pub kept_on : (value : ℕ) (bs : List ℕ) (t : Taken) → value ≤ largest → read_on value bs ≡ Some t → Kept (decimal_of value ++ bs) t
unfolding read_on
kept_on value [] t l e = subst (Kept (decimal_of value ++ [])) (same_Some (value, []) t e) (refl, l, tt)
kept_on value (b ∷ bs) t l e = go (eqb b blank) refl (goes_on value b) refl (kept_on (grown value b) bs t) e
  where
    go : (z : Bool) → eqb b blank ≡ z → (d : Bool) → goes_on value b ≡ d → (grown value b ≤ largest → read_on (grown value b) bs ≡ Some t → Kept (decimal_of (grown value b) ++ bs) t)
        → cond z (Some (value, b ∷ bs)) (cond d (read_on (grown value b) bs) None) ≡ Some t → Kept (decimal_of value ++ b ∷ bs) t
    go true p d q r e = subst (Kept (decimal_of value ++ b ∷ bs)) (same_Some (value, b ∷ bs) t e) (refl, l, eqb-true b blank p)
    go false p true q r e =
        let g = goes_on_range value b q in
        let m : 48 + (b - 48) ≡ b = omega (arith, g.0) in
        let s : decimal_of (grown value b) ≡ decimal_of value ++ b ∷ [] = rw m at (decimal_snoc value (b - 48) g.2 (omega (arith, g.0, g.1))) in
        let k = r g.3 e in
        (sym (rw (s, append_assoc (decimal_of value) (b ∷ []) bs)) ∙ k.0, k.1, k.2)
    go false p false q r e = absurd (none-some t e)

pub kept : (bs : List ℕ) (t : Taken) → read_number bs ≡ Some t → Kept bs t
kept [] t e = absurd (none-some t e)
kept (b ∷ bs) t e =
    let p = passed (is_digit b) (read_on (b - 48) bs) t e in
    let d = digit_range b p.0 in
    let m : 48 + (b - 48) ≡ b = omega (arith, d.0) in
    let s : decimal_of (b - 48) ≡ b ∷ [] = rw m at (decimal_digit (b - 48) (omega (arith, d.0, d.1))) in
    let k = kept_on (b - 48) bs t (omega (arith, d.0, d.1)) p.1 in
    (sym (rw s) ∙ k.0, k.1, k.2)

-- a number's text is read as the number, at the end and before a blank
pub read_last : (n : ℕ) → n ≤ largest → read_number (decimal_of n) ≡ Some (n, [])
unfolding read_on
read_last n l = ap read_number (sym (append-nil (decimal_of n))) ∙ read_text n [] l

pub read_before : (n : ℕ) (rest : List ℕ) → n ≤ largest → read_number (decimal_of n ++ blank ∷ rest) ≡ Some (n, blank ∷ rest)
unfolding read_on
read_before n rest l = read_text n (blank ∷ rest) l
