-- Decimals by their last digit, and lines by their first byte.
use mathlib.Core.Path.{◌≡◌, refl, sym, ◌∙◌, ap}
use mathlib.Core.List.{List, [], ◌∷◌, ◌++◌}
use Prim.Native.Nat.{ℕ, ◌+◌, ◌*◌, ◌/◌, ◌%◌, ◌≤◌}
use native.Mathlib.Omega.{arith}
use borrow.Author.Tests.{ne_eqb}
use Rattle.text.specs.Spelled.{bytes_of}
use Rattle.text.specs.Decimal.{decimal_of, decimal_within}
use Rattle.text.proofs.Decimal.{decimal_snoc, decimal_digit}
use Rattle.text.specs.Input.{onto, lines_of}
use Rattle.promises.specs.Bytes.{DecimalsSpelled, Unbroken, LinesCut}

longer : (n : ℕ) → 10 ≤ n → decimal_of n ≡ decimal_of (n / 10) ++ decimal_of (n % 10)
longer n l =
    let q : n / 10 * 10 + n % 10 ≡ n = omega arith in
    ap decimal_of (sym q)
    ∙ decimal_snoc (n / 10) (n % 10) (omega arith) (omega arith)
    ∙ ap (λ (ds : List ℕ). decimal_of (n / 10) ++ ds) (sym (decimal_digit (n % 10) (omega arith)))

pub decimals_spelled : DecimalsSpelled
unfolding bytes_of decimal_of decimal_within
decimals_spelled = record { digits = refl; longer = longer }

ended : (line rest : List ℕ) → Unbroken line → lines_of (line ++ bytes_of "\n" ++ rest) ≡ line ∷ lines_of rest
unfolding lines_of bytes_of
ended [] rest u = refl
ended (b ∷ line) rest u = rw (ne_eqb b 10 u.0, ended line rest u.1)

last : (b : ℕ) (line : List ℕ) → Unbroken (b ∷ line) → lines_of (b ∷ line) ≡ (b ∷ line) ∷ []
unfolding lines_of
last b [] u = rw (ne_eqb b 10 u.0)
last b (c ∷ line) u = rw (ne_eqb b 10 u.0) (ap (onto b) (last c line u.1))

pub lines_cut : LinesCut
unfolding lines_of
lines_cut = record { none = refl; ended = ended; last = last }
