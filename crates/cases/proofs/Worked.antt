-- The rules' whole session: the definitions compute, once its numbers are in digits.
use mathlib.Core.Path.{◌≡◌, ap, ◌∙◌}
use mathlib.Core.List.{List, [], ◌∷◌, ◌++◌}
use Prim.Native.Nat.{ℕ, ◌+◌, ◌*◌, ◌≤◌, ◌<◌}
use native.Mathlib.Omega.{arith}
use Rattle.units.specs.Refusals.{first_of}
use Rattle.places.specs.Places.{count, first_free}
use Rattle.places.specs.Choice.{comes_before, better, least}
use Rattle.urgent.specs.Calls.{turn_of}
use Rattle.urgent.specs.Calls.{open_of as open_urgent_of}
use Rattle.urgent.specs.Calls.{offer_of as offer_cell_of}
use Rattle.tags.specs.Tags.{finish_of}
use Rattle.packets.specs.Quotes.{quote_of}
use Rattle.packets.specs.Calls.{open_of as open_in, put_of, begin_by, end_of as end_in}
use Rattle.fair.specs.Calls.{open_of, offer_of, begin_of, end_of}
use Rattle.station.specs.Calls.{call_of}
use Rattle.text.specs.Decimal.{decimal_of}
use Rattle.text.specs.Reading.{read_on}
use Rattle.text.proofs.Decimal.{decimal_snoc, decimal_digit}
use Rattle.text.specs.Input.{lines_of}
use Rattle.text.specs.Spelled.{bytes_of}
use Rattle.session.specs.Whole.{answers_of}
use Rattle.cases.specs.Worked.{Worked}

-- one digit more at the end of a number's text
longer : (a d : ℕ) {digits : List ℕ} → 1 ≤ a → d < 10 → decimal_of a ≡ digits → decimal_of (a * 10 + d) ≡ digits ++ (48 + d) ∷ []
longer a d h l e = decimal_snoc a d h l ∙ ap (λ (t : List ℕ). t ++ (48 + d) ∷ []) e

-- the finish tag of 100 bytes at weight 1
tag : decimal_of 72072000 ≡ bytes_of "72072000"
unfolding bytes_of
tag =
    let a : decimal_of 72 ≡ bytes_of "72" = longer 7 2 (omega arith) (omega arith) (decimal_digit 7 (omega arith)) in
    let b : decimal_of 7207 ≡ bytes_of "7207" = longer 720 7 (omega arith) (omega arith) (longer 72 0 (omega arith) (omega arith) a) in
    let c : decimal_of 720720 ≡ bytes_of "720720" = longer 72072 0 (omega arith) (omega arith) (longer 7207 2 (omega arith) (omega arith) b) in
    longer 7207200 0 (omega arith) (omega arith) (longer 720720 0 (omega arith) (omega arith) c)

pub worked : Worked
unfolding bytes_of lines_of answers_of read_on call_of open_urgent_of offer_cell_of turn_of open_of open_in offer_of put_of quote_of finish_of begin_of begin_by end_of end_in first_of count first_free comes_before better least
worked = rw (decimal_digit 0 (omega arith), decimal_digit 1 (omega arith), decimal_digit 2 (omega arith), decimal_digit 9 (omega arith), tag)
