-- The line that each verdict is written as, and the same spelled out beside what it tells.
use Rattle.std.specs.Prelude.{List, [], ◌∷◌, ◌≡◌, ℕ, Ok, Err}
use Rattle.units.specs.declared.Refusal.{Refusal}
use Rattle.units.specs.Refusals.{number_of}
use Rattle.link.specs.Verdict.{Verdict}
use Rattle.link.specs.declared.Objection.TheVariants.{FailsAt, Rate, Refused, RefusedAt}
use Rattle.link.specs.Answers.{Said, said_of, admitted, fails, rate, no}
use Rattle.text.specs.Decimal.{decimal_of}
use Rattle.text.specs.Lines.{no_word, line_with}
use Rattle.text.specs.Spelled.{bytes_of, field, spelled}

-- the words admitted, fails and rate
abbrev pub admitted_word : List ℕ
admitted_word = 97 ∷ 100 ∷ 109 ∷ 105 ∷ 116 ∷ 116 ∷ 101 ∷ 100 ∷ []

abbrev pub fails_word : List ℕ
fails_word = 102 ∷ 97 ∷ 105 ∷ 108 ∷ 115 ∷ []

abbrev pub rate_word : List ℕ
rate_word = 114 ∷ 97 ∷ 116 ∷ 101 ∷ []

-- a list that fails tells the smallest t, and one that is refused the refusal's number and, for a declaration, its place
abbrev pub verdict_line : Verdict → List ℕ
verdict_line (Ok tt) = line_with admitted_word []
verdict_line (Err (FailsAt t)) = line_with fails_word (decimal_of t ∷ [])
verdict_line (Err Rate) = line_with rate_word []
verdict_line (Err (Refused r)) = line_with no_word (decimal_of (number_of r) ∷ [])
verdict_line (Err (RefusedAt r k)) = line_with no_word (decimal_of (number_of r) ∷ decimal_of k ∷ [])

-- room that every line has enough of
abbrev pub longest : ℕ
longest = 96

-- what a verdict tells, and the pieces of its line
pub record Says (verdict : Verdict) (said : Said) (pieces : List (List ℕ)) : Type 0 where
  pub tells : said_of verdict ≡ said
  pub written : verdict_line verdict ≡ spelled pieces

-- Each verdict beside its word, number and values, and beside its line.
pub record VerdictsSpelled : Type 0 where
  pub admitted : Says (Ok tt) (record { word = admitted; number = 0; values = [] }) (bytes_of "admitted" ∷ [])
  pub fails : (t : ℕ) → Says (Err (FailsAt t)) (record { word = fails; number = 0; values = t ∷ [] }) (bytes_of "fails" ∷ field t ∷ [])
  pub rate : Says (Err Rate) (record { word = rate; number = 0; values = [] }) (bytes_of "rate" ∷ [])
  pub refused : (r : Refusal) → Says (Err (Refused r)) (record { word = no; number = number_of r; values = [] }) (bytes_of "no" ∷ field (number_of r) ∷ [])
  pub refused_at :
      (r : Refusal) (k : ℕ)
      → Says (Err (RefusedAt r k)) (record { word = no; number = number_of r; values = k ∷ [] }) (bytes_of "no" ∷ field (number_of r) ∷ field k ∷ [])
