-- What each verdict tells: its word, and the number and the values that the rules give for it.
use Rattle.std.specs.Prelude.{List, [], ◌∷◌, ℕ, Ok, Err}
use Rattle.units.specs.Refusals.{number_of}
use Rattle.units.specs.Answers.{Told, refusal, values}
use Rattle.link.specs.Verdict.{Verdict}
use Rattle.link.specs.declared.Objection.TheVariants.{FailsAt, Rate, Refused, RefusedAt}

-- failing: the smallest t that fails; refused for a declaration: its place in the list, from 0
abbrev pub told : Verdict → Told
told (Ok done) = values []
told (Err (FailsAt t)) = values (t ∷ [])
told (Err Rate) = values []
told (Err (Refused r)) = refusal r
told (Err (RefusedAt r k)) = record { number = number_of r; values = k ∷ [] }

-- the words: without one, rate would be told as admitted is
pub data Word : Type 0 where
  admitted : Word
  fails : Word
  rate : Word
  no : Word

abbrev pub word_of : Verdict → Word
word_of (Ok done) = admitted
word_of (Err (FailsAt t)) = fails
word_of (Err Rate) = rate
word_of (Err (Refused r)) = no
word_of (Err (RefusedAt r k)) = no

-- a verdict in full: its word, its number and its values
pub record Said : Type 0 where
  pub word : Word
  pub number : ℕ
  pub values : List ℕ

abbrev pub said_of : Verdict → Said
said_of verdict = record { word = word_of verdict; number = (told verdict).number; values = (told verdict).values }
