-- What an answer tells the station's users, whatever its form: a refusal's number, and the values that the rules name.
use Rattle.std.specs.Prelude.{ℕ, List, [], Option, None, Some}
use Rattle.units.specs.declared.Refusal.{Refusal}
use Rattle.units.specs.Refusals.{number_of}

-- number is 0 where the call is not refused
pub record Told : Type 0 where
  pub number : ℕ
  pub values : List ℕ

abbrev pub refusal : Refusal → Told
refusal r = record { number = number_of r; values = [] }

abbrev pub values : List ℕ → Told
values ns = record { number = 0; values = ns }

-- the number of a call's refusal, 0 where there is none
abbrev pub number_in : Option Refusal → ℕ
number_in None = 0
number_in (Some r) = number_of r
