-- The verdict on a list: its length is judged first, then the numbers of each declaration, then its rate, then its demand.
use Rattle.std.specs.Prelude.{Bool, true, false, cond, List, [], ◌∷◌, ℕ, suc, ◌+◌, ltb, Option, None, Some, Ok, Err}
use Rattle.units.specs.Limits.{bad_deadline}
use Rattle.units.specs.Refusals.{Ground, first_of}
use Rattle.units.specs.declared.Refusal.{Refusal}
use Rattle.units.specs.declared.Refusal.TheVariants.{BadDeadline, ListTooLong, BadBurst, BadPeriod}
use Rattle.link.specs.Limits.{bad_burst, bad_period, too_long}
use Rattle.link.specs.Demand.{least_failing}
use Rattle.link.specs.Rate.{rate_of, greatest_of}
use Rattle.link.specs.declared.Declaration.{Declaration}
use Rattle.link.specs.Verdict.{Verdict}
use Rattle.link.specs.declared.Objection.TheVariants.{Rate, Refused, RefusedAt}

-- whether a verdict holds nothing against the list
abbrev pub admits : Verdict → Bool
admits (Ok done) = true
admits (Err objection) = false

-- the first of two verdicts that holds something against the list
abbrev pub or_else : Verdict → Verdict → Verdict
or_else verdict later = cond (admits verdict) later verdict

-- by the length alone, told whether the list is too long
abbrev pub by_length : Bool → Verdict
by_length long = cond long (Err (Refused ListTooLong)) (Ok tt)

-- what a declaration is refused for, in the order in which its numbers are judged
abbrev pub declaration_grounds : Declaration → List Ground
declaration_grounds d = (BadBurst, bad_burst d.burst) ∷ (BadPeriod, bad_period d.period) ∷ (BadDeadline, bad_deadline d.deadline) ∷ []

-- by what the declaration in place k is refused for, if anything
abbrev pub refused_at : ℕ → Option Refusal → Verdict
refused_at k None = Ok tt
refused_at k (Some refusal) = Err (RefusedAt refusal k)

-- by the numbers of the declaration in place k alone
abbrev pub by_declaration : ℕ → Declaration → Verdict
by_declaration k d = refused_at k (first_of (declaration_grounds d))

-- by the numbers alone, of declarations that stand in the places from k on: the first bad declaration is told, with its place
unfoldable pub by_numbers : ℕ → List Declaration → Verdict
by_numbers k [] = Ok tt
by_numbers k (d ∷ ds) = or_else (by_declaration k d) (by_numbers (suc k) ds)

-- by the rate alone: no list of more than 5,040 cells in every 5,040 slots is kept up with
abbrev pub by_rate : List Declaration → Verdict
by_rate ds = cond (ltb 5040 (rate_of ds)) (Err Rate) (Ok tt)

-- how far the demand is tested, in slots
abbrev pub horizon_of : List Declaration → ℕ
horizon_of ds = greatest_of ds + 5039

-- what is judged before the demand
abbrev pub grounds_of : Bool → List Declaration → Verdict
grounds_of long ds = or_else (by_length long) (or_else (by_numbers 0 ds) (by_rate ds))

-- the verdict on declarations, told whether their list is too long
abbrev pub judged_of : Bool → List Declaration → Verdict
judged_of long ds = or_else (grounds_of long ds) (least_failing (horizon_of ds) ds)

-- the verdict on a list
abbrev pub admit_of : List Declaration → Verdict
admit_of ds = judged_of (too_long ds) ds
