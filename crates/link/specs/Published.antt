-- What admission promises: the published link test in its floor form, over every list and every count of slots.
use Rattle.std.specs.Prelude.{◌↔◌, ◌⊎◌, false, ◌≡◌, ℕ, ◌+◌, ◌*◌, ◌≤◌, ◌<◌, length, get_or, Ok, Err}
use mathlib.Core.List.{List, [], ◌∷◌, Memᴰ}
use Rattle.units.specs.declared.Refusal.TheVariants.{BadDeadline, ListTooLong, BadBurst, BadPeriod}
use Rattle.link.specs.Limits.{Divides, bad_period, no_declaration}
use Rattle.link.specs.Demand.{demand_of}
use Rattle.link.specs.Rate.{rate_of, greatest_of}
use Rattle.link.specs.Verdicts.{admit_of}
use Rattle.link.specs.Answers.{told, said_of, admitted, fails, rate, no}
use Rattle.link.specs.declared.Declaration.{Declaration}
use Rattle.link.specs.declared.Objection.TheVariants.{FailsAt, Rate, Refused, RefusedAt}

-- n is one of the numbers 1 to most
abbrev pub OneTo : ℕ → ℕ → Type 0
OneTo n most = (1 ≤ n) × (n ≤ most)

-- a declaration with no bad number
abbrev pub Within : Declaration → Type 0
Within d = OneTo d.burst 16 × Divides d.period 5040 × OneTo d.deadline 4096

-- a declaration whose first bad number is its burst; its period; its deadline
abbrev pub BurstBad : Declaration → Type 0
BurstBad d = OneTo d.burst 16 → ⊥

abbrev pub PeriodBad : Declaration → Type 0
PeriodBad d = OneTo d.burst 16 × (Divides d.period 5040 → ⊥)

abbrev pub DeadlineBad : Declaration → Type 0
DeadlineBad d = OneTo d.burst 16 × Divides d.period 5040 × (OneTo d.deadline 4096 → ⊥)

-- a list of at most sixteen declarations, none with a bad number
pub record Fits (ds : List Declaration) : Type 0 where
  pub few : length ds ≤ 16
  pub within : (k : ℕ) → k < length ds → Within (get_or ds k no_declaration)

-- in a list of at most sixteen the first declaration with a bad number stands in place k, counted from 0, and is bad as said
pub record FirstBad (Bad : Declaration → Type 0) (ds : List Declaration) (k : ℕ) : Type 0 where
  pub few : length ds ≤ 16
  pub place : k < length ds
  pub bad : Bad (get_or ds k no_declaration)
  pub before : (j : ℕ) → j < k → Within (get_or ds j no_declaration)

-- by no t is more due than t
abbrev pub Keeps : List Declaration → Type 0
Keeps ds = (t : ℕ) → demand_of ds t ≤ t

-- t is the smallest of all by which more than t is due
pub record Least (ds : List Declaration) (t : ℕ) : Type 0 where
  pub fails : t < demand_of ds t
  pub first : (s : ℕ) → s < t → demand_of ds s ≤ s

-- what each verdict tells the station's users: a word; the refusal's number, or 0 for none; and the smallest t that fails, or with a bad
-- number the place of its declaration
pub record SaidAs : Type 0 where
  pub admitted : said_of (Ok tt) ≡ record { word = admitted; number = 0; values = [] }
  pub fails : (t : ℕ) → said_of (Err (FailsAt t)) ≡ record { word = fails; number = 0; values = t ∷ [] }
  pub rate : said_of (Err Rate) ≡ record { word = rate; number = 0; values = [] }
  pub list : said_of (Err (Refused ListTooLong)) ≡ record { word = no; number = 16; values = [] }
  pub burst : (k : ℕ) → said_of (Err (RefusedAt BadBurst k)) ≡ record { word = no; number = 17; values = k ∷ [] }
  pub period : (k : ℕ) → said_of (Err (RefusedAt BadPeriod k)) ≡ record { word = no; number = 18; values = k ∷ [] }
  pub deadline : (k : ℕ) → said_of (Err (RefusedAt BadDeadline k)) ≡ record { word = no; number = 14; values = k ∷ [] }

-- what demand is, without a division: the sum over the declarations, of which one has nothing due before its deadline, and from then on its burst
-- and a cell for each whole period since
pub record DemandIs : Type 0 where
  pub none : (t : ℕ) → demand_of [] t ≡ 0
  pub more : (d : Declaration) (ds : List Declaration) (t : ℕ) → demand_of (d ∷ ds) t ≡ demand_of (d ∷ []) t + demand_of ds t
  pub early : (d : Declaration) (t : ℕ) → t < d.deadline → demand_of (d ∷ []) t ≡ 0
  pub due : (d : Declaration) (n s : ℕ) → s < d.period → demand_of (d ∷ []) (d.deadline + (n * d.period + s)) ≡ d.burst + n

-- the published test, statement by statement
pub record Published : Type 0 where
  -- each verdict tells the rules' word, number and values
  pub said_as : SaidAs
  -- 16 is given exactly where the list is longer than sixteen
  pub list16 : (ds : List Declaration) → (admit_of ds ≡ Err (Refused ListTooLong)) ↔ (16 < length ds)
  -- 17, 18 and 14 are given with place k exactly where the first bad declaration stands there, and its first bad number is this one
  pub burst17 : (ds : List Declaration) (k : ℕ) → (admit_of ds ≡ Err (RefusedAt BadBurst k)) ↔ FirstBad BurstBad ds k
  pub period18 : (ds : List Declaration) (k : ℕ) → (admit_of ds ≡ Err (RefusedAt BadPeriod k)) ↔ FirstBad PeriodBad ds k
  pub deadline14 : (ds : List Declaration) (k : ℕ) → (admit_of ds ≡ Err (RefusedAt BadDeadline k)) ↔ FirstBad DeadlineBad ds k
  -- no other refusal is given
  pub others : (ds : List Declaration) → Memᴰ (told (admit_of ds)).number (0 ∷ 14 ∷ 16 ∷ 17 ∷ 18 ∷ [])
  -- rate is told exactly when the list is within its limits and the sum of 5,040/P is above 5,040
  pub rate : (ds : List Declaration) → (admit_of ds ≡ Err Rate) ↔ (Fits ds × (5040 < rate_of ds))
  -- admitted exactly when the list is within its limits and demand by t is at most t, for every t there is
  pub admitted : (ds : List Declaration) → (admit_of ds ≡ Ok tt) ↔ (Fits ds × Keeps ds)
  -- t is told exactly when the list is within its limits, its rate is not above, and t is the smallest of all that fails
  pub fails : (ds : List Declaration) (t : ℕ) → (admit_of ds ≡ Err (FailsAt t)) ↔ (Fits ds × (rate_of ds ≤ 5040) × Least ds t)
  -- such a t is below the greatest deadline plus 5,039: the last t that is tested is never the first to fail
  pub soon : (ds : List Declaration) (t : ℕ) → admit_of ds ≡ Err (FailsAt t) → t < greatest_of ds + 5039
  -- demand is the rules' demand
  pub demand_is : DemandIs
  -- the rate is what demand grows by in 5,040 slots, from the greatest deadline on
  pub rate_is : (ds : List Declaration) (t : ℕ) → Fits ds → greatest_of ds ≤ t → demand_of ds (t + 5040) ≡ demand_of ds t + rate_of ds
  -- no deadline is above the greatest, and where there is any it is one of them
  pub greatest_most : (ds : List Declaration) (k : ℕ) → k < length ds → (get_or ds k no_declaration).deadline ≤ greatest_of ds
  pub greatest_one : (ds : List Declaration) → 0 < length ds → (k : ℕ) × (k < length ds) × ((get_or ds k no_declaration).deadline ≡ greatest_of ds)
  -- an empty list is admitted
  pub empty : admit_of [] ≡ Ok tt
  -- the test of a period is "some k with k × P = 5,040"
  pub divisor : (period : ℕ) → (bad_period period ≡ false) ↔ Divides period 5040

-- a list within its limits that is not admitted fails somewhere
pub record OthersFail : Type 0 where
  -- it is admitted, or there is a t by which more than t is due, and here it is
  pub somewhere : (ds : List Declaration) → Fits ds → (admit_of ds ≡ Ok tt) ⊎ ((t : ℕ) × (t < demand_of ds t))
  -- a list that is told rate fails at 5,041 times its greatest deadline
  pub rate_fails : (ds : List Declaration) → admit_of ds ≡ Err Rate → 5041 * greatest_of ds < demand_of ds (5041 * greatest_of ds)
