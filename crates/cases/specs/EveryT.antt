-- Admission over every count of slots, worked by hand: lists of too high a rate, lists that first fail late, and the order of judging.
use Rattle.std.specs.Prelude.{◌≡◌, List, [], ◌∷◌, map, ℕ, replicate, Ok}
use Rattle.link.specs.Demand.{demand_of, least_failing}
use Rattle.link.specs.Rate.{rate_of, greatest_of}
use Rattle.link.specs.Answers.{Said, no}
use Rattle.link.specs.declared.Declaration.{Declaration}
use Rattle.cases.specs.Table.{Judged, declared, admitted_said, fails_said, rate_said, judged_said}

-- four declarations that a client made, of rate 5,041: no t to 4,096 fails, and yet demand passes the slots in the end
abbrev pub client : List Declaration
client = declared 1 2 1000 ∷ declared 1 3 1000 ∷ declared 1 6 1000 ∷ declared 1 5040 1000 ∷ []

-- a list of rate 5,040 that first fails 4,481 slots past its greatest deadline, 815
abbrev pub late : List Declaration
late =
    declared 1 4 7
    ∷ declared 1 3 1
    ∷ declared 1 4 4
    ∷ declared 1 9 11
    ∷ declared 1 20 16
    ∷ declared 1 315 541
    ∷ declared 3 720 815
    ∷ declared 1 1008 246
    ∷ []

-- one of rate 5,040 that first fails 5,038 slots past its greatest deadline, 9: no list does so later
abbrev pub latest : List Declaration
latest =
    declared 1 4 7
    ∷ declared 1 5 7
    ∷ declared 1 5 7
    ∷ declared 1 7 7
    ∷ declared 1 30 7
    ∷ declared 1 144 7
    ∷ declared 1 5040 7
    ∷ declared 2 6 9
    ∷ []

abbrev pub no_said : ℕ → List ℕ → Said
no_said number values = record { word = no; number = number; values = values }

-- a rate of 5,040 is kept up with, and fails where the burst is too long; bursts of 16, one or sixteen of them; one cell more in 5,040 slots is
-- too many; rate is told though 1 fails; a bad number and a long list go before the rate
abbrev pub lists : List Judged
lists =
    record { list = client; said = rate_said }
    ∷ record { list = late; said = fails_said 5296 }
    ∷ record { list = latest; said = fails_said 5047 }
    ∷ record { list = []; said = admitted_said }
    ∷ record { list = declared 1 1 1 ∷ []; said = admitted_said }
    ∷ record { list = declared 2 1 1 ∷ []; said = fails_said 1 }
    ∷ record { list = declared 16 5040 15 ∷ []; said = fails_said 15 }
    ∷ record { list = declared 16 5040 16 ∷ []; said = admitted_said }
    ∷ record { list = replicate 16 (declared 16 5040 255); said = fails_said 255 }
    ∷ record { list = declared 1 1 1 ∷ declared 1 5040 4096 ∷ []; said = rate_said }
    ∷ record { list = declared 1 1 1 ∷ declared 1 1 1 ∷ []; said = rate_said }
    ∷ record { list = declared 1 1 1 ∷ declared 1 1 1 ∷ declared 1 11 1 ∷ []; said = no_said 18 (2 ∷ []) }
    ∷ record { list = replicate 17 (declared 1 1 1); said = no_said 16 [] }
    ∷ []

-- Each list is told what it should be. The client's list is one that a test to 4,096 would admit, and fails at 5,025,880; the other two are of a
-- rate that is kept up with, and fail long past their greatest deadlines.
pub record EveryT : Type 0 where
  pub told : map judged_said lists ≡ map (λ (c : Judged). c.said) lists
  pub client_rate : rate_of client ≡ 5041
  pub client_early : least_failing 4096 client ≡ Ok tt
  pub client_late : demand_of client 5025880 ≡ 5025881
  pub late_rate : rate_of late ≡ 5040
  pub late_greatest : greatest_of late ≡ 815
  pub late_demand : demand_of late 5296 ≡ 5297
  pub latest_rate : rate_of latest ≡ 5040
  pub latest_greatest : greatest_of latest ≡ 9
