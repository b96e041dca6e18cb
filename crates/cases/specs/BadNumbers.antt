-- Bad numbers worked by hand: what the definitions give, and what they should; and a session in its own words.
use Rattle.std.specs.Prelude.{◌≡◌, List, [], ◌∷◌, ◌++◌, map, ℕ, replicate}
use Rattle.units.specs.Answers.{Told, values}
use Rattle.link.specs.declared.Declaration.{Declaration}
use Rattle.link.specs.Verdicts.{admit_of}
use Rattle.link.specs.Answers.{told as verdict_told}
use Rattle.station.specs.declared.Call.TheVariants.{OpenUrgent, OpenFair, OfferPacket}
use Rattle.station.specs.Calls.{fresh_station}
use Rattle.session.specs.Whole.{session_of}
use Rattle.text.specs.Spelled.{bytes_of}
use Rattle.cases.specs.Table.{Case, told_by, declared, ok, no}

-- deadlines 0 and 4,097 are bad; a flow above 15 and an open flow go first
abbrev pub deadline_case : Case
deadline_case =
    record {
      answered = told_by fresh_station (OpenUrgent 0 0 ∷ OpenUrgent 0 4097 ∷ OpenUrgent 16 0 ∷ OpenUrgent 0 4096 ∷ OpenUrgent 0 0 ∷ []);
      expected = no 14 ∷ no 14 ∷ no 1 ∷ ok ∷ no 3 ∷ [];
    }

-- case M's weights 0 and 17 are bad, and lengths 0 and 1,501; a flow above 15, an unopened flow and an open one go first
abbrev pub weight_case : Case
weight_case =
    record {
      answered =
          told_by fresh_station
          (OpenFair 0 0 ∷ OpenFair 0 17 ∷ OpenFair 16 0 ∷ OfferPacket 0 0 ∷ OpenFair 0 1 ∷ OpenFair 0 0 ∷ OfferPacket 16 0
          ∷ OfferPacket 0 0
          ∷ OfferPacket 0 1501
          ∷ OfferPacket 0 1500
          ∷ OpenFair 1 16
          ∷ OfferPacket 1 1
          ∷ []);
      expected =
          no 13 ∷ no 13 ∷ no 1 ∷ no 2 ∷ ok ∷ no 3 ∷ no 1
          ∷ no 15
          ∷ no 15
          ∷ values (0 ∷ 0 ∷ 1081080000 ∷ [])
          ∷ ok
          ∷ values (0 ∷ 0 ∷ 45045 ∷ [])
          ∷ [];
    }

-- a refusal with the place of the declaration
abbrev pub no_at : ℕ → ℕ → Told
no_at number place = record { number = number; values = place ∷ [] }

-- a declaration that asks for little
abbrev pub late : Declaration
late = declared 1 5040 4096

-- all three numbers bad; a bad period before its bad deadline and a later bad burst; a bad deadline; the sixteenth declaration; a
-- list of seventeen with a bad number in its first place, and one with bad numbers in its last
abbrev pub lists : List (List Declaration)
lists =
    (declared 0 0 0 ∷ [])
    ∷ (late ∷ declared 16 11 0 ∷ declared 17 2 2 ∷ [])
    ∷ (late ∷ late ∷ declared 1 2 4097 ∷ [])
    ∷ (replicate 15 late ++ declared 17 1 1 ∷ [])
    ∷ (declared 17 1 1 ∷ replicate 16 late)
    ∷ (replicate 16 late ++ declared 0 0 0 ∷ [])
    ∷ []

-- what admission tells of each
abbrev pub list_case : Case
list_case =
    record {
      answered = map (λ (ds : List Declaration). verdict_told (admit_of ds)) lists;
      expected = no_at 17 0 ∷ no_at 18 1 ∷ no_at 14 2 ∷ no_at 17 15 ∷ no 16 ∷ no 16 ∷ [];
    }

-- All are answered as they should be, and a session with bad numbers gives its output, byte for byte.
pub record BadNumbers : Type 0 where
  pub deadlines : deadline_case.answered ≡ deadline_case.expected
  pub weights : weight_case.answered ≡ weight_case.expected
  pub lists : list_case.answered ≡ list_case.expected
  pub session :
      session_of (bytes_of "F 0 0\nF 0 17\nU 0 4097\nF 0 1\nF 0 17\nf 0 1501\nf 1 0\nU 0 1\n")
      ≡ bytes_of "no 13\nno 13\nno 14\nok\nno 3\nno 15\nno 2\nok\n"
