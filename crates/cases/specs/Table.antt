-- The starred cases of docs/RULES.md: what the definitions give, and what the rules say.
use Rattle.std.specs.Prelude.{◌≡◌, List, [], ◌∷◌, map, ℕ, ◌*◌}
use Rattle.units.specs.Answers.{Told, values}
use Rattle.units.specs.Charges.{charge_of}
use Rattle.units.specs.Radio.{slots_passed}
use Rattle.link.specs.Verdicts.{admit_of}
use Rattle.link.specs.Answers.{Said, said_of, admitted, fails, rate}
use Rattle.link.specs.declared.Declaration.{Declaration}
use Rattle.station.specs.declared.Station.{Station}
use Rattle.station.specs.declared.Call.{Call}
use Rattle.station.specs.declared.Call.TheVariants.{OpenUrgent, OpenFair, OfferCell, OfferPacket, OpenTurn, LostTurn, Begin, End}
use Rattle.station.specs.Calls.{fresh_station, call_of}
use Rattle.station.specs.Answers.{told}

-- a case: what is answered, and what should be
pub record Case : Type 0 where
  pub answered : List Told
  pub expected : List Told

-- a list, and what it should be told: word, number and values
pub record Judged : Type 0 where
  pub list : List Declaration
  pub said : Said

-- what the replies to calls tell, one after the other
unfoldable pub told_by : Station → List Call → List Told
told_by s [] = []
told_by s (call ∷ calls) = told (call_of s call).reply ∷ told_by (call_of s call).station calls

-- the fresh station, but at slot n
abbrev pub fresh_at : ℕ → Station
fresh_at n =
    record {
      urgent = record { now = record { 0 = n }; flows = fresh_station.urgent.flows; cells = fresh_station.urgent.cells };
      fair = fresh_station.fair;
    }

abbrev pub declared : ℕ → ℕ → ℕ → Declaration
declared burst period deadline = record { burst = burst; period = period; deadline = deadline }

abbrev pub admitted_said : Said
admitted_said = record { word = admitted; number = 0; values = [] }

abbrev pub fails_said : ℕ → Said
fails_said t = record { word = fails; number = 0; values = t ∷ [] }

abbrev pub rate_said : Said
rate_said = record { word = rate; number = 0; values = [] }

abbrev pub ok : Told
ok = values []

abbrev pub no : ℕ → Told
no number = record { number = number; values = [] }

-- 100 bytes on flow 0 of weight 1, then 100 and 100 on flow 1 of weight 2, and all of them served
abbrev pub calls_a : List Call → List Call
calls_a more =
    OpenFair 0 1 ∷ OpenFair 1 2 ∷ OfferPacket 0 100 ∷ OfferPacket 1 100 ∷ OfferPacket 1 100 ∷ Begin ∷ End ∷ Begin ∷ End ∷ Begin ∷ End ∷ more

abbrev pub replies_a : List Told → List Told
replies_a more =
    ok
    ∷ ok
    ∷ values (0 ∷ 0 ∷ 72072000 ∷ [])
    ∷ values (0 ∷ 0 ∷ 36036000 ∷ [])
    ∷ values (1 ∷ 36036000 ∷ 72072000 ∷ [])
    ∷ values (0 ∷ 0 ∷ 100 ∷ 0 ∷ [])
    ∷ values (0 ∷ 0 ∷ 100 ∷ [])
    ∷ values (1 ∷ 0 ∷ 100 ∷ 0 ∷ [])
    ∷ values (1 ∷ 0 ∷ 100 ∷ [])
    ∷ values (1 ∷ 1 ∷ 100 ∷ 36036000 ∷ [])
    ∷ values (1 ∷ 1 ∷ 100 ∷ [])
    ∷ more

abbrev pub A : Case
A = record { answered = told_by fresh_station (calls_a []); expected = replies_a [] }

-- after A has drained, flow 2 is opened with weight 1 and offers 1 byte
abbrev pub B : Case
B =
    record {
      answered = told_by fresh_station (calls_a (OpenFair 2 1 ∷ OfferPacket 2 1 ∷ []));
      expected = replies_a (ok ∷ values (0 ∷ 72072000 ∷ 72792720 ∷ []) ∷ []);
    }

abbrev pub C : Case
C = record { answered = values (1500 * charge_of 1 ∷ 1500 * charge_of 16 ∷ []) ∷ []; expected = values (1081080000 ∷ 67567500 ∷ []) ∷ [] }

abbrev pub D : Case
D =
    record {
      answered = told_by fresh_station (OpenUrgent 0 3 ∷ OpenUrgent 1 1 ∷ OfferCell 0 3 ∷ OfferCell 1 1 ∷ OpenTurn ∷ OpenTurn ∷ []);
      expected = ok ∷ ok ∷ values (0 ∷ 2 ∷ []) ∷ values (0 ∷ 0 ∷ []) ∷ values (1 ∷ 0 ∷ 0 ∷ []) ∷ values (0 ∷ 0 ∷ 0 ∷ []) ∷ [];
    }

abbrev pub E : Case
E =
    record {
      answered = told_by fresh_station (OpenUrgent 0 1 ∷ OfferCell 0 1 ∷ LostTurn ∷ []);
      expected = ok ∷ values (0 ∷ 0 ∷ []) ∷ values (1 ∷ []) ∷ [];
    }

abbrev pub F : Case
F =
    record {
      answered = told_by fresh_station (OpenUrgent 0 2 ∷ OfferCell 0 2 ∷ OfferCell 0 2 ∷ OfferCell 0 2 ∷ OpenTurn ∷ OpenTurn ∷ []);
      expected =
          ok
          ∷ values (0 ∷ 1 ∷ [])
          ∷ values (1 ∷ 1 ∷ [])
          ∷ values (2 ∷ 1 ∷ [])
          ∷ values (0 ∷ 0 ∷ 0 ∷ [])
          ∷ values (0 ∷ 1 ∷ 1 ∷ [])
          ∷ [];
    }

abbrev pub H : Case
H =
    record {
      answered = told_by (fresh_at 3999999999) (OpenUrgent 0 1 ∷ OpenUrgent 1 2 ∷ OfferCell 0 1 ∷ OfferCell 1 2 ∷ []);
      expected = ok ∷ ok ∷ values (0 ∷ 3999999999 ∷ []) ∷ no 7 ∷ [];
    }

abbrev pub I : Case
I = record { answered = values (slots_passed 65530 4 ∷ slots_passed 5 4 ∷ []) ∷ []; expected = values (10 ∷ 65535 ∷ []) ∷ [] }

abbrev pub J : Judged
J = record { list = declared 1 2 1 ∷ declared 1 2 2 ∷ []; said = admitted_said }

abbrev pub K : Judged
K = record { list = declared 1 2 1 ∷ declared 1 2 1 ∷ []; said = fails_said 1 }

abbrev pub L : Judged
L = record { list = declared 3 2 2 ∷ []; said = fails_said 2 }

-- the table: cases of calls, and cases of lists
abbrev pub table : List Case
table = A ∷ B ∷ C ∷ D ∷ E ∷ F ∷ H ∷ I ∷ []

abbrev pub lists : List Judged
lists = J ∷ K ∷ L ∷ []

-- what a list is told
abbrev pub judged_said : Judged → Said
judged_said c = said_of (admit_of c.list)

-- the whole table: the replies to each case's calls, and what each list is told
pub record Answers : Type 0 where
  pub replies : List (List Told)
  pub verdicts : List Said

abbrev pub given : Answers
given = record { replies = map (λ (c : Case). c.answered) table; verdicts = map judged_said lists }

abbrev pub wanted : Answers
wanted = record { replies = map (λ (c : Case). c.expected) table; verdicts = map (λ (c : Judged). c.said) lists }

-- Each case is answered as the rules say.
abbrev pub Cases : Type 0
Cases = given ≡ wanted
