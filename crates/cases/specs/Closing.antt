-- Closing a flow and opening it again, worked by hand: what the definitions give, and what they should; and a session in its own words.
use Rattle.std.specs.Prelude.{◌≡◌, [], ◌∷◌}
use Rattle.units.specs.Answers.{values}
use Rattle.station.specs.declared.Call.TheVariants.{OpenUrgent, OpenFair, CloseUrgent, CloseFair, OfferCell, OfferPacket, OpenTurn, Begin, End}
use Rattle.station.specs.Calls.{fresh_station}
use Rattle.session.specs.Whole.{session_of}
use Rattle.text.specs.Spelled.{bytes_of}
use Rattle.cases.specs.Table.{Case, told_by, ok, no}

-- a flow with a cell waiting is not closed; once the cell is sent it is, and opened again with a deadline of 5 its next cell is number 1
abbrev pub urgent_case : Case
urgent_case =
    record {
      answered =
          told_by fresh_station
          (OpenUrgent 0 2 ∷ OfferCell 0 2 ∷ CloseUrgent 0 ∷ OpenTurn ∷ CloseUrgent 0 ∷ CloseUrgent 0 ∷ OfferCell 0 2 ∷ CloseUrgent 16
          ∷ OpenUrgent 0 5
          ∷ OfferCell 0 5
          ∷ []);
      expected =
          ok ∷ values (0 ∷ 1 ∷ []) ∷ no 12 ∷ values (0 ∷ 0 ∷ 0 ∷ []) ∷ ok ∷ no 2 ∷ no 2 ∷ no 1
          ∷ ok
          ∷ values (1 ∷ 5 ∷ [])
          ∷ [];
    }

-- flow 0 is not closed while its packet is in service, nor flow 1 while its own waits; closed and opened again with weight 2, flow 0
-- goes on with number 1, starts where its first packet finished, and is charged by the new weight
abbrev pub fair_case : Case
fair_case =
    record {
      answered =
          told_by fresh_station
          (OpenFair 0 1 ∷ OpenFair 1 1 ∷ OfferPacket 0 100 ∷ OfferPacket 1 1 ∷ Begin ∷ CloseFair 0 ∷ CloseFair 1 ∷ End ∷ CloseFair 0
          ∷ OfferPacket 0 1
          ∷ OpenFair 0 2
          ∷ OfferPacket 0 100
          ∷ []);
      expected =
          ok
          ∷ ok
          ∷ values (0 ∷ 0 ∷ 72072000 ∷ [])
          ∷ values (0 ∷ 0 ∷ 720720 ∷ [])
          ∷ values (0 ∷ 0 ∷ 100 ∷ 0 ∷ [])
          ∷ no 12
          ∷ no 12
          ∷ values (0 ∷ 0 ∷ 100 ∷ [])
          ∷ ok
          ∷ no 2
          ∷ ok
          ∷ values (1 ∷ 72072000 ∷ 108108000 ∷ [])
          ∷ [];
    }

-- Both are answered as they should be, and a session that closes flows gives its output, byte for byte.
pub record Closings : Type 0 where
  pub urgent : urgent_case.answered ≡ urgent_case.expected
  pub fair : fair_case.answered ≡ fair_case.expected
  pub session :
      session_of (bytes_of "U 0 2\nu 0 2\nC 0\nc 0\nF 0 1\nt\nC 0\nu 0 2\nc 0\n")
      ≡ bytes_of "ok\nok 0 1\nno 12\nno 2\nok\nsent 0 0 missed 0\nok\nno 2\nok\n"
