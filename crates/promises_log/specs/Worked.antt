-- A session worked by hand: its log, and the log's bytes.
use Rattle.std.specs.Prelude.{◌≡◌, true, false, List, [], ◌∷◌, ℕ}
use Rattle.station.specs.declared.Call.{Call}
use Rattle.station.specs.declared.Call.TheVariants.{OpenUrgent, OpenFair, CloseUrgent, CloseFair, OfferCell, OfferPacket, OpenTurn, LostTurn, Begin, End}
use Rattle.log_format.specs.declared.Form.TheVariants.{Flow, Own}
use Rattle.log_format.specs.Format.{Log, bytes_of}
use Rattle.log_format.specs.Worked.{opening}
use Rattle.logging.specs.Sorts.{event}
use Rattle.logging.specs.Logging.{log_of}
use Rattle.logging.specs.Replay.{calls_of}
use Rattle.promises_log.specs.Marks.{marks_of}

-- openings in any order, refused ones too; cells and a packet beyond the limits; an opening that ends the log
abbrev pub session : List Call
session =
    OpenFair 15 7
    ∷ OpenUrgent 16 5
    ∷ OpenUrgent 2 4096
    ∷ OpenUrgent 2 1
    ∷ OpenFair 3 17
    ∷ OfferCell 16 1
    ∷ OfferCell 2 300
    ∷ OfferCell 2 0
    ∷ OfferCell 2 4097
    ∷ OfferPacket 15 1500
    ∷ OfferPacket 15 1501
    ∷ OpenTurn
    ∷ OpenFair 16 1
    ∷ Begin
    ∷ OpenFair 15 7
    ∷ End
    ∷ []

-- its log: the cell has its own deadline, 44 + 256
abbrev pub session_log : Log
session_log =
    record {
      form = Own;
      urgent = opening 2 4096 ∷ [];
      fair = opening 15 7 ∷ [];
      events = event 2 2 300 ∷ event 3 15 1500 ∷ event 0 0 0 ∷ event 4 0 0 ∷ [];
    }

abbrev pub session_bytes : List ℕ
session_bytes =
    2
    ∷ 25 ∷ 0 ∷ 0 ∷ 0 ∷ 3 ∷ 0 ∷ 0 ∷ 0
    ∷ 28 ∷ 0 ∷ 0 ∷ 0 ∷ 3 ∷ 0 ∷ 0 ∷ 0
    ∷ 31 ∷ 0 ∷ 0 ∷ 0 ∷ 16 ∷ 0 ∷ 0 ∷ 0
    ∷ 2 ∷ 0 ∷ 16
    ∷ 15 ∷ 7 ∷ 0
    ∷ 2 ∷ 2 ∷ 44 ∷ 1
    ∷ 3 ∷ 15 ∷ 220 ∷ 5
    ∷ 0 ∷ 0 ∷ 0 ∷ 0
    ∷ 4 ∷ 0 ∷ 0 ∷ 0
    ∷ []

pub record Worked : Type 0 where
  pub log : log_of session ≡ session_log
  pub bytes : bytes_of (log_of session) ≡ session_bytes
  pub marks : marks_of session ≡ false ∷ false ∷ false ∷ false ∷ false ∷ false ∷ true ∷ false ∷ false ∷ true ∷ false ∷ true ∷ false ∷ true ∷ []
  -- a cell of a flow that is not open is logged, and so is one with a longer deadline than its flow's; a closing of flow 16 is nothing, and one of
  -- flow 0 ends the log, refused or not
  pub refused :
      log_of (OpenUrgent 3 4 ∷ OfferCell 2 1 ∷ OfferCell 3 5 ∷ CloseUrgent 16 ∷ LostTurn ∷ CloseFair 0 ∷ LostTurn ∷ [])
      ≡ record { form = Own; urgent = opening 3 4 ∷ []; fair = []; events = event 2 2 1 ∷ event 2 3 5 ∷ event 1 0 0 ∷ [] }
  -- a log of form Flow: cells of two flows are offered with their own flow's deadline, and one of a flow that is not opened with 1
  pub flow :
      calls_of (record { form = Flow; urgent = opening 2 9 ∷ opening 5 3 ∷ []; fair = []; events = event 2 5 0 ∷ event 2 2 0 ∷ event 2 9 0 ∷ event 0 0 0 ∷ [] })
      ≡ OpenUrgent 2 9 ∷ OpenUrgent 5 3 ∷ OfferCell 5 3 ∷ OfferCell 2 9 ∷ OfferCell 9 1 ∷ OpenTurn ∷ []
