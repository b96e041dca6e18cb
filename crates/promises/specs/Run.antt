-- A list of calls from a fresh station: what the station has come to, and what the calls and replies alone tell.
use Rattle.std.specs.Prelude.{Bool, true, false, cond, List, [], ◌∷◌}
use Rattle.urgent.specs.declared.Answer.{Answer as UrgentAnswer}
use Rattle.packets.specs.declared.Answer.{Answer as FairAnswer}
use Rattle.promises_urgent.specs.Cells.{Cells, no_cells}
use Rattle.promises_urgent.specs.Notes.{note_opening, note_closing, note_offer, note_turn}
use Rattle.promises_queue.specs.Packets.{Packets, no_packets}
use Rattle.promises_queue.specs.Notes.{note_other, note_service}
use Rattle.promises_queue.specs.Notes.{note_opening as note_fair_opening, note_closing as note_fair_closing, note_offer as note_packet}
use Rattle.station.specs.declared.Station.{Station}
use Rattle.station.specs.declared.Reply.{Reply}
use Rattle.station.specs.declared.Reply.TheVariants.{Urgent, Fair}
use Rattle.station.specs.declared.Call.{Call}
use Rattle.station.specs.declared.Call.TheVariants.{OpenUrgent, OpenFair, CloseUrgent, CloseFair, OfferCell, OfferPacket, OpenTurn, LostTurn, Begin, End}
use Rattle.station.specs.Calls.{fresh_station, call_of}

-- what a call and its reply tell of the cells
abbrev pub note_cells : Cells → Call → Reply → Cells
note_cells h call (Fair answer) = h
note_cells h (OpenUrgent flow deadline) (Urgent answer) = note_opening h flow deadline answer
note_cells h (CloseUrgent flow) (Urgent answer) = note_closing h flow answer
note_cells h (OfferCell flow deadline) (Urgent answer) = note_offer h flow deadline answer
note_cells h OpenTurn (Urgent answer) = note_turn h true answer
note_cells h LostTurn (Urgent answer) = note_turn h false answer
note_cells h (OpenFair flow weight) (Urgent answer) = h
note_cells h (CloseFair flow) (Urgent answer) = h
note_cells h (OfferPacket flow length) (Urgent answer) = h
note_cells h Begin (Urgent answer) = h
note_cells h End (Urgent answer) = h

-- what a call and its reply tell of the packets
abbrev pub note_packets : Packets → Call → Reply → Packets
note_packets h call (Urgent answer) = note_other h
note_packets h (OpenFair flow weight) (Fair answer) = note_fair_opening h flow weight answer
note_packets h (CloseFair flow) (Fair answer) = note_fair_closing h flow answer
note_packets h (OfferPacket flow length) (Fair answer) = note_packet h flow length answer
note_packets h Begin (Fair answer) = note_service h answer
note_packets h End (Fair answer) = note_service h answer
note_packets h (OpenUrgent flow deadline) (Fair answer) = note_other h
note_packets h (CloseUrgent flow) (Fair answer) = note_other h
note_packets h (OfferCell flow deadline) (Fair answer) = note_other h
note_packets h OpenTurn (Fair answer) = note_other h
note_packets h LostTurn (Fair answer) = note_other h

-- the station, and the history of each lane
pub record Run : Type 0 where
  pub station : Station
  pub cells : Cells
  pub packets : Packets

-- one call more: the station answers it by the very definition that its code is proved to meet
abbrev pub after : Run → Call → Run
after r call =
    record {
      station = (call_of r.station call).station;
      cells = note_cells r.cells call (call_of r.station call).reply;
      packets = note_packets r.packets call (call_of r.station call).reply;
    }

unfoldable pub run_from : Run → List Call → Run
run_from r [] = r
run_from r (call ∷ calls) = run_from (after r call) calls

abbrev pub fresh : Run
fresh = record { station = fresh_station; cells = no_cells; packets = no_packets }

-- all the calls of a list, from a fresh station
abbrev pub run : List Call → Run
run calls = run_from fresh calls

-- the reply to one call more
abbrev pub reply_to : List Call → Call → Reply
reply_to calls call = (call_of (run calls).station call).reply

-- a statement about the answer of a lane, of a reply that is that lane's
abbrev pub on_urgent : (UrgentAnswer → Type 0) → Reply → Type 0
on_urgent P (Urgent answer) = P answer
on_urgent P (Fair answer) = ⊥

abbrev pub on_fair : (FairAnswer → Type 0) → Reply → Type 0
on_fair P (Urgent answer) = ⊥
on_fair P (Fair answer) = P answer

-- the replies to those calls of a list that pass a test
unfoldable pub replies_to : (Call → Bool) → Station → List Call → List Reply
replies_to test s [] = []
replies_to test s (call ∷ calls) =
    cond (test call) ((call_of s call).reply ∷ replies_to test (call_of s call).station calls) (replies_to test (call_of s call).station calls)

-- the replies to all calls of a list
unfoldable pub replies : Station → List Call → List Reply
replies s [] = []
replies s (call ∷ calls) = (call_of s call).reply ∷ replies (call_of s call).station calls

-- those calls of a list that pass a test
unfoldable pub only : (Call → Bool) → List Call → List Call
only test [] = []
only test (call ∷ calls) = cond (test call) (call ∷ only test calls) (only test calls)
