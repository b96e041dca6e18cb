-- What a call is to the log.
use Rattle.std.specs.Prelude.{cond, ◌||◌, ℕ}
use Rattle.units.specs.Limits.{no_such_flow, bad_weight, bad_deadline, bad_length}
use Rattle.station.specs.declared.Call.{Call}
use Rattle.station.specs.declared.Call.TheVariants.{OpenUrgent, OpenFair, CloseUrgent, CloseFair, OfferCell, OfferPacket, OpenTurn, LostTurn, Begin, End}
use Rattle.log_format.specs.declared.records.Kind.{Kind}
use Rattle.log_format.specs.declared.records.Kind.TheVariants.{OpenTurn as OpenedTurn, LostTurn as TurnLost, Cell, Packet, Begin as Begun, End as Ended}
use Rattle.log_format.specs.Format.{Event}
use Rattle.log_format.specs.Words.{event_word}
use Rattle.logging.specs.declared.Sorted.{Sorted}
use Rattle.logging.specs.declared.Sorted.TheVariants.{Beyond, OpensUrgent, OpensFair, Closes, Happens}

-- nothing, since a number of it is beyond the limits; an opening, with its flow and its deadline or weight; a closing; or an event
pub data Sort : Type 0 where
  beyond : Sort
  opens_urgent : ℕ → ℕ → Sort
  opens_fair : ℕ → ℕ → Sort
  closes : Sort
  happens : Event → Sort

-- the number of an event's kind
abbrev pub kind_number : Kind → ℕ
kind_number OpenedTurn = 0
kind_number TurnLost = 1
kind_number Cell = 2
kind_number Packet = 3
kind_number Begun = 4
kind_number Ended = 5

abbrev pub event : ℕ → ℕ → ℕ → Event
event kind flow number = record { kind = kind; flow = flow; number = number }

-- whether the station refuses the call does not matter: only its numbers do
abbrev pub sort_of : Call → Sort
sort_of (OpenUrgent flow deadline) = cond (no_such_flow flow || bad_deadline deadline) beyond (opens_urgent flow deadline)
sort_of (OpenFair flow weight) = cond (no_such_flow flow || bad_weight weight) beyond (opens_fair flow weight)
sort_of (CloseUrgent flow) = cond (no_such_flow flow) beyond closes
sort_of (CloseFair flow) = cond (no_such_flow flow) beyond closes
sort_of OpenTurn = happens (event 0 0 0)
sort_of LostTurn = happens (event 1 0 0)
sort_of (OfferCell flow deadline) = cond (no_such_flow flow || bad_deadline deadline) beyond (happens (event 2 flow deadline))
sort_of (OfferPacket flow length) = cond (no_such_flow flow || bad_length length) beyond (happens (event 3 flow length))
sort_of Begin = happens (event 4 0 0)
sort_of End = happens (event 5 0 0)

-- a closing, of either lane
abbrev pub closing_sort : ℕ → Sort
closing_sort flow = cond (no_such_flow flow) beyond closes

-- the sort as the code tells it, an event by its word
abbrev pub sorted_of : Sort → Sorted
sorted_of beyond = Beyond
sorted_of (opens_urgent flow deadline) = OpensUrgent flow deadline
sorted_of (opens_fair flow weight) = OpensFair flow weight
sorted_of closes = Closes
sorted_of (happens e) = Happens (event_word e)
