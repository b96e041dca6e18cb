-- What each call of the station gives: the call's own lane goes on, and the other stays.
use Rattle.std.specs.Prelude.{true, false}
use Rattle.urgent.specs.Lane.{fresh_lane as fresh_urgent}
use Rattle.urgent.specs.Calls.{open_of as open_urgent_of, close_of as close_urgent_of, offer_of as offer_cell_of, turn_of}
use Rattle.urgent.specs.declared.Done.{Done as UrgentDone}
use Rattle.fair.specs.Lane.{fresh_lane as fresh_fair}
use Rattle.fair.specs.Calls.{open_of as open_fair_of, close_of as close_fair_of, offer_of as offer_packet_of, begin_of, end_of}
use Rattle.fair.specs.declared.Done.{Done as FairDone}
use Rattle.station.specs.declared.Station.{Station}
use Rattle.station.specs.declared.Called.{Called}
use Rattle.station.specs.declared.Call.{Call}
use Rattle.station.specs.declared.Call.TheVariants.{OpenUrgent, OpenFair, CloseUrgent, CloseFair, OfferCell, OfferPacket, OpenTurn, LostTurn, Begin, End}
use Rattle.station.specs.declared.Reply.TheVariants.{Urgent, Fair}

-- the station before any call
abbrev pub fresh_station : Station
fresh_station = record { urgent = fresh_urgent; fair = fresh_fair }

-- a call that went to one lane leaves the other as it was
abbrev pub by_urgent : Station → UrgentDone → Called
by_urgent s done = record { station = record { urgent = done.lane; fair = s.fair }; reply = Urgent done.answer }

abbrev pub by_fair : Station → FairDone → Called
by_fair s done = record { station = record { urgent = s.urgent; fair = done.lane }; reply = Fair done.answer }

unfoldable pub call_of : Station → Call → Called
call_of s (OpenUrgent flow deadline) = by_urgent s (open_urgent_of s.urgent flow deadline)
call_of s (OpenFair flow weight) = by_fair s (open_fair_of s.fair flow weight)
call_of s (CloseUrgent flow) = by_urgent s (close_urgent_of s.urgent flow)
call_of s (CloseFair flow) = by_fair s (close_fair_of s.fair flow)
call_of s (OfferCell flow deadline) = by_urgent s (offer_cell_of s.urgent flow deadline)
call_of s (OfferPacket flow length) = by_fair s (offer_packet_of s.fair flow length)
call_of s OpenTurn = by_urgent s (turn_of s.urgent true)
call_of s LostTurn = by_urgent s (turn_of s.urgent false)
call_of s Begin = by_fair s (begin_of s.fair)
call_of s End = by_fair s (end_of s.fair)
