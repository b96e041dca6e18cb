-- The calls of a log: what a fresh station is called with to go through the shift again.
use Rattle.std.specs.Prelude.{cond, List, ◌++◌, map, eqb}
use Rattle.station.specs.declared.Call.{Call}
use Rattle.station.specs.declared.Call.TheVariants.{OpenUrgent, OpenFair, OfferCell, OfferPacket, OpenTurn, LostTurn, Begin, End}
use Rattle.log_format.specs.Format.{Opening, Event, Log}
use Rattle.log_format.specs.Own.{own_log}

-- the call of a well formed event that tells its cell's own deadline
abbrev pub call_in : Event → Call
call_in e =
    cond (eqb e.kind 0) OpenTurn
    (cond (eqb e.kind 1) LostTurn
    (cond (eqb e.kind 2) (OfferCell e.flow e.number)
    (cond (eqb e.kind 3) (OfferPacket e.flow e.number)
    (cond (eqb e.kind 4) Begin End))))

abbrev pub open_urgent : Opening → Call
open_urgent o = OpenUrgent o.flow o.number

abbrev pub open_fair : Opening → Call
open_fair o = OpenFair o.flow o.number

-- the openings first, those of the urgent lane before those of the fair lane
abbrev pub openings_in : Log → List Call
openings_in log = map open_urgent log.urgent ++ map open_fair log.fair

-- then the events; where the log tells no deadline of its cells, each has that of its flow's opening
abbrev pub calls_of : Log → List Call
calls_of log = openings_in log ++ map call_in (own_log log).events
