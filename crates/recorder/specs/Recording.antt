-- The log as it is made call by call: what one call changes, over every state.
use Rattle.std.specs.Prelude.{true, false, cond, List, ℕ, ◌+◌, min, set, replicate}
use Rattle.station.specs.declared.Call.{Call}
use Rattle.log_format.specs.Words.{event_word}
use Rattle.logging.specs.Sorts.{Sort, beyond, opens_urgent, opens_fair, closes, happens, sort_of}
use Rattle.logging.specs.Logging.{opened_with}
use Rattle.recorder.specs.declared.Recorder.{Recorder}

-- ---- one call more
abbrev pub fresh_recorder : Recorder
fresh_recorder = record { deadlines = replicate 16 0; weights = replicate 16 0; begun = false; ended = false; events = 0 }

-- the log ends
abbrev pub stopped : Recorder → Recorder
stopped r = record { deadlines = r.deadlines; weights = r.weights; begun = r.begun; ended = true; events = r.events }

-- an opening counts before the first event, and ends the log after it
abbrev pub with_deadline : Recorder → ℕ → ℕ → Recorder
with_deadline r flow deadline =
    cond r.begun (stopped r)
    (record { deadlines = opened_with r.deadlines flow deadline; weights = r.weights; begun = r.begun; ended = r.ended; events = r.events })

abbrev pub with_weight : Recorder → ℕ → ℕ → Recorder
with_weight r flow weight =
    cond r.begun (stopped r)
    (record { deadlines = r.deadlines; weights = opened_with r.weights flow weight; begun = r.begun; ended = r.ended; events = r.events })

-- events are counted up to the greatest number that the count can hold, and it then stays
abbrev pub most_counted : ℕ
most_counted = 18446744073709551615

abbrev pub counted : Recorder → Recorder
counted r =
    record { deadlines = r.deadlines; weights = r.weights; begun = true; ended = r.ended; events = min (r.events + 1) most_counted }

abbrev pub note_by : Recorder → Sort → Recorder
note_by r beyond = r
note_by r (opens_urgent flow deadline) = with_deadline r flow deadline
note_by r (opens_fair flow weight) = with_weight r flow weight
note_by r closes = stopped r
note_by r (happens e) = counted r

-- nothing changes once the log has ended
abbrev pub note_of : Recorder → Call → Recorder
note_of r call = cond r.ended r (note_by r (sort_of call))

-- ---- the room
-- an event's word goes to the event's index; a room that ends before it stays as it is
abbrev pub room_by : Recorder → Sort → List ℕ → List ℕ
room_by r beyond room = room
room_by r (opens_urgent flow deadline) room = room
room_by r (opens_fair flow weight) room = room
room_by r closes room = room
room_by r (happens e) room = set room r.events (event_word e)

abbrev pub room_noted : Recorder → Call → List ℕ → List ℕ
room_noted r call room = cond r.ended room (room_by r (sort_of call) room)
