-- Which calls of a list are logged as events, and which come before the first event.
use Rattle.std.specs.Prelude.{Bool, true, false, cond, List, [], ◌∷◌}
use Rattle.station.specs.declared.Call.{Call}
use Rattle.logging.specs.Sorts.{Sort, beyond, opens_urgent, opens_fair, closes, happens, sort_of}

-- once an event has come, an opening ends the log; a closing always does
abbrev pub marked_by : Bool → Sort → (Bool → List Bool) → List Bool
marked_by begun beyond rest = false ∷ rest begun
marked_by false (opens_urgent flow deadline) rest = false ∷ rest false
marked_by true (opens_urgent flow deadline) rest = []
marked_by false (opens_fair flow weight) rest = false ∷ rest false
marked_by true (opens_fair flow weight) rest = []
marked_by begun closes rest = []
marked_by begun (happens e) rest = true ∷ rest true

unfoldable pub marks_from : Bool → List Call → List Bool
marks_from begun [] = []
marks_from begun (call ∷ calls) = marked_by begun (sort_of call) (λ (b : Bool). marks_from b calls)

-- a mark for each call until the log ends: whether it is logged as an event
abbrev pub marks_of : List Call → List Bool
marks_of calls = marks_from false calls

-- the marked ones of a list
unfoldable pub pick : {A : Type 0} → List Bool → List A → List A
pick [] xs = []
pick (mark ∷ marks) [] = []
pick (mark ∷ marks) (x ∷ xs) = cond mark (x ∷ pick marks xs) (pick marks xs)

-- the calls before the first event and before the log's end
abbrev pub before_by : Call → Sort → List Call → List Call
before_by call beyond rest = call ∷ rest
before_by call (opens_urgent flow deadline) rest = call ∷ rest
before_by call (opens_fair flow weight) rest = call ∷ rest
before_by call closes rest = []
before_by call (happens e) rest = []

unfoldable pub opening_part : List Call → List Call
opening_part [] = []
opening_part (call ∷ calls) = before_by call (sort_of call) (opening_part calls)
