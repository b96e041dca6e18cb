-- The urgent lane's state: what waits where, and the conditions under which a call is refused.
use Rattle.std.specs.Prelude.{ℕ, ◌+◌, Bool, false, not, ◌&&◌, List, [], ◌∷◌, replicate, ◌==◌, nat_le, nat_lt, slice_index_or}
use Rattle.units.specs.Limits.{place_count, slot_limit, no_such_flow, outside_of, bad_deadline}
use Rattle.units.specs.Refusals.{Ground}
use Rattle.units.specs.declared.Slot.{Slot}
use Rattle.units.specs.declared.Refusal.TheVariants.{NoSuchFlow, NotOpen, AlreadyOpen, PlacesFull, SlotsUsedUp, FlowInUse, BadDeadline}
use Rattle.places.specs.Choice.{Key}
use Rattle.places.specs.Places.{count, places_of, flow_of}
use Rattle.urgent.specs.declared.Cell.{Cell}
use Rattle.urgent.specs.declared.Flow.{Flow}
use Rattle.urgent.specs.declared.Urgent.{Urgent}

-- a free place
abbrev pub free_cell : Cell
free_cell = record { held = false; number = 0; last = record { 0 = 0 } }

abbrev pub is_held : Cell → Bool
is_held c = c.held

-- a flow that was never opened
abbrev pub shut_flow : Flow
shut_flow = record { opened = false; deadline = 0; next = 0 }

-- the lane before any call
abbrev pub fresh_lane : Urgent
fresh_lane = record { now = record { 0 = 0 }; flows = replicate 16 shut_flow; cells = replicate 256 free_cell }

abbrev pub flow_at : Urgent → ℕ → Flow
flow_at u flow = slice_index_or u.flows flow shut_flow

-- how many cells of a flow wait
abbrev pub waiting_of : Urgent → ℕ → ℕ
waiting_of u flow = count is_held (places_of place_count flow u.cells)

-- what an open turn's choice goes by: the last slot, then the flow, then the number
abbrev pub key_of : ℕ → Cell → Key
key_of place c = record { rank = c.last.0; flow = flow_of place_count place; number = c.number }

-- a waiting cell's last slot is now
abbrev pub last_is : Slot → Cell → Bool
last_is now c = c.held && c.last.0 == now.0

-- the refusals of each call, in the order in which they are given
abbrev pub opening_grounds : Urgent → ℕ → ℕ → List Ground
opening_grounds u flow deadline =
    (NoSuchFlow, no_such_flow flow) ∷ (AlreadyOpen, (flow_at u flow).opened) ∷ (BadDeadline, bad_deadline deadline) ∷ []

abbrev pub closing_grounds : Urgent → ℕ → List Ground
closing_grounds u flow =
    (NoSuchFlow, no_such_flow flow) ∷ (NotOpen, not (flow_at u flow).opened) ∷ (FlowInUse, nat_lt 0 (waiting_of u flow)) ∷ []

-- a cell's deadline is 1 to that of its flow; only then places and slots are looked at
abbrev pub offering_grounds : Urgent → ℕ → ℕ → List Ground
offering_grounds u flow deadline =
    (NoSuchFlow, no_such_flow flow)
    ∷ (NotOpen, not (flow_at u flow).opened)
    ∷ (BadDeadline, outside_of deadline (flow_at u flow).deadline)
    ∷ (PlacesFull, nat_le place_count (waiting_of u flow))
    ∷ (SlotsUsedUp, nat_lt slot_limit (u.now.0 + deadline))
    ∷ []

abbrev pub turn_grounds : Urgent → List Ground
turn_grounds u = (SlotsUsedUp, nat_le slot_limit u.now.0) ∷ []
