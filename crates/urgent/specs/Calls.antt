-- What each call of the urgent lane gives, over every state.
use Rattle.std.specs.Prelude.{ℕ, ◌+◌, ◌-◌, ◌*◌, ◌%◌, ◌^◌, Bool, true, false, cond, List, slice_set}
use Rattle.units.specs.Limits.{place_count}
use Rattle.units.specs.Refusals.{first_of, unless}
use Rattle.units.specs.declared.Refusal.{Refusal}
use Rattle.places.specs.Places.{count, places_of, flow_of, first_free, cleared_all}
use Rattle.places.specs.Choice.{Choice, nothing, at, least_held}
use Rattle.urgent.specs.declared.Cell.{Cell}
use Rattle.urgent.specs.declared.Flow.{Flow}
use Rattle.urgent.specs.declared.Urgent.{Urgent}
use Rattle.urgent.specs.declared.Done.{Done}
use Rattle.urgent.specs.declared.Answer.{Answer}
use Rattle.urgent.specs.declared.Answer.TheVariants.{Refused, Opened, Closed, Accepted, Sent, Idle}
use Rattle.urgent.specs.Lane.{free_cell, is_held, flow_at, key_of, last_is, opening_grounds, closing_grounds, offering_grounds, turn_grounds}

-- a refused call hands the lane back as it was
abbrev pub refused : Urgent → Refusal → Done
refused u r = record { lane = u; answer = Refused r }

-- the lane with another record of a flow
abbrev pub with_flow : Urgent → ℕ → Flow → Urgent
with_flow u flow x = record { now = u.now; flows = slice_set u.flows flow x; cells = u.cells }

-- opening: the flow's numbers go on where they stood
abbrev pub opened : Urgent → ℕ → ℕ → Done
opened u flow deadline =
    record { lane = with_flow u flow (record { opened = true; deadline = deadline; next = (flow_at u flow).next }); answer = Opened }

-- what opening a flow with a deadline gives
unfoldable pub open_of : Urgent → ℕ → ℕ → Done
open_of u flow deadline = unless (refused u) (first_of (opening_grounds u flow deadline)) (opened u flow deadline)

-- closing: the flow's record keeps its deadline and its numbers, and loses its mark
abbrev pub closed : Urgent → ℕ → Done
closed u flow =
    record {
      lane = with_flow u flow (record { opened = false; deadline = (flow_at u flow).deadline; next = (flow_at u flow).next });
      answer = Closed;
    }

-- what closing a flow gives
unfoldable pub close_of : Urgent → ℕ → Done
close_of u flow = unless (refused u) (first_of (closing_grounds u flow)) (closed u flow)

-- the last slot of the window of a cell offered now, which is now to now + deadline - 1 by the cell's own deadline
abbrev pub last_slot : Urgent → ℕ → ℕ
last_slot u deadline = u.now.0 + deadline - 1

-- offering: the cell takes the flow's first free place and its next number
abbrev pub accepted : Urgent → ℕ → ℕ → Done
accepted u flow deadline =
    record {
      lane =
          record {
            now = u.now;
            flows =
                slice_set u.flows flow
                (record { opened = true; deadline = (flow_at u flow).deadline; next = ((flow_at u flow).next + 1) % 2 ^ 64 });
            cells =
                slice_set u.cells (flow * place_count + first_free is_held (places_of place_count flow u.cells))
                (record { held = true; number = (flow_at u flow).next; last = record { 0 = last_slot u deadline } });
          };
      answer = Accepted (flow_at u flow).next (record { 0 = last_slot u deadline });
    }

-- what offering a cell of a flow with a deadline of its own gives
unfoldable pub offer_of : Urgent → ℕ → ℕ → Done
offer_of u flow deadline = unless (refused u) (first_of (offering_grounds u flow deadline)) (accepted u flow deadline)

-- a turn's end: the waiting cells whose last slot is now are dropped and counted as missed, and now moves by one
abbrev pub ended : Urgent → List Cell → (ℕ → Answer) → Done
ended u cells answer =
    record {
      lane =
          record {
            now = record { 0 = u.now.0 + 1 };
            flows = u.flows;
            cells = cleared_all (last_is u.now) free_cell cells;
          };
      answer = answer (count (last_is u.now) cells);
    }

-- an open turn sends the waiting cell that goes first, if any waits; a lost turn sends nothing
abbrev pub chosen : Urgent → Bool → Choice Cell
chosen u usable = cond usable (least_held is_held key_of u.cells) nothing

-- a turn with its choice made
abbrev pub turned : Urgent → Choice Cell → Done
turned u nothing = ended u u.cells Idle
turned u (at place c) = ended u (slice_set u.cells place free_cell) (Sent (flow_of place_count place) c.number)

-- what a turn gives, open or lost
unfoldable pub turn_of : Urgent → Bool → Done
turn_of u usable = unless (refused u) (first_of (turn_grounds u)) (turned u (chosen u usable))
