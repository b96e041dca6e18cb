-- What a cell that is offered finds where it is taken.
use Rattle.std.specs.Prelude.{◌≡◌, ℕ, ◌+◌, ◌*◌, ◌≤◌, ◌<◌, true}
use Rattle.units.specs.Limits.{place_count, slot_limit}
use Rattle.places.specs.Places.{places_of, first_free}
use Rattle.urgent.specs.declared.Urgent.{Urgent}
use Rattle.urgent.specs.Lane.{is_held, flow_at}
use Rattle.urgent.specs.Calls.{accepted, offer_of}

-- the cell of this flow and deadline is accepted, in this place of the flow's, the first that is free
pub record Takes (u : Urgent) (flow deadline f place : ℕ) : Type 0 where
  pub known : (f ≡ flow) × (flow ≤ 15)
  pub open_lem : (flow_at u flow).opened ≡ true
  pub free : place ≡ flow * place_count + first_free is_held (places_of place_count flow u.cells)
  pub within : place < 256
  pub window : (1 ≤ deadline) × (u.now.0 + deadline ≤ slot_limit)
  pub accepts : offer_of u flow deadline ≡ accepted u flow deadline
