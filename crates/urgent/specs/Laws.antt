-- What holds of the lane's definitions in every state.
use Rattle.std.specs.Prelude.{◌≡◌, ℕ, ◌<◌, Bool, true, false, length, slice_index_or, slice_set, Some}
use Rattle.units.specs.Limits.{place_count}
use Rattle.units.specs.Refusals.{first_of}
use Rattle.units.specs.declared.Refusal.{Refusal}
use Rattle.places.specs.Places.{flow_of}
use Rattle.places.specs.Choice.{comes_before}
use Rattle.urgent.specs.declared.Cell.{Cell}
use Rattle.urgent.specs.declared.Urgent.{Urgent}
use Rattle.urgent.specs.Lane.{free_cell, is_held, key_of, opening_grounds, closing_grounds, offering_grounds, turn_grounds}
use Rattle.urgent.specs.declared.Answer.TheVariants.{Sent, Idle}
use Rattle.urgent.specs.Calls.{open_of, close_of, offer_of, ended, turn_of}
use Rattle.urgent.specs.Answers.{refusal_in}

-- what a place holds
abbrev pub cell_at : Urgent → ℕ → Cell
cell_at u place = slice_index_or u.cells place free_cell

-- the cell that an open turn answers waited in some place, no waiting cell comes before it by last slot, flow and number, and with just
-- that place freed the turn comes to its end
pub record SentFirst (u : Urgent) (flow number : ℕ) : Type 0 where
  pub place : ℕ
  pub within : place < length u.cells
  pub waited : is_held (cell_at u place) ≡ true
  pub flow_told : flow ≡ flow_of place_count place
  pub number_told : number ≡ (cell_at u place).number
  pub goes_first :
      (other : ℕ) → is_held (cell_at u other) ≡ true
      → comes_before (key_of other (cell_at u other)) (key_of place (cell_at u place)) ≡ false
  pub freed : turn_of u true ≡ ended u (slice_set u.cells place free_cell) (Sent flow number)

-- An open turn that sends a cell sends the one that goes first; it is idle only where no cell waits, and then comes to its end with every
-- place as it was.
pub record SendsFirst (u : Urgent) : Type 0 where
  pub sends : (flow number missed : ℕ) → (turn_of u true).answer ≡ Sent flow number missed → SentFirst u flow number
  pub idles :
      (missed : ℕ) → (turn_of u true).answer ≡ Idle missed
      → ((place : ℕ) → is_held (cell_at u place) ≡ false) × (turn_of u true ≡ ended u u.cells Idle)

-- Each call is refused exactly for the first of its grounds that holds.
pub record RefusedFirst (u : Urgent) : Type 0 where
  pub opening : (flow deadline : ℕ) → refusal_in (open_of u flow deadline).answer ≡ first_of (opening_grounds u flow deadline)
  pub closing : (flow : ℕ) → refusal_in (close_of u flow).answer ≡ first_of (closing_grounds u flow)
  pub offering : (flow deadline : ℕ) → refusal_in (offer_of u flow deadline).answer ≡ first_of (offering_grounds u flow deadline)
  pub turning : (usable : Bool) → refusal_in (turn_of u usable).answer ≡ first_of (turn_grounds u)

-- A refused call leaves the lane as it was.
pub record RefusedSame (u : Urgent) (r : Refusal) : Type 0 where
  pub opening : (flow deadline : ℕ) → refusal_in (open_of u flow deadline).answer ≡ Some r → (open_of u flow deadline).lane ≡ u
  pub closing : (flow : ℕ) → refusal_in (close_of u flow).answer ≡ Some r → (close_of u flow).lane ≡ u
  pub offering : (flow deadline : ℕ) → refusal_in (offer_of u flow deadline).answer ≡ Some r → (offer_of u flow deadline).lane ≡ u
  pub turning : (usable : Bool) → refusal_in (turn_of u usable).answer ≡ Some r → (turn_of u usable).lane ≡ u
