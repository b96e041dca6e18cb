-- S4 in the urgent lane: what a call is refused for, read off the calls and answers so far and not off the lane.
use Rattle.std.specs.Prelude.{◌≡◌, Bool, not, List, [], ◌∷◌, ℕ, ◌+◌, leb, ltb}
use Rattle.units.specs.Limits.{place_count, slot_limit, no_such_flow, outside_of, bad_deadline}
use Rattle.units.specs.Refusals.{Ground, first_of}
use Rattle.units.specs.declared.Refusal.TheVariants.{NoSuchFlow, NotOpen, AlreadyOpen, PlacesFull, SlotsUsedUp, FlowInUse, BadDeadline}
use Rattle.places.specs.Marks.{open_in}
use Rattle.urgent.specs.declared.Urgent.{Urgent}
use Rattle.urgent.specs.Answers.{refusal_in}
use Rattle.urgent.specs.Calls.{open_of, close_of, offer_of, turn_of}
use Rattle.promises_urgent.specs.Cells.{Cells, deadline_in}
use Rattle.promises_urgent.specs.Promised.{waiting_in}

-- open: opened and not closed since; waiting: accepted, not sent, last slot not gone by; the slot: the turns so far
-- that were not refused
abbrev pub opening_noted : Cells → ℕ → ℕ → List Ground
opening_noted h flow deadline =
    (NoSuchFlow, no_such_flow flow) ∷ (AlreadyOpen, open_in h.marks flow) ∷ (BadDeadline, bad_deadline deadline) ∷ []

abbrev pub closing_noted : Cells → ℕ → List Ground
closing_noted h flow =
    (NoSuchFlow, no_such_flow flow) ∷ (NotOpen, not (open_in h.marks flow)) ∷ (FlowInUse, ltb 0 (waiting_in h flow)) ∷ []

abbrev pub offering_noted : Cells → ℕ → ℕ → List Ground
offering_noted h flow deadline =
    (NoSuchFlow, no_such_flow flow)
    ∷ (NotOpen, not (open_in h.marks flow))
    ∷ (BadDeadline, outside_of deadline (deadline_in h flow))
    ∷ (PlacesFull, leb place_count (waiting_in h flow))
    ∷ (SlotsUsedUp, ltb slot_limit (h.slot + deadline))
    ∷ []

abbrev pub turn_noted : Cells → List Ground
turn_noted h = (SlotsUsedUp, leb slot_limit h.slot) ∷ []

-- S4: each call is refused exactly as the calls and answers so far tell.
pub record RefusedAsNoted (u : Urgent) (h : Cells) : Type 0 where
  pub opening : (flow deadline : ℕ) → refusal_in (open_of u flow deadline).answer ≡ first_of (opening_noted h flow deadline)
  pub closing : (flow : ℕ) → refusal_in (close_of u flow).answer ≡ first_of (closing_noted h flow)
  pub offering : (flow deadline : ℕ) → refusal_in (offer_of u flow deadline).answer ≡ first_of (offering_noted h flow deadline)
  pub turning : (usable : Bool) → refusal_in (turn_of u usable).answer ≡ first_of (turn_noted h)
