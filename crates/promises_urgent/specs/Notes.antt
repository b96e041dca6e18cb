-- What each call of the urgent lane and its answer add to what is noted of the cells.
use Rattle.std.specs.Prelude.{Bool, true, false, List, ◌∷◌, ℕ, suc, ◌+◌}
use Rattle.places.specs.Marks.{Mark, opens, closes}
use Rattle.urgent.specs.declared.Answer.{Answer}
use Rattle.urgent.specs.declared.Answer.TheVariants.{Refused, Opened, Closed, Accepted, Sent, Idle}
use Rattle.promises_urgent.specs.Cells.{Cells, deadline_in}

-- the history with one mark more
abbrev pub marked : Cells → Mark → Cells
marked h mark =
    record { slot = h.slot; marks = mark ∷ h.marks; accepted = h.accepted; usable = h.usable; sent = h.sent; missed = h.missed }

-- an opening call and its answer
abbrev pub note_opening : Cells → ℕ → ℕ → Answer → Cells
note_opening h flow deadline Opened = marked h (opens flow deadline)
note_opening h flow deadline Closed = h
note_opening h flow deadline (Refused r) = h
note_opening h flow deadline (Accepted number last) = h
note_opening h flow deadline (Sent f n m) = h
note_opening h flow deadline (Idle m) = h

-- a closing call and its answer
abbrev pub note_closing : Cells → ℕ → Answer → Cells
note_closing h flow Closed = marked h (closes flow)
note_closing h flow Opened = h
note_closing h flow (Refused r) = h
note_closing h flow (Accepted number last) = h
note_closing h flow (Sent f n m) = h
note_closing h flow (Idle m) = h

-- an offering call and its answer
abbrev pub note_offer : Cells → ℕ → ℕ → Answer → Cells
note_offer h flow deadline (Accepted number last) =
    record {
      slot = h.slot;
      marks = h.marks;
      accepted =
          record { flow = flow; number = number; last = last.0; arrival = h.slot; deadline = deadline; full = deadline_in h flow }
          ∷ h.accepted;
      usable = h.usable;
      sent = h.sent;
      missed = h.missed;
    }
note_offer h flow deadline (Refused r) = h
note_offer h flow deadline Opened = h
note_offer h flow deadline Closed = h
note_offer h flow deadline (Sent f n m) = h
note_offer h flow deadline (Idle m) = h

-- the slot of a turn, where the turn is open
abbrev pub slot_of : Bool → ℕ → List ℕ → List ℕ
slot_of true slot slots = slot ∷ slots
slot_of false slot slots = slots

-- a turn, open or lost, and its answer
abbrev pub note_turn : Cells → Bool → Answer → Cells
note_turn h usable (Sent flow number missed) =
    record {
      slot = suc h.slot;
      marks = h.marks;
      accepted = h.accepted;
      usable = slot_of usable h.slot h.usable;
      sent = record { flow = flow; number = number; slot = h.slot } ∷ h.sent;
      missed = h.missed + missed;
    }
note_turn h usable (Idle missed) =
    record {
      slot = suc h.slot;
      marks = h.marks;
      accepted = h.accepted;
      usable = slot_of usable h.slot h.usable;
      sent = h.sent;
      missed = h.missed + missed;
    }
note_turn h usable (Refused r) = h
note_turn h usable Opened = h
note_turn h usable Closed = h
note_turn h usable (Accepted number last) = h
