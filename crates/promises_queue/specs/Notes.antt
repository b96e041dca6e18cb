-- What each call of a queue and its answer add to what is noted of the packets.
use Rattle.std.specs.Prelude.{◌∷◌, ℕ, suc}
use Rattle.units.specs.Charges.{charge_of}
use Rattle.places.specs.Marks.{Mark, opens, closes}
use Rattle.packets.specs.declared.Answer.{Answer}
use Rattle.packets.specs.declared.Answer.TheVariants.{Refused, Opened, Closed, Accepted, Begun, Ended}
use Rattle.promises_queue.specs.Packets.{began, ceased, Packets, weight_in, finish_in, waiting_all}

-- a call that tells nothing of the packets: it is counted
abbrev pub note_other : Packets → Packets
note_other h = record { calls = suc h.calls; marks = h.marks; accepted = h.accepted; moments = h.moments }

-- a call that set a mark
abbrev pub marked : Packets → Mark → Packets
marked h mark = record { calls = suc h.calls; marks = mark ∷ h.marks; accepted = h.accepted; moments = h.moments }

-- an opening call and its answer
abbrev pub note_opening : Packets → ℕ → ℕ → Answer → Packets
note_opening h flow weight Opened = marked h (opens flow weight)
note_opening h flow weight Closed = note_other h
note_opening h flow weight (Refused r) = note_other h
note_opening h flow weight (Accepted number start finish) = note_other h
note_opening h flow weight (Begun f number length start) = note_other h
note_opening h flow weight (Ended f number length) = note_other h

-- a closing call and its answer
abbrev pub note_closing : Packets → ℕ → Answer → Packets
note_closing h flow Closed = marked h (closes flow)
note_closing h flow Opened = note_other h
note_closing h flow (Refused r) = note_other h
note_closing h flow (Accepted number start finish) = note_other h
note_closing h flow (Begun f number length start) = note_other h
note_closing h flow (Ended f number length) = note_other h

-- an offering call and its answer
abbrev pub note_offer : Packets → ℕ → ℕ → Answer → Packets
note_offer h flow length (Accepted number start finish) =
    record {
      calls = suc h.calls;
      marks = h.marks;
      accepted =
          record {
            flow = flow;
            number = number;
            start = start.0;
            finish = finish.0;
            length = length;
            charge = charge_of (weight_in h flow);
            position = h.calls;
          }
          ∷ h.accepted;
      moments = h.moments;
    }
note_offer h flow length (Refused r) = note_other h
note_offer h flow length Opened = note_other h
note_offer h flow length Closed = note_other h
note_offer h flow length (Begun f number l start) = note_other h
note_offer h flow length (Ended f number l) = note_other h

-- a begin or an end and its answer
abbrev pub note_service : Packets → Answer → Packets
note_service h (Begun flow number length start) =
    record {
      calls = suc h.calls;
      marks = h.marks;
      accepted = h.accepted;
      moments = began flow number length start.0 h.calls ∷ h.moments;
    }
note_service h (Ended flow number length) =
    record {
      calls = suc h.calls;
      marks = h.marks;
      accepted = h.accepted;
      moments = ceased flow number length h.calls (finish_in h.accepted flow number) (waiting_all h) ∷ h.moments;
    }
note_service h (Refused r) = note_other h
note_service h Opened = note_other h
note_service h Closed = note_other h
note_service h (Accepted number start finish) = note_other h
