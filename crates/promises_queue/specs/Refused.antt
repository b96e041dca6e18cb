-- What a call is refused for, read off the calls and answers so far and not off the queue.
use Rattle.std.specs.Prelude.{◌≡◌, not, ◌&&◌, ◌||◌, List, [], ◌∷◌, ◌++◌, ℕ, leb, ltb, eqb, Option, is_none}
use Rattle.units.specs.Limits.{place_count, no_such_flow, bad_weight, bad_length}
use Rattle.units.specs.Refusals.{Ground, first_of}
use Rattle.units.specs.declared.Refusal.TheVariants.{NoSuchFlow, NotOpen, AlreadyOpen, PlacesFull, TagsUsedUp, PacketInService, NothingWaits, NothingInService, FlowInUse, BadWeight, BadLength}
use Rattle.places.specs.Places.{count}
use Rattle.places.specs.Marks.{open_in}
use Rattle.packets.specs.declared.Queue.{Queue}
use Rattle.packets.specs.declared.Quote.{Quote}
use Rattle.packets.specs.Answers.{refusal_in}
use Rattle.packets.specs.Queue.{Rank}
use Rattle.packets.specs.Calls.{open_of, close_of, put_of, begin_by, end_of}
use Rattle.promises_queue.specs.Packets.{Packet, Packets, waits, waiting_all, in_service, serving}

-- how many packets of a flow wait
abbrev pub waiting_in : Packets → ℕ → ℕ
waiting_in h flow = count (λ (a : Packet). eqb a.flow flow && waits h a) h.accepted

-- an opening; open: opened and not closed since; waiting: accepted and not begun; in service: a begin answered and no end since
abbrev pub opening_noted : Packets → ℕ → ℕ → List Ground
opening_noted h flow weight =
    (NoSuchFlow, no_such_flow flow) ∷ (AlreadyOpen, open_in h.marks flow) ∷ (BadWeight, bad_weight weight) ∷ []

-- a closing: the flow is not open, or a packet of it waits or is in service
abbrev pub closing_noted : Packets → ℕ → List Ground
closing_noted h flow =
    (NoSuchFlow, no_such_flow flow)
    ∷ (NotOpen, not (open_in h.marks flow))
    ∷ (FlowInUse, ltb 0 (waiting_in h flow) || serving h.moments flow)
    ∷ []

-- of an offer, what needs no tag
abbrev pub waiting_noted : Packets → ℕ → ℕ → List Ground
waiting_noted h flow length =
    (NoSuchFlow, no_such_flow flow)
    ∷ (NotOpen, not (open_in h.marks flow))
    ∷ (BadLength, bad_length length)
    ∷ (PlacesFull, leb place_count (waiting_in h flow))
    ∷ []

-- a begin: a packet is in service, or none waits
abbrev pub begin_noted : Packets → List Ground
begin_noted h = (PacketInService, in_service h.moments) ∷ (NothingWaits, eqb (waiting_all h) 0) ∷ []

-- an end: no packet is in service
abbrev pub end_noted : Packets → List Ground
end_noted h = (NothingInService, not (in_service h.moments)) ∷ []

-- Each call is refused exactly as the calls and answers so far tell, a packet that is put also where it is quoted none.
pub record RefusedAsNoted (q : Queue) (h : Packets) : Type 0 where
  pub opening : (flow weight : ℕ) → refusal_in (open_of q flow weight).answer ≡ first_of (opening_noted h flow weight)
  pub closing : (flow : ℕ) → refusal_in (close_of q flow).answer ≡ first_of (closing_noted h flow)
  pub putting :
      (flow length : ℕ) (quote : Option Quote)
      → refusal_in (put_of q flow length quote).answer ≡ first_of (waiting_noted h flow length ++ (TagsUsedUp, is_none quote) ∷ [])
  pub beginning : (rank : Rank) → refusal_in (begin_by rank q).answer ≡ first_of (begin_noted h)
  pub ending : refusal_in (end_of q).answer ≡ first_of (end_noted h)
