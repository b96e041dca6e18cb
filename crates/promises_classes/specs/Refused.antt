-- What a call is refused for, read off the calls and answers so far and not off the lane.
use Rattle.std.specs.Prelude.{Bool, not, ◌&&◌, ◌||◌, List, [], ◌∷◌, ◌++◌, ℕ, ◌+◌, ◌*◌, eqb, ltb}
use Rattle.units.specs.Limits.{tag_limit}
use Rattle.units.specs.Charges.{charge_of}
use Rattle.units.specs.Refusals.{Ground}
use Rattle.units.specs.declared.Refusal.TheVariants.{TagsUsedUp}
use Rattle.plans.specs.declared.Plan.{Plan}
use Rattle.plans.specs.Numbered.{any_from}
use Rattle.classes.specs.declared.Call.{Call}
use Rattle.classes.specs.declared.Call.TheVariants.{Open, Close, Offer, Begin, End}
use Rattle.promises_queue.specs.Packets.{Packet}
use Rattle.promises_queue.specs.Promised.{begun_of}
use Rattle.promises_queue.specs.Refused.{opening_noted, closing_noted, waiting_noted, begin_noted, end_noted}
use Rattle.promises_classes.specs.Events.{History, packets_in}
use Rattle.promises_classes.specs.Rules.{Child, a_class, a_flow, start_tag, comes_before}
use Rattle.promises_classes.specs.Views.{any_of, parent_of, weight_of, way_to, sends, seen}

-- a child of the same class has something to send, and comes before this one
abbrev pub is_rival : Plan → History → Child → Child → Bool
is_rival p h x y = eqb (parent_of p y) (parent_of p x) && (sends p h y && comes_before (seen p (parent_of p x) h) y x)

-- a child goes first in its class
abbrev pub goes_first : Plan → History → Child → Bool
goes_first p h x =
    sends p h x
    && not (any_from (λ k. ltb 0 k && (ltb k p.count && is_rival p h x (a_class k))) 0 31 || any_from (λ f. is_rival p h x (a_flow f)) 0 16)

-- a begin comes to this flow: every child on its way goes first
abbrev pub comes_to : Plan → History → ℕ → Bool
comes_to p h f = not (any_of (λ x. not (goes_first p h x)) (way_to p f))

-- the finish of a child on the way of a flow would pass the largest tag, for a packet of this length
abbrev pub passes_at : Plan → History → ℕ → Child → Bool
passes_at p h length x = ltb tag_limit (start_tag (seen p (parent_of p x) h) x + length * charge_of (weight_of p h x))

-- an accepted packet is its flow's first not begun, and some finish on its way would pass the largest tag
abbrev pub would_pass : Plan → History → ℕ → Packet → Bool
would_pass p h f a =
    (eqb a.flow f && eqb a.number (begun_of (packets_in h).moments f)) && any_of (passes_at p h a.length) (way_to p f)

-- each call; of a begin, what is noted of any queue, then that the flow that it comes to would pass
abbrev pub grounds_noted : Plan → History → Call → List Ground
grounds_noted p h (Open flow weight) = opening_noted (packets_in h) flow weight
grounds_noted p h (Close flow) = closing_noted (packets_in h) flow
grounds_noted p h (Offer flow length) = waiting_noted (packets_in h) flow length
grounds_noted p h Begin =
    begin_noted (packets_in h) ++ (TagsUsedUp, any_from (λ f. comes_to p h f && any_of (would_pass p h f) (packets_in h).accepted) 0 16) ∷ []
grounds_noted p h End = end_noted (packets_in h)
