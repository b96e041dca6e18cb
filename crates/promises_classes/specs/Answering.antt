-- The answers by the rules alone: each worked out from the tree and from the calls and answers before it, and not from any lane.
use Rattle.std.specs.Prelude.{cond, List, [], ◌∷◌, ℕ, zero, suc}
use Rattle.units.specs.Refusals.{first_of, unless}
use Rattle.units.specs.declared.Refusal.TheVariants.{NothingWaits, NothingInService}
use Rattle.promises_queue.specs.Packets.{Packet, is_packet, Moment, began, ceased}
use Rattle.promises_queue.specs.Promised.{accepted_of, begun_of}
use Rattle.plans.specs.declared.Plan.{Plan}
use Rattle.plans.specs.Plans.{class_in}
use Rattle.classes.specs.declared.Call.{Call}
use Rattle.classes.specs.declared.Call.TheVariants.{Open, Close, Offer, Begin, End}
use Rattle.classes.specs.declared.Answer.{Answer}
use Rattle.classes.specs.declared.Answer.TheVariants.{Refused, Opened, Closed, Taken, Begun, Ended}
use Rattle.promises_classes.specs.Events.{History, packets_in, note}
use Rattle.promises_classes.specs.Rules.{a_flow, start_tag}
use Rattle.promises_classes.specs.Views.{seen}
use Rattle.promises_classes.specs.Refused.{comes_to, grounds_noted}

-- the length of the accepted packet of this flow and number, 0 where there is none
unfoldable pub length_in : List Packet → ℕ → ℕ → ℕ
length_in [] flow number = 0
length_in (a ∷ rest) flow number = cond (is_packet flow number a) a.length (length_in rest flow number)

-- a flow's first packet that is not begun, begun
abbrev pub first_begun : Plan → History → ℕ → ℕ → Answer
first_begun p h flow number =
    Begun flow number (length_in (packets_in h).accepted flow number) (record { 0 = start_tag (seen p (class_in p flow) h) (a_flow flow) })

-- a begin: of the n flows from f on, the first that it comes to; where it comes to none it has been refused before, for nothing waits
unfoldable pub begun_noted : Plan → History → ℕ → ℕ → Answer
begun_noted p h f zero = Refused NothingWaits
begun_noted p h f (suc n) = cond (comes_to p h f) (first_begun p h f (begun_of (packets_in h).moments f)) (begun_noted p h (suc f) n)

-- an end: the packet last begun; where none is in service it has been refused before, for that
abbrev pub ended_noted : List Moment → Answer
ended_noted [] = Refused NothingInService
ended_noted (began f n l s p ∷ ms) = Ended f n l
ended_noted (ceased f n l p e w ∷ ms) = Refused NothingInService

-- each call, where it is not refused
abbrev pub through_noted : Plan → History → Call → Answer
through_noted p h (Open flow weight) = Opened
through_noted p h (Close flow) = Closed
through_noted p h (Offer flow length) = Taken (accepted_of (packets_in h) flow)
through_noted p h Begin = begun_noted p h 0 16
through_noted p h End = ended_noted (packets_in h).moments

-- what a call is answered: the first ground that holds, and else this
abbrev pub answer_noted : Plan → History → Call → Answer
answer_noted p h call = unless Refused (first_of (grounds_noted p h call)) (through_noted p h call)

-- all calls of a list
unfoldable pub answers_noted : Plan → History → List Call → List Answer
answers_noted p h [] = []
answers_noted p h (call ∷ calls) = answer_noted p h call ∷ answers_noted p (note h call (answer_noted p h call)) calls
