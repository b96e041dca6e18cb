-- An end keeps it: the service is idle, and all else is as it was. The packet that ends is the one last begun, and its finish tag is that
-- of its acceptance.
use mathlib.Core.Path.{◌≡◌, refl, sym, ◌∙◌}
use mathlib.Core.Bool.{true, true≢false}
use mathlib.Core.List.{List, [], ◌∷◌}
use Prim.Native.Nat.{ℕ}
use Rattle.places.specs.Places.{count}
use Rattle.places.specs.Marks.{Mark}
use Rattle.packets.specs.declared.Service.{Service}
use Rattle.packets.specs.declared.Queue.{Queue}
use Rattle.packets.specs.declared.Answer.TheVariants.{Ended}
use Rattle.packets.specs.Calls.{ended}
use Rattle.promises_queue.specs.Packets.{Packet, Moment, began, ceased, finish_in, was_begun}
use Rattle.promises_queue.specs.Promised.{begun_of, LastBegun}
use Rattle.promises_queue.proofs.Kept.{not_begun, Serves, QueueKept, Ordered}

-- the finish tag of the packet in service, as it was accepted
abbrev pub finish_of_this : Service → List Packet → ℕ
finish_of_this v ps = finish_in ps v.flow v.number

-- the end of the packet in service, told by the call of this position
abbrev pub ends : Service → List Packet → List Moment → ℕ → Moment
ends v ps ms position = ceased v.flow v.number v.length position (finish_of_this v ps) (count (not_begun ms) ps)

-- the packet in service is the one last begun
pub last_begun : (v : Service) (ps : List Packet) (ms : List Moment) → v.busy ≡ true → Serves v ps ms → LastBegun ms (Ended v.flow v.number v.length)
last_begun v ps [] b s = true≢false (sym b ∙ s)
last_begun v ps (began f n l x p ∷ ms) b s = (s.1, s.2, s.3)
last_begun v ps (ceased f n l p x w ∷ ms) b s = true≢false (sym b ∙ s)

-- and has the finish tag of its acceptance
pub finish_served : (v : Service) (ps : List Packet) (ms : List Moment) → v.busy ≡ true → Serves v ps ms → v.finish.0 ≡ finish_of_this v ps
finish_served v ps [] b s = absurd (true≢false (sym b ∙ s))
finish_served v ps (began f n l x p ∷ ms) b s = rw (s.1, s.2) s.4
finish_served v ps (ceased f n l p x w ∷ ms) b s = absurd (true≢false (sym b ∙ s))

-- the queue is still what the calls and answers tell
pub kept_end : {q : Queue} {marks : List Mark} {ps : List Packet} {ms : List Moment} → QueueKept q marks ps ms → (position : ℕ)
    → QueueKept (ended q).queue marks ps (ends q.service ps ms position ∷ ms)
unfolding was_begun
kept_end k position =
    record {
      sixteen = k.sixteen;
      long = k.long;
      open_flows = k.open_flows;
      weights = k.weights;
      fit = k.fit;
      next = k.next;
      tied = k.tied;
      service = refl;
    }

-- and that is still in order
pub ordered_end : (v : Service) {ps : List Packet} {ms : List Moment} → Ordered ps ms → (position : ℕ) → Ordered ps (ends v ps ms position ∷ ms)
unfolding begun_of
ordered_end v t position = record { numbered = t.numbered; in_order = t.in_order; begun = t.begun; known = tt }
