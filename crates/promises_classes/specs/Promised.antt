-- The promises of the class lane, each as a statement about a lane, what the calls and answers so far tell, or both. What is promised of any
-- queue is in promises_queue.
use Rattle.std.specs.Prelude.{◌≡◌, true, false, cond, ℕ, zero, suc, ◌+◌, ◌<◌}
use Rattle.units.specs.declared.Tag.{Tag}
use Rattle.places.specs.Members.{Each, Any}
use Rattle.plans.specs.declared.Plan.{Plan}
use Rattle.plans.specs.Plans.{class_in}
use Rattle.tree.specs.Tree.{node_of, node_at, class_at}
use Rattle.classes.specs.declared.Classes.{Classes}
use Rattle.classes.specs.declared.Answer.{Answer}
use Rattle.classes.specs.declared.Answer.TheVariants.{Refused, Opened, Closed, Taken, Begun, Ended}
use Rattle.promises_queue.specs.Packets.{Packet, waits}
use Rattle.promises_queue.specs.Promised.{accepted_of, begun_of}
use Rattle.promises_queue.specs.Refused.{waiting_in}
use Rattle.promises_classes.specs.Events.{History, packets_in}
use Rattle.promises_classes.specs.Rules.{Child, a_class, a_flow, start_tag, last_finish, virtual_time, largest_ended, comes_before}
use Rattle.promises_classes.specs.Views.{parent_of, HangsFrom, below, way_to, sends, seen}

-- where a child stands among the nodes
abbrev pub place_of : Child → ℕ
place_of (a_class k) = k
place_of (a_flow f) = node_of f

-- T2: a class runs the fair rules: its virtual time, its largest finish, and the start and the last finish of each of its children are those of
-- the rules, over what that class sees alone.
pub record RunsFair (p : Plan) (u : Classes) (h : History) (c : ℕ) : Type 0 where
  pub time : (class_at u.tree c).time.0 ≡ virtual_time (seen p c h)
  pub largest : (class_at u.tree c).largest.0 ≡ largest_ended (seen p c h)
  pub starts : (x : Child) → HangsFrom p c x → (node_at u.tree (place_of x)).start.0 ≡ start_tag (seen p c h) x
  pub finishes : (x : Child) → HangsFrom p c x → (node_at u.tree (place_of x)).finish.0 ≡ last_finish (seen p c h) x

-- a child goes first in its class: it has something to send, and no child of that class that has comes before it
abbrev pub GoesFirst : Plan → History → Child → Type 0
GoesFirst p h x =
    (sends p h x ≡ true)
    × ((y : Child) → HangsFrom p (parent_of p x) y → sends p h y ≡ true → comes_before (seen p (parent_of p x) h) y x ≡ false)

-- T2: a begin is settled by going from the root to the child that goes first, until a flow is met: every child on the way of the flow that is
-- answered goes first in its class. T5: its packet is accepted and waits, of this length; its number is how many of the flow were begun,
-- and the start is the flow's, in its own class.
pub record Settled (p : Plan) (h : History) (flow number length : ℕ) (start : Tag) : Type 0 where
  pub known : flow < 16
  pub way : Each (GoesFirst p h) (way_to p flow)
  pub packet :
      Any (λ (a : Packet). (waits (packets_in h) a ≡ true) × (a.flow ≡ flow) × (a.number ≡ number) × (a.length ≡ length))
      (packets_in h).accepted
  pub lowest : number ≡ begun_of (packets_in h).moments flow
  pub start_told : start.0 ≡ start_tag (seen p (class_in p flow) h) (a_flow flow)

-- so of an answer: a refusal says nothing here, and a begin has no other answer
abbrev pub BeginSettled : Plan → History → Answer → Type 0
BeginSettled p h (Begun flow number length start) = Settled p h flow number length start
BeginSettled p h (Refused r) = Unit {0}
BeginSettled p h Opened = ⊥
BeginSettled p h Closed = ⊥
BeginSettled p h (Taken number) = ⊥
BeginSettled p h (Ended f n l) = ⊥

-- the packets that wait below a child, of the n flows from k on
unfoldable pub waiting_from : Plan → History → Child → ℕ → ℕ → ℕ
waiting_from p h x k zero = 0
waiting_from p h x k (suc n) = cond (below p x k) (waiting_in (packets_in h) k) 0 + waiting_from p h x (suc k) n

-- and of all sixteen
abbrev pub waiting_below : Plan → History → Child → ℕ
waiting_below p h x = waiting_from p h x 0 16

-- T4: every class that there is, the root too, and every flow counts the packets that wait below it.
pub record Counts (p : Plan) (u : Classes) (h : History) : Type 0 where
  pub classes : (c : ℕ) → c < p.count → (node_at u.tree c).waiting ≡ waiting_below p h (a_class c)
  pub flows : (f : ℕ) → f < 16 → (node_at u.tree (node_of f)).waiting ≡ waiting_below p h (a_flow f)

-- T5: an offer that is not refused is answered how many of the flow were accepted before.
abbrev pub OfferNumbered : History → ℕ → Answer → Type 0
OfferNumbered h flow (Taken number) = number ≡ accepted_of (packets_in h) flow
OfferNumbered h flow (Refused r) = Unit {0}
OfferNumbered h flow Opened = ⊥
OfferNumbered h flow Closed = ⊥
OfferNumbered h flow (Begun f n l s) = ⊥
OfferNumbered h flow (Ended f n l) = ⊥
