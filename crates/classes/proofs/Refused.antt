-- T3, in every state: every call is answered in kind, is refused exactly for the first of its grounds that holds, and then leaves the lane as
-- it was; and the grounds stand in the rules' order.
use mathlib.Core.Path.{◌≡◌, refl, sym, ◌∙◌}
use mathlib.Core.Bool.{Bool, true, false, cond}
use mathlib.Core.Logic.{inl, inr}
use Rattle.std.proofs.Common.{Option, None, Some}
use Rattle.units.specs.Refusals.{first_of, unless}
use Rattle.units.specs.declared.Refusal.{Refusal}
use Rattle.units.specs.declared.Refusal.TheVariants.{TagsUsedUp, PacketInService, NothingWaits}
use Rattle.units.proofs.Refusals.{none_is_none}
use Rattle.places.specs.Choice.{Choice, nothing, at}
use Rattle.tags.specs.declared.Packet.{Packet}
use Rattle.packets.specs.Queue.{flow_at}
use Rattle.taking.specs.Taking.{is_none}
use Rattle.classes.specs.declared.Classes.{Classes}
use Rattle.classes.specs.declared.Done.{Done}
use Rattle.classes.specs.declared.Call.{Call}
use Rattle.classes.specs.declared.Call.TheVariants.{Open, Close, Offer, Begin, End}
use Rattle.classes.specs.Lane.{chosen, beyond}
use Rattle.classes.specs.Calls.{refused, opened, open_of, closed, close_of, taken, offer_of, begun, begin_of, ended, end_of, call_of, grounds_of}
use Rattle.classes.specs.Answers.{refusal_in}
use Rattle.classes.specs.Laws.{InKind, AnsweredInKind, RefusedSame, RefusedFirst, GroundsInOrder}

-- what a call gives where no ground holds
abbrev through : Classes → Call → Done
through u (Open flow weight) = opened u flow weight
through u (Close flow) = closed u flow
through u (Offer flow length) = taken u flow length
through u Begin = begun u (chosen u)
through u End = ended u

module _ (u : Classes) where
  -- a call gives that, unless a ground holds
  call_is : (call : Call) → call_of u call ≡ unless (refused u) (first_of (grounds_of u call)) (through u call)
  unfolding open_of close_of offer_of begin_of end_of
  call_is (Open flow weight) = refl
  call_is (Close flow) = refl
  call_is (Offer flow length) = refl
  call_is Begin = refl
  call_is End = refl

  -- what holds of every refusal, and of what goes through, holds of a call
  call_cases : (call : Call) (P : Done → Type 0) → ((r : Refusal) → P (refused u r)) → (first_of (grounds_of u call) ≡ None → P (through u call))
      → P (call_of u call)
  call_cases call P no_way ok = rw (call_is call) (go (first_of (grounds_of u call)) refl)
    where
      go : (o : Option Refusal) → first_of (grounds_of u call) ≡ o → P (unless (refused u) o (through u call))
      go None e = ok e
      go (Some r) e = no_way r

  -- a begin that no ground refuses has a packet to take
  begun_through : first_of (grounds_of u Begin) ≡ None → refusal_in (begun u (chosen u)).answer ≡ None
  unfolding first_of
  begun_through = go (chosen u) u.queue.service.busy
    where
      go : (x : Choice Packet) (b : Bool)
          → cond b (Some PacketInService) (cond (is_none x) (Some NothingWaits) (cond (beyond u x) (Some TagsUsedUp) None)) ≡ None
          → refusal_in (begun u x).answer ≡ None
      go nothing true q = absurd (none_is_none PacketInService (sym q))
      go nothing false q = absurd (none_is_none NothingWaits (sym q))
      go (at place p) b q = refl

  -- what goes through is no refusal
  through_first : (call : Call) → first_of (grounds_of u call) ≡ None → refusal_in (through u call).answer ≡ None
  through_first (Open flow weight) e = refl
  through_first (Close flow) e = refl
  through_first (Offer flow length) e = refl
  through_first Begin e = begun_through e
  through_first End e = refl

  -- a refusal is in kind for every call
  refusal_kind : (call : Call) (r : Refusal) → InKind call (refused u r).answer
  refusal_kind (Open flow weight) r = inl (r, refl)
  refusal_kind (Close flow) r = inl (r, refl)
  refusal_kind (Offer flow length) r = inl (r, refl)
  refusal_kind Begin r = inl (r, refl)
  refusal_kind End r = inl (r, refl)

  -- and so is what goes through
  through_kind : (call : Call) → InKind call (through u call).answer
  through_kind (Open flow weight) = inr refl
  through_kind (Close flow) = inr refl
  through_kind (Offer flow length) = inr ((flow_at u.queue flow).next, refl)
  through_kind Begin = go (chosen u)
    where
      go : (x : Choice Packet) → InKind Begin (begun u x).answer
      go nothing = inl (NothingWaits, refl)
      go (at place p) = inr (_, p.number, p.length, _, refl)
  through_kind End = inr (u.queue.service.flow, u.queue.service.number, u.queue.service.length, refl)

-- every call is answered in kind
pub answered_in_kind : AnsweredInKind
answered_in_kind u call = call_cases u call (λ d. InKind call d.answer) (refusal_kind u call) (λ e. through_kind u call)

-- a refused call leaves the lane as it was
pub refused_same : RefusedSame
refused_same u call r =
    call_cases u call (λ d. refusal_in d.answer ≡ Some r → d.lane ≡ u) (λ x q. refl)
    (λ e q. absurd (none_is_none r (sym (through_first u call e) ∙ q)))

-- each call is refused exactly for the first of its grounds that holds
pub refused_first : RefusedFirst
refused_first u call = rw (call_is u call) (go (first_of (grounds_of u call)) refl)
  where
    go : (o : Option Refusal) → first_of (grounds_of u call) ≡ o → refusal_in (unless (refused u) o (through u call)).answer ≡ o
    go None e = through_first u call e
    go (Some r) e = refl

-- the grounds stand in the rules' order
pub grounds_in_order : GroundsInOrder
grounds_in_order u (Open flow weight) = refl
grounds_in_order u (Close flow) = refl
grounds_in_order u (Offer flow length) = refl
grounds_in_order u Begin = refl
grounds_in_order u End = refl
