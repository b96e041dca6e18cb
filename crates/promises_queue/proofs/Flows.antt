-- An opening and a closing keep it: the flow's record has the new mark then, and its numbers and its last finish go on.
use mathlib.Core.Path.{◌≡◌, refl, ◌∙◌}
use mathlib.Core.Bool.{true, false}
use mathlib.Core.List.{List, ◌∷◌}
use Prim.Native.Nat.{ℕ, ◌≤◌, ◌<◌}
use native.Mathlib.Omega.{arith}
use lib.ListN.{length, get_or, set, length-set}
use Rattle.units.specs.Limits.{bad_weight}
use Rattle.places.specs.Marks.{Mark, opens, closes, open_in, in_force}
use Rattle.places.proofs.Marks.{force_opened, force_closed, AsMarked, marked_opened, marked_closed}
use Rattle.places.proofs.Stores.{set_keeps}
use Rattle.tags.specs.declared.Flow.{Flow}
use Rattle.tags.specs.Tags.{shut_flow}
use Rattle.packets.specs.declared.Queue.{Queue}
use Rattle.packets.specs.Queue.{flow_at}
use Rattle.packets.specs.Calls.{queue_with, opened, closed}
use Rattle.promises_queue.specs.Packets.{Packet, Moment}
use Rattle.promises_queue.proofs.Kept.{QueueKept}

module _
    {q : Queue}
    {marks : List Mark}
    {ps : List Packet}
    {ms : List Moment}
    (k : QueueKept q marks ps ms)
    (flow : ℕ)
    (l : flow ≤ 15) where
  -- the flow has a record
  low : flow < length q.flows
  low = omega (arith, k.sixteen)

  -- the flows' records have their marks and their weights
  abbrev FlowsAsMarked : List Flow → List Mark → Type 0
  FlowsAsMarked = AsMarked (λ (x : Flow). x.opened) (λ (x : Flow). x.weight) shut_flow 16

  -- as they do before the call
  as_marked : FlowsAsMarked q.flows marks
  as_marked f b = (k.open_flows f b, k.weights f b)

  -- the flow's record is x then, and has the new mark
  kept_marked : (x : Flow) (mark : Mark) → x.next ≡ (flow_at q flow).next → FlowsAsMarked (set q.flows flow x) (mark ∷ marks)
      → ((f : ℕ) → open_in (mark ∷ marks) f ≡ true → bad_weight (in_force (mark ∷ marks) f) ≡ false)
      → QueueKept (record { service = q.service; flows = set q.flows flow x; packets = q.packets }) (mark ∷ marks) ps ms
  kept_marked x mark next t fit =
      record {
        sixteen = length-set q.flows flow x ∙ k.sixteen;
        long = k.long;
        open_flows = λ f b. (t f b).0;
        weights = λ f b. (t f b).1;
        fit = fit;
        next = λ f b. set_keeps q.flows flow x shut_flow low (λ (y : Flow). y.next) next f ∙ k.next f b;
        tied = k.tied;
        service = k.service;
      }

  -- the queue is still what the calls and answers tell, where the flow is opened
  pub kept_open : (weight : ℕ) → bad_weight weight ≡ false → QueueKept (queue_with q (opened q flow weight)) (opens flow weight ∷ marks) ps ms
  kept_open weight good =
      kept_marked _ (opens flow weight) refl
      (marked_opened (λ (x : Flow). x.opened) (λ (x : Flow). x.weight) shut_flow 16 q.flows marks as_marked flow _ low refl)
      (force_opened (λ n. bad_weight n ≡ false) marks k.fit flow weight good)

  -- and where it is closed
  pub kept_close : QueueKept (queue_with q (closed q flow)) (closes flow ∷ marks) ps ms
  kept_close =
      kept_marked _ (closes flow) refl
      (marked_closed (λ (x : Flow). x.opened) (λ (x : Flow). x.weight) shut_flow 16 q.flows marks as_marked flow _ low refl (k.weights flow (omega arith)))
      (force_closed (λ n. bad_weight n ≡ false) marks k.fit flow)

  -- every flow's last finish stays, where the new record has the flow's
  finish_same : (x : Flow) → x.finish ≡ (flow_at q flow).finish → (f : ℕ) → (get_or (set q.flows flow x) f shut_flow).finish ≡ (flow_at q f).finish
  finish_same x = set_keeps q.flows flow x shut_flow low (λ (y : Flow). y.finish)

  -- where the flow is opened
  pub finish_open : (weight f : ℕ) → (flow_at (queue_with q (opened q flow weight)) f).finish ≡ (flow_at q f).finish
  finish_open weight = finish_same _ refl

  -- and where it is closed
  pub finish_close : (f : ℕ) → (flow_at (queue_with q (closed q flow)) f).finish ≡ (flow_at q f).finish
  finish_close = finish_same _ refl
