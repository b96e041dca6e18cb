-- Both lanes answer an end alike, and are alike then: the flow's node finishes where the packet in service does, so that the root takes the same
-- finish as the fair lane; and the flow's next packet, if one waits, was offered while virtual time was no later than the start of the packet in
-- service, so that it starts where that finishes, as the node does.
use mathlib.Core.Path.{◌≡◌, refl, sym, ap, ◌∙◌}
use mathlib.Core.Bool.{true, false, true≢false, false≢true}
use mathlib.Core.List.{List, [], ◌∷◌}
use Rattle.std.proofs.Common.{Option}
use Prim.Native.Nat.{ℕ, suc, ◌<◌}
use native.Mathlib.Omega.{arith}
use borrow.Author.Tests.{ne_eqb, not-false}
use Rattle.units.specs.Refusals.{first_of, unless}
use Rattle.units.specs.declared.Refusal.{Refusal}
use Rattle.places.proofs.Tests.{eqb_self}
use Rattle.tags.proofs.Tags.{tag_same}
use Rattle.packets.specs.declared.Service.{Service}
use Rattle.packets.specs.Queue.{waiting_of, end_grounds}
use Rattle.packets.specs.Calls.{refused as refused_in, ended as ended_in, end_of as end_in}
use Rattle.fair.specs.declared.Fair.{Fair}
use Rattle.fair.specs.Lane.{largest_ended}
use Rattle.fair.specs.Calls.{with_queue, by_queue, time_left, end_of as fair_end}
use Rattle.promises_queue.specs.Packets.{Packet, Moment, began, ceased, Packets, serving}
use Rattle.promises_queue.specs.Notes.{note_service}
use Rattle.promises_queue.specs.Promised.{begun_of, InOrder}
use Rattle.promises_queue.proofs.Kept.{Serves, serving_told}
use Rattle.promises_queue.proofs.Ceased.{finish_served}
use Rattle.promises_fair.specs.Times.{virtual_time}
use Rattle.promises_fair.proofs.Ceased.{in_service}
use Rattle.promises_fair.proofs.Tags.{start_noted, finish_before, tags_at}
use Rattle.promises_fair.proofs.Next.{next_accepted}
use Rattle.promises_fair.proofs.Good.{Good}
use Rattle.promises_fair.proofs.Stamped.{AsGiven}
use Rattle.tree.specs.declared.Tree.{Tree}
use Rattle.tree.specs.Tree.{node_of, node_at, class_at}
use Rattle.tree.specs.Steps.{ended_node, ended_class}
use Rattle.ascent.specs.Ascent.{end_step, end_top, ended_from}
use Rattle.classes.specs.Calls.{refused, ended, end_of}
use Rattle.one_class.proofs.OneTree.{FlowNode, climb_one, root_stays, stored, one_stored, tree_stored}
use Rattle.one_class.proofs.OneFlows.{TreeOf, Told, beside, by_grounds, flow_stays}

-- the packet in service is the last of its flow that was begun
begun_served : (s : Service) (ps : List Packet) (ms : List Moment) → s.busy ≡ true → Serves s ps ms → InOrder ms → begun_of ms s.flow ≡ suc s.number
unfolding begun_of
begun_served s ps [] b x o = absurd (true≢false (sym b ∙ x))
begun_served s ps (began f n l w p ∷ ms) b x o = rw (x.1, x.2, eqb_self f) (omega (arith, o.0))
begun_served s ps (ceased f n l p e w ∷ ms) b x o = absurd (true≢false (sym b ∙ x))

module _ (t : Tree) (v : Fair) (h : Packets) (o : TreeOf t v h) (g : Good v h) (given : AsGiven h) (busy : v.queue.service.busy ≡ true) where
  -- the flow of the packet in service
  abbrev flow : ℕ
  flow = v.queue.service.flow

  -- it is in service
  own : serving h.moments flow ≡ true
  own = sym (serving_told v.queue.service h.accepted h.moments g.kept.queue.service flow) ∙ rw (busy, eqb_self flow)

  -- and no other flow is
  other : (f : ℕ) → (f ≡ flow → ⊥) → serving h.moments f ≡ false
  other f n = sym (serving_told v.queue.service h.accepted h.moments g.kept.queue.service f) ∙ rw (busy, ne_eqb flow f (λ e. n (sym e)))

  -- so there is such a flow
  low : flow < 16
  low = o.served flow own

  -- its packet before the next finishes where the packet in service does
  before_next : finish_before h.accepted flow (begun_of h.moments flow) ≡ v.queue.service.finish.0
  before_next =
      ap (finish_before h.accepted flow) (begun_served v.queue.service h.accepted h.moments busy g.kept.queue.service g.ordered.in_order)
      ∙ sym (finish_served v.queue.service h.accepted h.moments busy g.kept.queue.service)

  -- and the flow's node does
  node_finish : (node_at t (node_of flow)).finish ≡ v.queue.service.finish
  node_finish = tag_same _ _ ((o.flows flow low).finish ∙ before_next)

  -- the next packet, if it waits, starts there
  next_start : 0 < waiting_of v.queue flow → finish_before h.accepted flow (begun_of h.moments flow) ≡ start_noted h.accepted flow (begun_of h.moments flow)
  next_start w =
      let tags =
      tags_at (virtual_time h.moments) flow (begun_of h.moments flow) h.accepted g.ordered.numbered g.paced.rising given
      (next_accepted g.kept.queue g.ordered flow low w) in
      let hand = in_service v.queue.service h.accepted h.moments busy g.kept.queue.service g.paced.in_hand in
      let same = finish_served v.queue.service h.accepted h.moments busy g.kept.queue.service in
      omega (arith, tags.after, tags.soon, hand.late, same, before_next)

  -- the history then
  abbrev later : Packets
  later = note_service h (ended_in v.queue).answer

  -- the flow's node then
  own_node : FlowNode (ended_in v.queue).queue later.accepted later.moments flow (ended_node (node_at t (node_of flow)))
  unfolding begun_of
  own_node =
      let x = o.flows flow low in
      record {
        parent = x.parent;
        weight = x.weight;
        waiting = x.waiting;
        finish = x.finish;
        start = λ idle w. rw (ne_eqb (node_at t (node_of flow)).waiting 0 (λ e. omega (arith, x.waiting))) (x.finish ∙ next_start w);
      }

  -- what the way up leaves
  ended_tree : ended_from t flow ≡ stored t flow (ended_node (node_at t (node_of flow))) (node_at t 0) (ended_class (node_at t (node_of flow)) (node_at t 0) (class_at t 0))
  unfolding ended_from
  ended_tree =
      climb_one end_step end_top t flow (omega (arith, low)) (o.flows flow low).parent (rw (root_stays t flow (ended_node (node_at t (node_of flow)))) o.root)
      ∙ one_stored t flow _ _

  -- so the tree is that of the fair lane's packets then
  tree_ended : TreeOf (ended_from t flow) (with_queue (time_left v) (largest_ended v) (ended_in v.queue)).lane later
  unfolding begun_of
  tree_ended =
      rw ended_tree
      (tree_stored o (ended_in v.queue).queue (time_left v) (largest_ended v) later.accepted later.moments flow _ (node_at t 0) _ (omega (arith, low)) own_node
      (λ f b n y z. flow_stays z (ended_in v.queue).queue later.accepted later.moments refl refl refl (λ i w. (other f n, refl)))
      o.root o.all (rw (o.all, o.time, o.largest, node_finish)) (rw (o.largest, node_finish)) (λ f e. absurd (false≢true e)))

-- an end
pub told_end : (t : Tree) (v : Fair) (h : Packets) → TreeOf t v h → Good v h → AsGiven h → Told (end_of (beside t v)) (fair_end v) (note_service h (fair_end v).answer)
unfolding end_of fair_end end_in
told_end t v h o g given =
    by_grounds
    (λ (r s : Option Refusal).
    let e = by_queue v (time_left v) (largest_ended v) (unless (refused_in v.queue) s (ended_in v.queue)) in
    Told (unless (refused (beside t v)) r (ended (beside t v))) e (note_service h e.answer))
    (first_of (end_grounds v.queue)) (end_grounds v.queue) refl (λ r. (refl, refl, o))
    (λ n. (refl, refl, tree_ended t v h o g given (not-false v.queue.service.busy n.0)))
