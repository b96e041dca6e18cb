-- Both lanes answer a begin alike, and are alike then, where the class lane does not answer it 6: both choose the same packet, which starts where
-- its flow's node does; the node's finish is then worked out from the same start, length and weight as the packet's was.
use mathlib.Core.Path.{◌≡◌, refl, sym, ap, ◌∙◌, subst}
use mathlib.Core.Bool.{Bool, true, false, cond, ◌||◌, true≢false}
use Rattle.std.proofs.Common.{None, Some, Option}
use Prim.Native.Nat.{ℕ, suc, ◌+◌, ◌*◌, ◌<◌}
use native.Mathlib.Omega.{arith}
use borrow.Author.Tests.{eqb-true, eq-eqb, ne_eqb, lt-leb}
use lib.Dec.{eqb, ltb}
use Rattle.units.specs.Limits.{tag_limit, bad_length}
use Rattle.units.specs.Charges.{charge_of}
use Rattle.units.specs.Refusals.{first_of, unless}
use Rattle.units.specs.declared.Refusal.TheVariants.{TagsUsedUp, PacketInService, NothingWaits}
use Rattle.units.specs.declared.Tag.{Tag}
use Rattle.places.specs.Places.{bit}
use Rattle.places.specs.Marks.{in_force}
use Rattle.places.specs.Choice.{Choice, nothing, at}
use Rattle.places.proofs.Count.{count_set}
use Rattle.places.proofs.Least.{none_held, some_held}
use Rattle.places.proofs.Members.{some_both, some_gives}
use Rattle.places.proofs.Tests.{eqb_self, neither_told}
use Rattle.tags.specs.declared.Packet.{Packet as Place}
use Rattle.tags.specs.Tags.{free_packet, is_held, finish_at, finish_of}
use Rattle.tags.proofs.Tags.{tag_same}
use Rattle.packets.specs.Kept.{Kept}
use Rattle.packets.specs.Queue.{flow_at, waiting_of, waiting, by_start, key_by, chosen_by}
use Rattle.packets.specs.Calls.{refused as refused_in, begun as begun_in, begin_by}
use Rattle.fair.specs.declared.Fair.{Fair}
use Rattle.fair.specs.declared.Done.{Done as FairDone}
use Rattle.fair.specs.Calls.{with_queue, begun as fair_begun, begin_of as fair_begin}
use Rattle.promises_queue.specs.Packets.{Packets, waits}
use Rattle.promises_queue.specs.Notes.{note_service}
use Rattle.promises_queue.specs.Promised.{begun_of}
use Rattle.promises_queue.proofs.Kept.{waiting_told}
use Rattle.promises_queue.proofs.Chosen.{place_flow, held_there, held_finish}
use Rattle.promises_queue.proofs.Began.{waits_less}
use Rattle.promises_queue.proofs.Good.{QueueGood, queue_begin}
use Rattle.promises_fair.proofs.Tags.{start_noted, finish_before, stamped_each}
use Rattle.promises_fair.proofs.Next.{next_unbegun}
use Rattle.promises_fair.proofs.Good.{Good, queue_good}
use Rattle.promises_fair.proofs.Stamped.{AsGiven}
use Rattle.tree.specs.declared.Node.{Node}
use Rattle.tree.specs.declared.Tree.{Tree}
use Rattle.tree.specs.Tree.{node_of, node_at, class_at, with_node}
use Rattle.tree.specs.Steps.{reached, is_beyond, finish_for, begun_node, begun_root, begun_class}
use Rattle.ascent.specs.Ascent.{with_times, passes, passes_for, begin_step, begin_top, begun_from}
use Rattle.classes.specs.declared.Done.{Done}
use Rattle.classes.specs.declared.Answer.TheVariants.{Begun}
use Rattle.classes.specs.Answers.{refusal_in}
use Rattle.descent.specs.Descent.{flow_met}
use Rattle.taking.specs.Taking.{is_none, lowest_of}
use Rattle.classes.specs.Lane.{chosen, beyond}
use Rattle.classes.specs.Calls.{refused, begun, begin_of}
use Rattle.one_class.proofs.OneQueue.{bare_packet, bare, bare_begun}
use Rattle.one_class.proofs.OneTree.{FlowNode, climb_one, root_stays, stored, tree_stored}
use Rattle.one_class.proofs.OneFlows.{TreeOf, Told, beside, flow_stays}
use Rattle.one_class.proofs.OneChoice.{held, low, is_next, none_served, node_start, flow_met_lem}
use Rattle.one_class.proofs.OneTaking.{none_taken, next_taken}

-- a finish that does not pass the largest tag is reached
finish_reached : (last start : Tag) (length weight : ℕ) → is_beyond (finish_of start length weight) ≡ false → (reached last (finish_of start length weight)).0 ≡ finish_at start length weight
unfolding finish_of
finish_reached last start length weight = go (bad_length length || ltb tag_limit (finish_at start length weight))
  where
    go : (b : Bool) → is_beyond (cond b None (Some (record { 0 = finish_at start length weight }))) ≡ false
        → (reached last (cond b None (Some (record { 0 = finish_at start length weight })))).0 ≡ finish_at start length weight
    go true e = absurd (true≢false e)
    go false e = refl

module _
    (t : Tree)
    (v : Fair)
    (h : Packets)
    (o : TreeOf t v h)
    (g : Good v h)
    (given : AsGiven h)
    (idle : v.queue.service.busy ≡ false)
    (place : ℕ)
    (p : Place)
    (e : chosen_by by_start v.queue ≡ at place p) where
  -- the packet's flow
  abbrev flow : ℕ
  flow = place_flow place

  -- there is such a flow
  few : flow < 16
  few = low t v h o g idle place p e

  -- its node
  abbrev node : Node
  node = node_at t (node_of flow)

  -- what the begin gives
  abbrev next : Kept
  next = begun_in v.queue (at place p)

  -- the history then
  abbrev later : Packets
  later = note_service h next.answer

  -- the class lane chooses the packet too
  chosen_same : chosen (beside t v) ≡ at place (bare_packet p)
  chosen_same =
      ap (lowest_of (bare v.queue)) (flow_met_lem t v h o g idle place p e)
      ∙ next_taken (queue_good v h g) place p (held t v h o g idle place p e) (is_next t v h o g idle place p e)

  -- what the packet costs, at the weight in force
  cost : p.finish.0 ≡ p.start.0 + p.length * charge_of (flow_at v.queue flow).weight
  cost =
      some_gives _ _
      (λ a x.
      let y = x.0.0 in
      let w : waits h a ≡ true = next_unbegun g.ordered a (y.1 ∙ is_next t v h o g idle place p e ∙ ap (begun_of h.moments) (sym y.0)) in
      let c : a.charge ≡ charge_of (flow_at v.queue flow).weight =
      (x.0.1 (rw w)).1 ∙ ap charge_of (ap (in_force h.marks) y.0 ∙ sym (g.kept.queue.weights flow few)) in
      sym y.4 ∙ x.1 ∙ (λ i. y.3 i + y.2 i * c i))
      h.accepted
      (some_both _ _ h.accepted (some_both _ _ h.accepted (held_there g.kept.queue place p (held t v h o g idle place p e)) g.terms) (stamped_each _ h.accepted given))

  -- the queue is still what the history tells
  queue_later : QueueGood next.queue later
  queue_later = queue_begin (queue_good v h g) place p (held t v h o g idle place p e) (is_next t v h o g idle place p e)

  -- one packet less of the flow waits
  waiting_less : (f : ℕ) → f < 16 → waiting_of next.queue f + bit (eqb flow f) ≡ waiting_of v.queue f
  waiting_less f b =
      omega (
        arith,
        waiting_told queue_later.kept f b,
        waiting_told g.kept.queue f b,
        waits_less g.kept.queue g.ordered place p (held t v h o g idle place p e) h.calls (λ f' n l s x. eqb f' f),
      )

  -- and one less in all
  all_less : waiting next.queue + 1 ≡ waiting v.queue
  all_less =
      let x = held t v h o g idle place p e in
      omega (arith, count_set is_held v.queue.packets place free_packet free_packet x.0, ap bit (ap is_held x.1 ∙ x.2))

  module _ (fits : passes_for t flow p.length ≡ false) where
    -- the finish of the node is the packet's
    node_finish : (reached node.finish (finish_for node p.length)).0 ≡ p.finish.0
    unfolding passes_for passes
    node_finish =
        let x = o.flows flow few in
        let within : (is_beyond (finish_for node p.length) || passes 4 t 0 p.length) ≡ false =
        rw (lt-leb 47 (node_of flow) (omega (arith, few)), x.parent) at fits in
        finish_reached node.finish node.start p.length node.weight (neither_told _ _ within).0
        ∙ (λ i. node_start t v h o g idle place p e i + p.length * charge_of (x.weight i))
        ∙ sym cost

    -- the flow's node then
    own_node : FlowNode next.queue later.accepted later.moments flow (begun_node p.length node)
    unfolding begun_of
    own_node =
        let x = o.flows flow few in
        let one_more_lem : suc p.number ≡ bit (eqb flow flow) + begun_of h.moments flow = omega (arith, is_next t v h o g idle place p e, ap bit (eqb_self flow)) in
        record {
          parent = x.parent;
          weight = x.weight;
          waiting = omega (arith, x.waiting, waiting_less flow few, ap bit (eqb_self flow));
          finish =
              node_finish ∙ sym (held_finish g.kept.queue place p (held t v h o g idle place p e) g.ordered)
              ∙ ap (finish_before h.accepted flow) one_more_lem;
          start = λ served w. absurd (true≢false (sym (eqb_self flow) ∙ served));
        }

    -- another flow's stays
    other_node : (f : ℕ) → f < 16 → (f ≡ flow → ⊥) → (y : Node) → FlowNode v.queue h.accepted h.moments f y
        → FlowNode next.queue later.accepted later.moments f y
    unfolding begun_of
    other_node f b n y z =
        let None = ap bit (ne_eqb flow f (λ q. n (sym q))) in
        let same : bit (eqb flow f) + begun_of h.moments f ≡ begun_of h.moments f = omega (arith, None) in
        flow_stays z next.queue later.accepted later.moments refl (omega (arith, waiting_less f b, None))
        (ap (finish_before h.accepted f) same) (λ i w. (none_served t v h o g idle place p e f, ap (start_noted h.accepted f) same))

    -- what the way up leaves
    begun_tree : begun_from t flow p.length ≡ stored t flow (begun_node p.length node) (begun_root (node_at t 0)) (begun_class node (class_at t 0))
    unfolding begun_from
    begun_tree =
        let x = begun_node p.length node in
        climb_one (begin_step p.length) begin_top t flow (omega (arith, few)) (o.flows flow few).parent (rw (root_stays t flow x) o.root)
        ∙ ap (λ (y : Node). with_node (with_times (with_node t (node_of flow) x) 0 (begun_class node (class_at t 0))) 0 (begun_root y)) (root_stays t flow x)

    -- so the lanes are alike then
    told_begun : Told (begun (beside t v) (at place (bare_packet p))) (with_queue p.start v.largest next) later
    told_begun =
        let start : node.start ≡ p.start = tag_same _ _ (node_start t v h o g idle place p e) in (
          ap (λ (s : Tag). Begun flow p.number p.length s) start,
          bare_begun v.queue place p,
          rw begun_tree
              (tree_stored o next.queue p.start v.largest later.accepted later.moments flow _ _ _ (omega (arith, few)) own_node other_node o.root
              (omega (arith, o.all, all_less)) start o.largest (λ f q. subst (λ (k : ℕ). k < 16) (eqb-true flow f q) few)),
        )

-- a begin
pub told_begin : (t : Tree) (v : Fair) (h : Packets) → TreeOf t v h → Good v h → AsGiven h → (refusal_in (begin_of (beside t v)).answer ≡ Some TagsUsedUp → ⊥)
    → Told (begin_of (beside t v)) (fair_begin v) (note_service h (fair_begin v).answer)
unfolding begin_of fair_begin begin_by first_of
told_begin t v h o g given fits = go v.queue.service.busy refl (chosen_by by_start v.queue) refl fits
  where
    -- the class lane's begin, with the packet that it chooses
    class_by : Bool → Choice Place → Done
    class_by busy c =
        unless (refused (beside t v)) (cond busy (Some PacketInService) (cond (is_none c) (Some NothingWaits) (cond (beyond (beside t v) c) (Some TagsUsedUp) None)))
        (begun (beside t v) c)

    -- and the fair lane's
    fair_by : Bool → Bool → Choice Place → FairDone
    fair_by busy none_waits c =
        fair_begun v (unless (refused_in v.queue) (cond busy (Some PacketInService) (cond none_waits (Some NothingWaits) None)) (begun_in v.queue c))

    -- the packet that both choose begins
    begins : (b : v.queue.service.busy ≡ false) (place : ℕ) (p : Place) → chosen_by by_start v.queue ≡ at place p
        → (past : Bool) → passes_for t (place_flow place) p.length ≡ past
        → (refusal_in (unless (refused (beside t v)) (cond past (Some TagsUsedUp) None) (begun (beside t v) (at place (bare_packet p)))).answer ≡ Some TagsUsedUp → ⊥)
        → Told (unless (refused (beside t v)) (cond past (Some TagsUsedUp) None) (begun (beside t v) (at place (bare_packet p)))) (fair_by false false (at place p))
        (note_service h (fair_by false false (at place p)).answer)
    begins b place p e true q n = absurd (n refl)
    begins b place p e false q n = told_begun t v h o g given b place p e q

    go : (busy : Bool) → v.queue.service.busy ≡ busy → (c : Choice Place) → chosen_by by_start v.queue ≡ c
        → (refusal_in (class_by busy (chosen (beside t v))).answer ≡ Some TagsUsedUp → ⊥)
        → Told (class_by busy (chosen (beside t v))) (fair_by busy (eqb (waiting v.queue) 0) c) (note_service h (fair_by busy (eqb (waiting v.queue) 0) c).answer)
    go true b c e n = (refl, refl, o)
    go false b nothing e n =
        rw (none_taken v.queue e (flow_met t), eq-eqb (waiting v.queue) 0 (none_held is_held (key_by by_start) free_packet refl v.queue.packets e)) (refl, refl, o)
    go false b (at place p) e n =
        subst (λ (w : Bool). Told (class_by false (chosen (beside t v))) (fair_by false w (at place p)) (note_service h (fair_by false w (at place p)).answer))
        (sym (ne_eqb (waiting v.queue) 0 (λ q. omega (arith, some_held is_held (key_by by_start) free_packet refl v.queue.packets place p e))))
        (subst
        (λ (c : Choice Place).
        (refusal_in (class_by false c).answer ≡ Some TagsUsedUp → ⊥)
        → Told (class_by false c) (fair_by false false (at place p)) (note_service h (fair_by false false (at place p)).answer))
        (sym (chosen_same t v h o g given b place p e)) (begins b place p e (passes_for t (place_flow place) p.length) refl) n)
