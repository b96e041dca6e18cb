-- Both lanes answer an offer alike, and are alike then, where the fair lane does not answer it 6: the packet gets the flow's next number in
-- both. Where nothing of the flow waits, its node starts where the packet does: the flow's last packet is the one last begun, so that both are
-- told the same finish. Where something waits, the first packet that waits is the same as before, and the node stays.
use mathlib.Core.Path.{◌≡◌, refl, sym, ap, ◌∙◌, subst}
use mathlib.Core.Bool.{Bool, true, false, cond, true≢false}
use Rattle.std.proofs.Common.{Option, None, Some}
use Rattle.std.specs.Option.{is_none}
use Prim.Native.Nat.{ℕ, ◌+◌, ◌≤◌, ◌<◌}
use native.Mathlib.Omega.{arith}
use borrow.Author.Tests.{eqb-true, eqb-false, ne_eqb, le-ltb, ltb-false, leb-false, not-false}
use lib.Dec.{eqb}
use lib.Seq.{get_or-set_same, get_or-set_other}
use Rattle.units.specs.Limits.{tag_limit}
use Rattle.units.specs.Refusals.{first_of, unless}
use Rattle.units.specs.declared.Refusal.{Refusal}
use Rattle.units.specs.declared.Refusal.TheVariants.{TagsUsedUp}
use Rattle.units.proofs.Refusals.{NoneHolds, first_plus}
use Rattle.places.specs.Places.{bit, count}
use Rattle.places.proofs.Count.{count_le_length}
use Rattle.places.proofs.Tests.{and_holds, eqb_self}
use Rattle.tags.specs.declared.Flow.{Flow}
use Rattle.tags.specs.Tags.{is_held, shut_flow, later_of}
use Rattle.tags.specs.Grounds.{waiting_grounds}
use Rattle.tags.proofs.Tags.{tag_same}
use Rattle.packets.specs.declared.Quote.{Quote}
use Rattle.packets.specs.Kept.{Kept}
use Rattle.packets.specs.Answers.{refusal_in as fair_refusal}
use Rattle.packets.specs.Queue.{flow_at, waiting_of, waiting}
use Rattle.packets.specs.Quotes.{quote_of}
use Rattle.packets.specs.Calls.{refused as refused_in, placed, placed_by, put_grounds, put_of}
use Rattle.packets.proofs.Quotes.{fitting, quote_told, quoted_first}
use Rattle.fair.specs.declared.Fair.{Fair}
use Rattle.fair.specs.Calls.{with_queue, by_queue, offer_of as fair_offer}
use Rattle.fair.proofs.Refused.{refused_first}
use Rattle.promises_queue.specs.Packets.{Packet, Packets, serving}
use Rattle.promises_queue.specs.Notes.{note_offer}
use Rattle.promises_queue.specs.Promised.{begun_of}
use Rattle.promises_queue.proofs.Kept.{not_begun, begun_below, waiting_told, waiting_all}
use Rattle.promises_queue.proofs.Put.{new_packet}
use Rattle.promises_queue.proofs.Good.{QueueGood, queue_put}
use Rattle.promises_fair.proofs.Tags.{start_noted, finish_before, start_stays, before_stays, head_start, last_is}
use Rattle.promises_fair.proofs.Next.{next_accepted, all_begun}
use Rattle.promises_fair.proofs.Good.{Good, queue_good}
use Rattle.tree.specs.declared.Node.{Node}
use Rattle.tree.specs.declared.Tree.{Tree}
use Rattle.tree.specs.Tree.{node_of, node_at, class_at, with_node}
use Rattle.tree.specs.Steps.{offered_node, offered_root}
use Rattle.ascent.specs.Ascent.{offer_step, offer_top, offered_to}
use Rattle.classes.specs.declared.Answer.TheVariants.{Taken}
use Rattle.classes.specs.Calls.{refused, taken, offer_grounds, offer_of}
use Rattle.one_class.proofs.OneQueue.{bare_flow_lem, bare_waiting, bare_placed}
use Rattle.one_class.proofs.OneTree.{FlowNode, climb_one, root_stays, stored, both_stored, tree_stored}
use Rattle.one_class.proofs.OneFlows.{TreeOf, Told, beside, by_grounds, flow_stays}

module _
    (t : Tree)
    (v : Fair)
    (h : Packets)
    (o : TreeOf t v h)
    (g : Good v h)
    (flow bytes : ℕ)
    (low : flow ≤ 15)
    (isOpen : (flow_at v.queue flow).opened ≡ true)
    (room : waiting_of v.queue flow < 16)
    (few : (flow_at v.queue flow).next ≤ tag_limit) where
  -- the tags that the fair lane gives the packet
  abbrev stamp : Quote
  stamp = fitting (flow_at v.queue flow) v.time bytes

  -- what putting the packet gives
  abbrev put : Kept
  put = placed v.queue flow bytes stamp

  -- the history then
  abbrev later : Packets
  later = note_offer h flow bytes put.answer

  -- the packet, as the history has it
  abbrev new : Packet
  new = new_packet v.queue h.marks flow bytes stamp h.calls

  -- the queue is still what the history tells
  queue_later : QueueGood put.queue later
  queue_later = queue_put (queue_good v h g) flow bytes stamp low isOpen room few

  -- the packet waits
  new_waits : not_begun h.moments new ≡ true
  new_waits =
      rw (
        begun_below h.moments g.ordered.in_order flow new.number,
        le-ltb new.number (begun_of h.moments flow) (omega (arith, g.kept.queue.next flow (omega arith), g.ordered.begun flow)),
      )

  -- one packet more of the flow waits
  waiting_more : (f : ℕ) → f < 16 → waiting_of put.queue f ≡ bit (eqb flow f) + waiting_of v.queue f
  unfolding count
  waiting_more f b =
      omega (
        arith,
        waiting_told queue_later.kept f b,
        ap bit (and_holds (eqb flow f) (not_begun h.moments new) new_waits),
        waiting_told g.kept.queue f b,
      )

  -- and one more in all
  all_more : waiting put.queue ≡ 1 + waiting v.queue
  unfolding count
  all_more = omega (arith, waiting_all queue_later.kept, ap bit new_waits, waiting_all g.kept.queue)

  -- the start of a flow's next packet stays, where one waits
  next_stays : (f : ℕ) → f < 16 → 0 < waiting_of v.queue f
      → start_noted later.accepted f (begun_of h.moments f) ≡ start_noted h.accepted f (begun_of h.moments f)
  next_stays f b w = start_stays f (begun_of h.moments f) new h.accepted queue_later.ordered.numbered (next_accepted g.kept.queue g.ordered f b w)

  -- and where the packet before it finishes
  before_next : (f : ℕ) → finish_before later.accepted f (begun_of h.moments f) ≡ finish_before h.accepted f (begun_of h.moments f)
  before_next f = before_stays f (begun_of h.moments f) new h.accepted queue_later.ordered.numbered (g.ordered.begun f)

  -- the flow's node then
  own_node : FlowNode put.queue later.accepted h.moments flow (offered_node (class_at t 0).time (node_at t (node_of flow)))
  own_node =
      record {
        parent = x.parent;
        weight = x.weight ∙ ap (λ (y : Flow). y.weight) (sym (get_or-set_same v.queue.flows flow _ shut_flow (omega (arith, g.kept.queue.sixteen))));
        waiting = omega (arith, x.waiting, waiting_more flow (omega arith), ap bit (eqb_self flow));
        finish = x.finish ∙ sym (before_next flow);
        start = λ idle w. go (eqb (node_at t (node_of flow)).waiting 0) refl idle;
      }
    where
      x : FlowNode v.queue h.accepted h.moments flow (node_at t (node_of flow))
      x = o.flows flow (omega arith)

      -- the finish that the node has is the flow's last, where nothing waits
      same : waiting_of v.queue flow ≡ 0 → (node_at t (node_of flow)).finish ≡ (flow_at v.queue flow).finish
      same w =
          tag_same _ _
          (x.finish
          ∙ ap (finish_before h.accepted flow) (all_begun g.kept.queue g.ordered flow (omega arith) w)
          ∙ sym (last_is flow h.accepted g.ordered.numbered)
          ∙ sym (g.kept.finishes flow (omega arith)))

      go : (b : Bool) → eqb (node_at t (node_of flow)).waiting 0 ≡ b → serving h.moments flow ≡ false
          → (cond b (later_of (class_at t 0).time (node_at t (node_of flow)).finish) (node_at t (node_of flow)).start).0
          ≡ start_noted later.accepted flow (begun_of h.moments flow)
      go true e idle =
          let w : waiting_of v.queue flow ≡ 0 = sym x.waiting ∙ eqb-true (node_at t (node_of flow)).waiting 0 e in
          rw (o.time, same w, all_begun g.kept.queue g.ordered flow (omega arith) w)
          (sym (head_start flow new h.accepted queue_later.ordered.numbered refl))
      go false e idle =
          let w : 0 < waiting_of v.queue flow = omega (arith, x.waiting, eqb-false (node_at t (node_of flow)).waiting 0 e) in
          x.start idle w ∙ sym (next_stays flow (omega arith) w)

  -- another flow's stays
  other_node : (f : ℕ) → f < 16 → (f ≡ flow → ⊥) → (y : Node) → FlowNode v.queue h.accepted h.moments f y
      → FlowNode put.queue later.accepted h.moments f y
  other_node f b n y z =
      flow_stays z put.queue later.accepted h.moments (ap (λ (y : Flow). y.weight) (get_or-set_other v.queue.flows flow f _ shut_flow n))
      (omega (arith, waiting_more f b, ap bit (ne_eqb flow f (λ e. n (sym e))))) (before_next f) (λ i w. (i, next_stays f b w))

  -- what the way up leaves
  offered_tree : offered_to t flow ≡ stored t flow (offered_node (class_at t 0).time (node_at t (node_of flow))) (offered_root (node_at t 0)) (class_at t 0)
  unfolding offered_to
  offered_tree =
      let x = offered_node (class_at t 0).time (node_at t (node_of flow)) in
      climb_one offer_step offer_top t flow low (o.flows flow (omega arith)).parent (rw (root_stays t flow x) o.root)
      ∙ ap (λ (y : Node). with_node (with_node t (node_of flow) x) 0 (offered_root y)) (root_stays t flow x)
      ∙ both_stored t flow x (offered_root (node_at t 0))

  -- so the lanes are alike then
  told_taken : Told (taken (beside t v) flow bytes) (with_queue v.time v.largest put) later
  told_taken = (
    ap (λ (y : Flow). Taken y.next) (bare_flow_lem v.queue flow),
    bare_placed v.queue flow bytes stamp,
    rw offered_tree
        (tree_stored o put.queue v.time v.largest later.accepted h.moments flow _ _ _ low own_node other_node o.root
        (omega (arith, o.all, all_more, g.kept.queue.long, count_le_length is_held v.queue.packets)) o.time o.largest o.served),
  )

-- an offer
pub told_offer : (t : Tree) (v : Fair) (h : Packets) → TreeOf t v h → Good v h → (flow bytes : ℕ) → (fair_refusal (fair_offer v flow bytes).answer ≡ Some TagsUsedUp → ⊥)
    → Told (offer_of (beside t v) flow bytes) (fair_offer v flow bytes) (note_offer h flow bytes (fair_offer v flow bytes).answer)
unfolding offer_of fair_offer put_of
told_offer t v h o g flow bytes fits =
    by_grounds
    (λ (r s : Option Refusal).
    let e = by_queue v v.time v.largest (unless (refused_in v.queue) s (placed_by v.queue flow bytes quote)) in
    Told (unless (refused (beside t v)) r (taken (beside t v) flow bytes)) e (note_offer h flow bytes e.answer))
    (first_of (offer_grounds (beside t v) flow bytes)) (put_grounds v.queue flow bytes quote) same (λ r. (refl, refl, o)) go
  where
    quote : Option Quote
    quote = quote_of (flow_at v.queue flow) v.time bytes

    same : first_of (offer_grounds (beside t v) flow bytes) ≡ first_of (put_grounds v.queue flow bytes quote)
    same =
        rw (bare_flow_lem v.queue flow, bare_waiting v.queue flow)
        (first_plus TagsUsedUp _ (waiting_grounds flow (flow_at v.queue flow) (waiting_of v.queue flow) bytes)
        (λ e. fits ((refused_first v).offering flow bytes ∙ sym (quoted_first v.queue flow v.time bytes) ∙ e)))

    -- what a packet with this quote leaves in both lanes
    Both : Option Quote → Type 0
    Both x =
        let e = by_queue v v.time v.largest (placed_by v.queue flow bytes x) in
        Told (taken (beside t v) flow bytes) e (note_offer h flow bytes e.answer)

    by_quote : NoneHolds (put_grounds v.queue flow bytes quote) → (x : Option Quote) → quote ≡ x → is_none x ≡ false → Both x
    by_quote n None e p = absurd (true≢false p)
    by_quote n (Some x) e p =
        let told = quote_told (flow_at v.queue flow) v.time bytes n.1.1.0 x e in
        subst (λ (y : Quote). Both (Some y)) (sym told.2)
        (told_taken t v h o g flow bytes (ltb-false 15 flow n.0) (not-false (flow_at v.queue flow).opened n.1.0) (leb-false 16 (waiting_of v.queue flow) n.1.1.1.0)
        (ltb-false _ _ told.1))

    go : NoneHolds (put_grounds v.queue flow bytes quote) → Both quote
    go n = by_quote n quote refl n.1.1.1.1.0
