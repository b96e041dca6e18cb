-- A lane of one class and the fair lane after the same calls: the one's queue is the other's without its tags, and its tree is that of the fair
-- lane's packets. Here: both answer an opening alike, and a closing, and are alike then.
use mathlib.Core.Path.{◌≡◌, refl, sym, ap, ◌∙◌, subst}
use mathlib.Core.Bool.{false}
use mathlib.Core.List.{List}
use Rattle.std.proofs.Common.{Option, None, Some}
use Prim.Native.Nat.{ℕ, ◌≤◌, ◌<◌}
use native.Mathlib.Omega.{arith}
use borrow.Author.Tests.{ltb-false}
use lib.ListN.{length}
use lib.Seq.{get_or-set_same, get_or-set_other}
use Rattle.units.specs.Refusals.{Ground, first_of, unless}
use Rattle.units.specs.declared.Refusal.{Refusal}
use Rattle.units.proofs.Refusals.{NoneHolds, none_holds}
use Rattle.places.proofs.Stores.{set_keeps}
use Rattle.tags.specs.declared.Flow.{Flow}
use Rattle.tags.specs.Tags.{shut_flow}
use Rattle.tags.specs.Grounds.{opening_grounds, closing_grounds}
use Rattle.packets.specs.declared.Queue.{Queue}
use Rattle.packets.specs.Queue.{flow_at, waiting_of, busy_with}
use Rattle.packets.specs.Calls.{refused_flows, queue_with, opened as opened_in, closed as closed_in, open_of as open_in, close_of as close_in}
use Rattle.fair.specs.declared.Fair.{Fair}
use Rattle.fair.specs.declared.Done.{Done as FairDone}
use Rattle.fair.specs.Calls.{by_flows, open_of as fair_open, close_of as fair_close}
use Rattle.promises_queue.specs.Packets.{Packet, Moment, Packets, serving}
use Rattle.promises_queue.specs.Notes.{note_opening, note_closing}
use Rattle.promises_queue.specs.Promised.{begun_of}
use Rattle.promises_fair.proofs.Tags.{start_noted, finish_before}
use Rattle.promises_fair.proofs.Good.{Good}
use Rattle.promises_fair.proofs.Stamped.{AsGiven}
use Rattle.tree.specs.declared.Node.{Node}
use Rattle.tree.specs.declared.Tree.{Tree}
use Rattle.tree.specs.Tree.{node_of, node_at, class_at}
use Rattle.tree.specs.Steps.{weighed_node}
use Rattle.classes.specs.declared.Classes.{Classes}
use Rattle.classes.specs.declared.Done.{Done}
use Rattle.classes.specs.Calls.{refused, opened, closed, close_grounds, open_of, close_of}
use Rattle.one_class.specs.OneClass.{as_class}
use Rattle.one_class.proofs.OneQueue.{bare, bare_flow_lem, bare_waiting, bare_opened, bare_closed}
use Rattle.one_class.proofs.OneTree.{FlowNode, OneTree, node_stored, tree_stored}

-- the tree is that of the fair lane's packets
abbrev pub TreeOf : Tree → Fair → Packets → Type 0
TreeOf t v h = OneTree t v.queue v.time v.largest h.accepted h.moments

-- the lanes are alike after the same calls, of which the history tells
pub record Alike (u : Classes) (v : Fair) (h : Packets) : Type 0 where
  pub queue : u.queue ≡ bare v.queue
  pub tree : TreeOf u.tree v h
  pub good : Good v h
  pub given : AsGiven h

-- a call is answered alike, and leaves the queue without its tags and the tree
abbrev pub Told : Done → FairDone → Packets → Type 0
Told d e h = (d.answer ≡ as_class e.answer) × (d.lane.queue ≡ bare e.lane.queue) × TreeOf d.lane.tree e.lane h

-- the lane of one class with this tree beside a fair lane
abbrev pub beside : Tree → Fair → Classes
beside t v = record { tree = t; queue = bare v.queue }

-- two calls of which the same refuses each: what holds of every refusal of both, and where no ground holds of the second's
pub by_grounds : (P : Option Refusal → Option Refusal → Type 0) (r : Option Refusal) (gs : List Ground) → r ≡ first_of gs
    → ((r : Refusal) → P (Some r) (Some r)) → (NoneHolds gs → P None None) → P r (first_of gs)
by_grounds P r gs e no_way ok = subst (λ (x : Option Refusal). P x (first_of gs)) (sym e) (go (first_of gs) refl)
  where
    go : (x : Option Refusal) → first_of gs ≡ x → P x x
    go None e = ok (none_holds gs e)
    go (Some r) e = no_way r

-- a flow's node where the call changed nothing of what it tells
pub flow_stays : {q : Queue} {ps : List Packet} {ms : List Moment} {g : ℕ} {y : Node} → FlowNode q ps ms g y
    → (q' : Queue) (ps' : List Packet) (ms' : List Moment) → (flow_at q' g).weight ≡ (flow_at q g).weight → waiting_of q' g ≡ waiting_of q g
    → finish_before ps' g (begun_of ms' g) ≡ finish_before ps g (begun_of ms g)
    → (serving ms' g ≡ false → 0 < waiting_of q g → (serving ms g ≡ false) × (start_noted ps' g (begun_of ms' g) ≡ start_noted ps g (begun_of ms g)))
    → FlowNode q' ps' ms' g y
flow_stays n q' ps' ms' weight waiting finish start =
    record {
      parent = n.parent;
      weight = n.weight ∙ sym weight;
      waiting = n.waiting ∙ sym waiting;
      finish = n.finish ∙ sym finish;
      start = λ idle w.
          let s = start idle (omega (arith, waiting)) in
          n.start s.0 (omega (arith, waiting)) ∙ sym s.1;
    }

module _ (t : Tree) (v : Fair) (h : Packets) (o : TreeOf t v h) (sixteen : length v.queue.flows ≡ 16) where
  -- an opening
  pub told_open : (flow weight : ℕ) → Told (open_of (beside t v) flow weight) (fair_open v flow weight) (note_opening h flow weight (fair_open v flow weight).answer)
  unfolding open_of fair_open open_in
  told_open flow weight =
      by_grounds
      (λ (r s : Option Refusal).
      let e = by_flows v (unless (refused_flows v.queue) s (opened_in v.queue flow weight)) in
      Told (unless (refused (beside t v)) r (opened (beside t v) flow weight)) e (note_opening h flow weight e.answer))
      _ (opening_grounds flow weight (flow_at v.queue flow)) (ap (λ (x : Flow). first_of (opening_grounds flow weight x)) (bare_flow_lem v.queue flow))
      (λ r. (refl, refl, o)) (λ n. go (ltb-false 15 flow n.0))
    where
      go : flow ≤ 15 → Told (opened (beside t v) flow weight) (by_flows v (opened_in v.queue flow weight)) h
      go low =
          let x = o.flows flow (omega arith) in
          let q' = queue_with v.queue (opened_in v.queue flow weight) in (
            refl,
            bare_opened v.queue flow weight,
            rw (node_stored t flow (weighed_node weight (node_at t (node_of flow))))
                (tree_stored o q' v.time v.largest h.accepted h.moments flow _ _ (class_at t 0) low
                (record {
                  parent = x.parent;
                  weight = ap (λ (y : Flow). y.weight) (sym (get_or-set_same v.queue.flows flow _ shut_flow (omega (arith, sixteen))));
                  waiting = x.waiting;
                  finish = x.finish;
                  start = x.start;
                })
                (λ g b n y z. flow_stays z q' h.accepted h.moments (ap (λ (y : Flow). y.weight) (get_or-set_other v.queue.flows flow g _ shut_flow n)) refl refl (λ i w. (i, refl)))
                o.root o.all o.time o.largest o.served),
          )

  -- a closing
  pub told_close : (flow : ℕ) → Told (close_of (beside t v) flow) (fair_close v flow) (note_closing h flow (fair_close v flow).answer)
  unfolding close_of fair_close close_in
  told_close flow =
      by_grounds
      (λ (r s : Option Refusal).
      let e = by_flows v (unless (refused_flows v.queue) s (closed_in v.queue flow)) in
      Told (unless (refused (beside t v)) r (closed (beside t v) flow)) e (note_closing h flow e.answer))
      (first_of (close_grounds (beside t v) flow)) (closing_grounds flow (flow_at v.queue flow) (waiting_of v.queue flow) (busy_with v.queue.service flow))
      (rw (bare_flow_lem v.queue flow, bare_waiting v.queue flow)) (λ r. (refl, refl, o)) (λ n. go (ltb-false 15 flow n.0))
    where
      go : flow ≤ 15 → Told (closed (beside t v) flow) (by_flows v (closed_in v.queue flow)) h
      go low = (
        refl,
        bare_closed v.queue flow,
        record {
          nodes = o.nodes;
          classes = o.classes;
          root = o.root;
          all = o.all;
          spare = o.spare;
          time = o.time;
          largest = o.largest;
          served = o.served;
          flows = λ g b.
              flow_stays (o.flows g b) (queue_with v.queue (closed_in v.queue flow)) h.accepted h.moments
              (set_keeps v.queue.flows flow _ shut_flow (omega (arith, sixteen)) (λ (y : Flow). y.weight) refl g) refl refl (λ i w. (i, refl));
        },
      )
