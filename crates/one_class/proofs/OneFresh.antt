-- The tree of a description of one class is that of a fair lane before any call: every flow hangs from the root, since there is no other class.
use mathlib.Core.Path.{◌≡◌, refl, sym, ap, ◌∙◌}
use mathlib.Core.Bool.{Bool, true, false, cond, false≢true}
use mathlib.Core.List.{[]}
use Prim.Native.Nat.{ℕ, ◌<◌}
use native.Mathlib.Omega.{arith}
use borrow.Author.Tests.{lt-leb}
use lib.Dec.{leb, eqb}
use lib.ListN.{get_or-replicate}
use Rattle.places.specs.Places.{count}
use Rattle.tags.specs.declared.Flow.{Flow}
use Rattle.tags.specs.Tags.{shut_flow}
use Rattle.packets.specs.Queue.{fresh_queue}
use Rattle.promises_queue.specs.Promised.{begun_of}
use Rattle.promises_queue.proofs.Kept.{waiting_told}
use Rattle.promises_queue.proofs.Good.{queue_fresh}
use Rattle.promises_fair.proofs.Tags.{start_noted}
use Rattle.plans.specs.declared.Plan.{Plan}
use Rattle.plans.specs.Numbered.{list_from}
use Rattle.plans.specs.Plans.{parent_in, weight_in, Fits}
use Rattle.tree.specs.declared.Node.{Node}
use Rattle.tree.specs.Tree.{no_tag, no_node, no_parent, new_node, class_node, flow_node, tree_of}
use Rattle.tree.proofs.Described.{class_node_lem, flow_node_lem}
use Rattle.one_class.proofs.OneTree.{FlowNode, OneTree}

module _ (p : Plan) where
  -- nothing waits below a class
  none_below : (k : ℕ) → (class_node p k).waiting ≡ 0
  none_below k = go (leb p.count k)
    where
      go : (b : Bool) → (cond b no_node (new_node (cond (eqb k 0) no_parent (parent_in p k)) (weight_in p k))).waiting ≡ 0
      go true = refl
      go false = refl

  -- before any call
  pub tree_fresh : Fits p → p.count ≡ 1 → OneTree (tree_of p) fresh_queue no_tag no_tag [] []
  unfolding tree_of list_from count begun_of start_noted
  tree_fresh fits one =
      record {
        nodes = refl;
        classes = refl;
        root = rw (lt-leb p.count 0 (omega (arith, one)));
        all = none_below 0;
        spare = λ k a b. ap (λ (x : Node). x.waiting) (class_node_lem p k b) ∙ none_below k;
        time = refl;
        largest = refl;
        flows = λ f b. rw (flow_node_lem p f b) (flow f b);
        served = λ f e. absurd (false≢true e);
      }
    where
      flow : (f : ℕ) → f < 16 → FlowNode fresh_queue [] [] f (flow_node p f)
      flow f b =
          record {
            parent = omega (arith, fits.named f b, one);
            weight = ap (λ (x : Flow). x.weight) (sym (get_or-replicate 16 f shut_flow shut_flow b));
            waiting = sym (waiting_told queue_fresh.kept f b);
            finish = refl;
            start = λ idle w. refl;
          }
