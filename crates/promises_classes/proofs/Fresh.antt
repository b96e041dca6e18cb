-- The tree that a plan describes is kept before any call.
use mathlib.Core.Path.{◌≡◌, refl, sym, ◌∙◌, ap}
use mathlib.Core.Bool.{Bool, true, false, cond}
use mathlib.Core.List.{[]}
use Prim.Native.Nat.{ℕ}
use native.Mathlib.Omega.{arith}
use borrow.Author.Tests.{ne_eqb, lt-leb}
use lib.Dec.{eqb, leb}
use lib.ListN.{length-replicate, get_or-replicate}
use Rattle.places.specs.Marks.{in_force}
use Rattle.plans.specs.declared.Plan.{Plan}
use Rattle.plans.specs.Plans.{parent_in, weight_in, Fits}
use Rattle.tree.specs.declared.Node.{Node}
use Rattle.tree.specs.Tree.{no_node, no_times, no_parent, node_at, new_node, class_node, flow_node, tree_of}
use Rattle.tree.proofs.Described.{node_count, class_node_lem, flow_node_lem}
use Rattle.classes.specs.Lane.{lane_of}
use Rattle.promises_classes.specs.Events.{packets_in}
use Rattle.promises_classes.specs.Rules.{Child, a_class, a_flow, start_tag}
use Rattle.promises_classes.specs.Views.{parent_of, weight_of, seen}
use Rattle.promises_classes.specs.Promised.{place_of, waiting_below}
use Rattle.promises_classes.proofs.Ways.{Sound, hangs_sound}
use Rattle.promises_classes.proofs.Counts.{sum_none}
use Rattle.promises_classes.proofs.Kept.{TreeKept}

module _ (p : Plan) (ok : Fits p) where
  -- the node of a child before any call
  abbrev node_for : Child → Node
  node_for (a_class j) = class_node p j
  node_for (a_flow f) = flow_node p f

  -- it is the one in the tree
  node : (x : Child) → Sound p x → node_at (tree_of p) (place_of x) ≡ node_for x
  node (a_class j) s = class_node_lem p j (omega (arith, s.1, ok.few))
  node (a_flow f) s = flow_node_lem p f s.0

  -- whatever a new node and no node have in common, that of a class has
  blank : {B : Type 0} (field : Node → B) (v : B) → field no_node ≡ v → ((parent weight : ℕ) → field (new_node parent weight) ≡ v) → (j : ℕ) → field (class_node p j) ≡ v
  blank field v a b j = go (leb p.count j)
    where
      go : (t : Bool) → field (cond t no_node (new_node (cond (eqb j 0) no_parent (parent_in p j)) (weight_in p j))) ≡ v
      go true = a
      go false = b (cond (eqb j 0) no_parent (parent_in p j)) (weight_in p j)

  -- and that of any child
  blank_for : {B : Type 0} (field : Node → B) (v : B) → field no_node ≡ v → ((parent weight : ℕ) → field (new_node parent weight) ≡ v) → (x : Child) → field (node_for x) ≡ v
  blank_for field v a b (a_class j) = blank field v a b j
  blank_for field v a b (a_flow f) = b (parent_of p (a_flow f)) 0

  -- it hangs from where the plan says
  parent_is : (x : Child) → Sound p x → (node_for x).parent ≡ parent_of p x
  parent_is (a_class j) s = rw (lt-leb p.count j s.1, ne_eqb j 0 (λ e. omega (arith, e, s.0)))
  parent_is (a_flow f) s = refl

  -- it has the weight in force, a flow that of none
  weight_is : (x : Child) → Sound p x → (node_for x).weight ≡ weight_of p [] x
  unfolding packets_in in_force
  weight_is (a_class j) s = rw (lt-leb p.count j s.1)
  weight_is (a_flow f) s = refl

  -- nothing waits below it
  no_sum : (x : Child) → 0 ≡ waiting_below p [] x
  no_sum x = sym (sum_none p x 0 16)

  -- the tree before any call
  pub tree_fresh : TreeKept p (lane_of p) []
  unfolding seen start_tag tree_of
  tree_fresh =
      record {
        agrees =
            record {
              root = ap (λ z. z.parent) (class_node_lem p 0 (omega arith)) ∙ rw (lt-leb p.count 0 (omega (arith, ok.rooted)));
              parents = λ x s. ap (λ z. z.parent) (node x s) ∙ parent_is x s;
              long = node_count p;
              wide = length-replicate 31 no_times;
            };
        weighs = λ x s. ap (λ z. z.weight) (node x s) ∙ weight_is x s;
        counts = λ x s. ap (λ z. z.waiting) (node x s) ∙ blank_for (λ z. z.waiting) 0 refl (λ a b. refl) x ∙ no_sum x;
        root_count = ap (λ z. z.waiting) (class_node_lem p 0 (omega arith)) ∙ blank (λ z. z.waiting) 0 refl (λ a b. refl) 0 ∙ no_sum (a_class 0);
        idle = λ j a b. ap (λ z. z.waiting) (class_node_lem p j b) ∙ blank (λ z. z.waiting) 0 refl (λ a b. refl) j;
        fair = λ c l.
            record {
              time = ap (λ z. z.time.0) (get_or-replicate 31 c no_times no_times (omega (arith, l, ok.few)));
              largest = ap (λ z. z.largest.0) (get_or-replicate 31 c no_times no_times (omega (arith, l, ok.few)));
              starts = λ x g. ap (λ z. z.start.0) (node x (hangs_sound p c x g)) ∙ blank_for (λ z. z.start.0) 0 refl (λ a b. refl) x;
              finishes = λ x g. ap (λ z. z.finish.0) (node x (hangs_sound p c x g)) ∙ blank_for (λ z. z.finish.0) 0 refl (λ a b. refl) x;
            };
      }
