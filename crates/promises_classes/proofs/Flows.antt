-- An opening and a closing that are not refused keep the tree: an opening gives the flow its weight, and a closing changes nothing.
use mathlib.Core.Path.{◌≡◌, refl, sym, ◌∙◌, ap}
use mathlib.Core.Bool.{Bool, true, false, cond}
use mathlib.Core.List.{◌∷◌}
use Prim.Native.Nat.{ℕ, ◌<◌}
use native.Mathlib.Omega.{arith}
use borrow.Author.Tests.{eqb-true, eqb-false}
use lib.Dec.{eqb}
use lib.ListN.{get_or, set}
use lib.Seq.{get_or-set_same, get_or-set_other}
use Rattle.places.specs.Marks.{in_force}
use Rattle.places.proofs.Stores.{set_keeps}
use Rattle.plans.specs.declared.Plan.{Plan}
use Rattle.plans.specs.Plans.{Fits}
use Rattle.tree.specs.declared.Node.{Node}
use Rattle.tree.specs.declared.Tree.{Tree}
use Rattle.tree.specs.Tree.{no_node, node_of, node_at}
use Rattle.tree.specs.Steps.{weighed_node}
use Rattle.classes.specs.declared.Classes.{Classes}
use Rattle.classes.specs.Calls.{opened, closed}
use Rattle.promises_classes.specs.Events.{History, packets_in}
use Rattle.promises_classes.specs.Events.{opened as was_opened, closed as was_closed}
use Rattle.promises_classes.specs.Rules.{Child, a_class, a_flow}
use Rattle.promises_classes.specs.Views.{weight_of, seen}
use Rattle.promises_classes.specs.Promised.{place_of, waiting_below}
use Rattle.promises_classes.proofs.Climbs.{stored_agrees}
use Rattle.promises_classes.proofs.Counts.{open_waiting, close_waiting, sum_same}
use Rattle.promises_classes.proofs.Kept.{Weighs, TreeKept}

-- an opening leaves what waits below a child
open_sum : (p : Plan) (h : History) (f weight : ℕ) (x : Child) → waiting_below p (was_opened f weight ∷ h) x ≡ waiting_below p h x
open_sum p h f weight x = sum_same p x h (was_opened f weight ∷ h) (open_waiting h f weight) 0 16

-- and so does a closing
close_sum : (p : Plan) (h : History) (f : ℕ) (x : Child) → waiting_below p (was_closed f ∷ h) x ≡ waiting_below p h x
close_sum p h f x = sum_same p x h (was_closed f ∷ h) (close_waiting h f) 0 16

module _ (p : Plan) (ok : Fits p) (u : Classes) (h : History) (k : TreeKept p u h) (f weight : ℕ) (low : f < 16) where
  -- the tree before an opening
  abbrev was : Tree
  was = u.tree

  -- and after it
  abbrev left : Tree
  left = (opened u f weight).lane.tree

  -- the flow's node with its weight
  abbrev given : Node
  given = weighed_node weight (node_at was (node_of f))

  -- every field but the weight stays
  field_kept : {B : Type 0} (field : Node → B) → field given ≡ field (node_at was (node_of f)) → (j : ℕ) → field (node_at left j) ≡ field (node_at was j)
  field_kept field e j = set_keeps was.nodes (node_of f) given no_node (omega (arith, low, k.agrees.long)) field e j

  -- the flow has the weight of its newest opening, and the other weights stay
  weighs_after : Weighs p left (was_opened f weight ∷ h)
  unfolding packets_in in_force
  weighs_after (a_class j) s =
      ap (λ z. z.weight) (get_or-set_other was.nodes (node_of f) j given no_node (λ e. omega (arith, e, s.1, ok.few))) ∙ k.weighs (a_class j) s
  weighs_after (a_flow g) s = go (eqb f g) refl
    where
      go : (b : Bool) → eqb f g ≡ b
          → (get_or (set was.nodes (node_of f) given) (node_of g) no_node).weight ≡ cond b weight (in_force (packets_in h).marks g)
      go true q =
          rw (sym (eqb-true f g q))
          (ap (λ z. z.weight) (get_or-set_same was.nodes (node_of f) given no_node (omega (arith, low, k.agrees.long))))
      go false q =
          let n : f ≡ g → ⊥ = eqb-false f g q in
          ap (λ z. z.weight) (get_or-set_other was.nodes (node_of f) (node_of g) given no_node (λ e. n (omega (arith, e))))
          ∙ k.weighs (a_flow g) s

  -- an opening keeps the tree
  pub open_kept : TreeKept p (opened u f weight).lane (was_opened f weight ∷ h)
  unfolding seen
  open_kept =
      record {
        agrees = stored_agrees p was left (node_of f) given (omega (arith, low)) refl k.agrees refl refl;
        weighs = weighs_after;
        counts = λ x s. field_kept (λ z. z.waiting) refl (place_of x) ∙ k.counts x s ∙ sym (open_sum p h f weight x);
        root_count = field_kept (λ z. z.waiting) refl 0 ∙ k.root_count ∙ sym (open_sum p h f weight (a_class 0));
        idle = λ j a b. field_kept (λ z. z.waiting) refl j ∙ k.idle j a b;
        fair = λ c l.
            record {
              time = (k.fair c l).time;
              largest = (k.fair c l).largest;
              starts = λ x g. field_kept (λ z. z.start.0) refl (place_of x) ∙ (k.fair c l).starts x g;
              finishes = λ x g. field_kept (λ z. z.finish.0) refl (place_of x) ∙ (k.fair c l).finishes x g;
            };
      }

-- a closing keeps the tree
pub close_kept : (p : Plan) (u : Classes) (h : History) → TreeKept p u h → (f : ℕ) → TreeKept p (closed u f).lane (was_closed f ∷ h)
unfolding seen packets_in in_force
close_kept p u h k f =
    record {
      agrees = k.agrees;
      weighs = λ x s. k.weighs x s ∙ same_weight x;
      counts = λ x s. k.counts x s ∙ sym (close_sum p h f x);
      root_count = k.root_count ∙ sym (close_sum p h f (a_class 0));
      idle = k.idle;
      fair = λ c l.
          record { time = (k.fair c l).time; largest = (k.fair c l).largest; starts = (k.fair c l).starts; finishes = (k.fair c l).finishes };
    }
  where
    same_weight : (x : Child) → weight_of p h x ≡ weight_of p (was_closed f ∷ h) x
    same_weight (a_class j) = refl
    same_weight (a_flow g) = refl
