-- What an offer, a begin and an end do at each step of their way up, and at the root.
use mathlib.Core.Path.{◌≡◌, refl}
use Prim.Native.Nat.{ℕ}
use native.Mathlib.Omega.{arith}
use lib.ListN.{length-set}
use lib.Seq.{get_or-set_same, get_or-set_other}
use Rattle.tree.specs.declared.Node.{Node}
use Rattle.tree.specs.Tree.{no_node, no_times, node_at, class_at, with_node}
use Rattle.tree.specs.Steps.{offered_node, offered_root, begun_node, begun_root, begun_class, ended_node, ended_class}
use Rattle.ascent.specs.Ascent.{offer_step, offer_top, begin_step, begin_top, end_step, end_top}
use Rattle.promises_classes.proofs.Climbs.{Stepping, Topping}

-- the root's node written, with the parent that it had
stores_root : (root : Node → Node) → ((x : Node) → (root x).parent ≡ x.parent) → Topping (λ t k. with_node t k (root (node_at t k))) root
stores_root root e =
    record {
      node = λ t l. get_or-set_same t.nodes 0 (root (node_at t 0)) no_node l;
      parent = e;
      others = λ t j l. get_or-set_other t.nodes 0 j (root (node_at t 0)) no_node (λ q. omega (arith, l, q));
      long = λ t. length-set t.nodes 0 (root (node_at t 0));
      classes = λ t. refl;
    }

-- an offer writes the child's node by the time of the class above it, and no times
pub offer_steps : Stepping offer_step (λ c x. offered_node c.time x) (λ x up c. c)
offer_steps =
    record {
      nodes = λ t k up. refl;
      parent = λ c x. refl;
      above = λ t k up l. refl;
      others = λ t k up c n. refl;
      wide = λ t k up. refl;
    }

-- and at the root its count
pub offer_tops : Topping offer_top offered_root
offer_tops = stores_root offered_root (λ x. refl)

-- a begin writes the child's node and the time of the class above it
pub begin_steps : (bytes : ℕ) → Stepping (begin_step bytes) (λ c x. begun_node bytes x) (λ x up c. begun_class x c)
begin_steps bytes =
    record {
      nodes = λ t k up. refl;
      parent = λ c x. refl;
      above = λ t k up l. get_or-set_same t.classes up (begun_class (node_at t k) (class_at t up)) no_times l;
      others = λ t k up c n. get_or-set_other t.classes up c (begun_class (node_at t k) (class_at t up)) no_times n;
      wide = λ t k up. length-set t.classes up (begun_class (node_at t k) (class_at t up));
    }

-- and at the root its count
pub begin_tops : Topping begin_top begun_root
begin_tops = stores_root begun_root (λ x. refl)

-- an end writes the child's node, and the times of the class above it by both nodes
pub end_steps : Stepping end_step (λ c x. ended_node x) ended_class
end_steps =
    record {
      nodes = λ t k up. refl;
      parent = λ c x. refl;
      above = λ t k up l. get_or-set_same t.classes up (ended_class (node_at t k) (node_at t up) (class_at t up)) no_times l;
      others = λ t k up c n. get_or-set_other t.classes up c (ended_class (node_at t k) (node_at t up) (class_at t up)) no_times n;
      wide = λ t k up. length-set t.classes up (ended_class (node_at t k) (node_at t up) (class_at t up));
    }

-- and at the root nothing
pub end_tops : Topping end_top (λ x. x)
end_tops = record { node = λ t l. refl; parent = λ x. refl; others = λ t j l. refl; long = λ t. refl; classes = λ t. refl }
