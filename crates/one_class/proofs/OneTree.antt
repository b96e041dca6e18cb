-- A tree of one class beside a queue and its times. Every flow hangs from the root, no other class has anything to send, and the root has the
-- times and counts all that waits. A flow's node has the flow's weight, counts what waits of it, finishes where its packet last begun does, and
-- starts where its first waiting packet does, if something waits and none of it is in service; what is in service is of a flow that there is.
-- Here: what a way up leaves, and that two stores, of a flow's node and of the root's, keep it.
use mathlib.Core.Path.{◌≡◌, sym, ap, ◌∙◌}
use mathlib.Core.Bool.{true, false}
use mathlib.Core.List.{List}
use Prim.Native.Nat.{ℕ, ◌+◌, ◌≤◌, ◌<◌}
use native.Mathlib.Decide.{ℕ_discrete}
use native.Mathlib.Omega.{arith}
use borrow.Author.Tests.{lt-leb}
use lib.ListN.{length, get_or, set, length-set}
use lib.Seq.{get_or-set_same, get_or-set_other, set-get_or}
use Rattle.units.specs.declared.Tag.{Tag}
use Rattle.packets.specs.declared.Queue.{Queue}
use Rattle.packets.specs.Queue.{flow_at, waiting_of, waiting}
use Rattle.promises_queue.specs.Packets.{Packet, Moment, serving}
use Rattle.promises_queue.specs.Promised.{begun_of}
use Rattle.promises_fair.proofs.Tags.{start_noted, finish_before}
use Rattle.tree.specs.declared.Node.{Node}
use Rattle.tree.specs.declared.Class.{Class}
use Rattle.tree.specs.declared.Tree.{Tree}
use Rattle.tree.specs.Tree.{no_node, no_times, no_parent, node_of, node_at, class_at, with_node}
use Rattle.ascent.specs.Ascent.{climb, way_up}

-- a flow's node
pub record FlowNode (q : Queue) (ps : List Packet) (ms : List Moment) (f : ℕ) (x : Node) : Type 0 where
  pub parent : x.parent ≡ 0
  pub weight : x.weight ≡ (flow_at q f).weight
  pub waiting : x.waiting ≡ waiting_of q f
  pub finish : x.finish.0 ≡ finish_before ps f (begun_of ms f)
  pub start : serving ms f ≡ false → 0 < waiting_of q f → x.start.0 ≡ start_noted ps f (begun_of ms f)

-- the tree
pub record OneTree (t : Tree) (q : Queue) (now most : Tag) (ps : List Packet) (ms : List Moment) : Type 0 where
  pub nodes : length t.nodes ≡ 47
  pub classes : length t.classes ≡ 31
  pub root : (node_at t 0).parent ≡ no_parent
  pub all : (node_at t 0).waiting ≡ waiting q
  pub spare : (k : ℕ) → 0 < k → k < 31 → (node_at t k).waiting ≡ 0
  pub time : (class_at t 0).time ≡ now
  pub largest : (class_at t 0).largest ≡ most
  pub flows : (f : ℕ) → f < 16 → FlowNode q ps ms f (node_at t (node_of f))
  pub served : (f : ℕ) → serving ms f ≡ true → f < 16

-- a way up from a flow is a step there and the root's
pub climb_one : (step : Tree → ℕ → ℕ → Tree) (top : Tree → ℕ → Tree) (t : Tree) (f : ℕ) → f ≤ 15 → (node_at t (node_of f)).parent ≡ 0
    → (node_at (step t (node_of f) 0) 0).parent ≡ no_parent → climb step top way_up t (node_of f) ≡ top (step t (node_of f) 0) 0
unfolding climb
climb_one step top t f low p r = rw (lt-leb 47 (31 + f) (omega arith), p, r)

-- the tree with another node of a flow, of the root, and other times of the root
abbrev pub stored : Tree → ℕ → Node → Node → Class → Tree
stored t f x root c = record { nodes = set (set t.nodes (node_of f) x) 0 root; classes = set t.classes 0 c }

-- a store of a flow's node leaves the root's
pub root_stays : (t : Tree) (f : ℕ) (x : Node) → node_at (with_node t (node_of f) x) 0 ≡ node_at t 0
root_stays t f x = get_or-set_other t.nodes (node_of f) 0 x no_node (λ e. omega arith)

-- where the times stay, the tree with another node of a flow and of the root
pub both_stored : (t : Tree) (f : ℕ) (x root : Node) → with_node (with_node t (node_of f) x) 0 root ≡ stored t f x root (class_at t 0)
both_stored t f x root =
    ap (λ (cs : List Class). record { nodes = set (set t.nodes (node_of f) x) 0 root; classes = cs }) (sym (set-get_or t.classes 0 no_times))

-- where the root stays, the tree with another node of a flow
pub one_stored : (t : Tree) (f : ℕ) (x : Node) (c : Class) → record { nodes = set t.nodes (node_of f) x; classes = set t.classes 0 c } ≡ stored t f x (node_at t 0) c
one_stored t f x c =
    ap (λ (xs : List Node). record { nodes = xs; classes = set t.classes 0 c })
    (sym (set-get_or (set t.nodes (node_of f) x) 0 no_node) ∙ ap (set (set t.nodes (node_of f) x) 0) (root_stays t f x))

-- where the times stay too
pub node_stored : (t : Tree) (f : ℕ) (x : Node) → with_node t (node_of f) x ≡ stored t f x (node_at t 0) (class_at t 0)
node_stored t f x =
    ap (λ (cs : List Class). record { nodes = set t.nodes (node_of f) x; classes = cs }) (sym (set-get_or t.classes 0 no_times))
    ∙ one_stored t f x (class_at t 0)

-- a tree after two stores and a call, where the flow's node is right, every other flow's is still, and the root's count and times are
pub tree_stored : {t : Tree} {q : Queue} {now most : Tag} {ps : List Packet} {ms : List Moment} → OneTree t q now most ps ms
    → (q' : Queue) (time' largest' : Tag) (ps' : List Packet) (ms' : List Moment) (f : ℕ) (x root : Node) (c : Class) → f ≤ 15
    → FlowNode q' ps' ms' f x
    → ((g : ℕ) → g < 16 → (g ≡ f → ⊥) → (y : Node) → FlowNode q ps ms g y → FlowNode q' ps' ms' g y)
    → root.parent ≡ no_parent → root.waiting ≡ waiting q' → c.time ≡ time' → c.largest ≡ largest' → ((g : ℕ) → serving ms' g ≡ true → g < 16)
    → OneTree (stored t f x root c) q' time' largest' ps' ms'
tree_stored {t} o q' time' largest' ps' ms' f x root c low own others parent all time largest served =
    record {
      nodes = length-set (set t.nodes (node_of f) x) 0 root ∙ long;
      classes = length-set t.classes 0 c ∙ o.classes;
      root = ap (λ (y : Node). y.parent) at_root ∙ parent;
      all = ap (λ (y : Node). y.waiting) at_root ∙ all;
      spare = λ k a b.
          ap (λ (y : Node). y.waiting) (get_or-set_other (set t.nodes (node_of f) x) 0 k root no_node (omega arith) ∙ get_or-set_other t.nodes (node_of f) k x no_node (omega arith))
          ∙ o.spare k a b;
      time = ap (λ (y : Class). y.time) at_class ∙ time;
      largest = ap (λ (y : Class). y.largest) at_class ∙ largest;
      flows = λ g b. rw (get_or-set_other (set t.nodes (node_of f) x) 0 (node_of g) root no_node (omega arith)) (go g b (ℕ_discrete g f));
      served = served;
    }
  where
    long : length (set t.nodes (node_of f) x) ≡ 47
    long = length-set t.nodes (node_of f) x ∙ o.nodes

    at_root : get_or (set (set t.nodes (node_of f) x) 0 root) 0 no_node ≡ root
    at_root = get_or-set_same (set t.nodes (node_of f) x) 0 root no_node (omega (arith, long))

    at_class : get_or (set t.classes 0 c) 0 no_times ≡ c
    at_class = get_or-set_same t.classes 0 c no_times (omega (arith, o.classes))

    go : (g : ℕ) → g < 16 → Dec (g ≡ f) → FlowNode q' ps' ms' g (get_or (set t.nodes (node_of f) x) (node_of g) no_node)
    go g b (yes e) = rw (e, get_or-set_same t.nodes (node_of f) x no_node (omega (arith, o.nodes))) own
    go g b (no n) = rw (get_or-set_other t.nodes (node_of f) (node_of g) x no_node (λ e. n (omega arith))) (others g b n (node_at t (node_of g)) (o.flows g b))
