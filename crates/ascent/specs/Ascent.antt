-- The way up: from a flow to the root, what an offer, a begin or an end below it leaves at each node and in the times of each class.
use Rattle.std.specs.Prelude.{Bool, false, cond, ◌||◌, ℕ, zero, suc, leb, set}
use Rattle.tree.specs.declared.Class.{Class}
use Rattle.tree.specs.declared.Tree.{Tree}
use Rattle.tree.specs.Tree.{no_parent, node_of, node_at, class_at, with_node}
use Rattle.tree.specs.Steps.{offered_node, offered_root, is_beyond, finish_for, begun_node, begun_root, begun_class, ended_node, ended_class}

-- the tree with other times of a class
abbrev pub with_times : Tree → ℕ → Class → Tree
with_times t class c = record { nodes = t.nodes; classes = set t.classes class c }

-- A way up of at most so many nodes: a step at each child, which is told the class that the child hangs from, and another at the root. A
-- place that is no node's leaves the tree as it is.
unfoldable pub climb : (Tree → ℕ → ℕ → Tree) → (Tree → ℕ → Tree) → ℕ → Tree → ℕ → Tree
climb step top zero t k = t
climb step top (suc left) t k =
    cond (leb 47 k) t
    (cond (leb no_parent (node_at t k).parent) (top t k) (climb step top left (step t k (node_at t k).parent) (node_at t k).parent))

-- a flow, three classes and the root
abbrev pub way_up : ℕ
way_up = 5

-- an offer: at a child
abbrev pub offer_step : Tree → ℕ → ℕ → Tree
offer_step t k up = with_node t k (offered_node (class_at t up).time (node_at t k))

-- at the root
abbrev pub offer_top : Tree → ℕ → Tree
offer_top t k = with_node t k (offered_root (node_at t k))

-- on the whole way of a flow
unfoldable pub offered_to : Tree → ℕ → Tree
offered_to t flow = climb offer_step offer_top way_up t (node_of flow)

-- some finish on the way would pass the largest tag, if a packet of this length were begun
unfoldable pub passes : ℕ → Tree → ℕ → ℕ → Bool
passes zero t k length = false
passes (suc left) t k length =
    cond (leb 47 k) false
    (cond (leb no_parent (node_at t k).parent) false
    (is_beyond (finish_for (node_at t k) length) || passes left t (node_at t k).parent length))

-- so on the whole way of a flow
unfoldable pub passes_for : Tree → ℕ → ℕ → Bool
passes_for t flow length = passes way_up t (node_of flow) length

-- a begin of a packet of this length: at a child
abbrev pub begin_step : ℕ → Tree → ℕ → ℕ → Tree
begin_step length t k up = with_times (with_node t k (begun_node length (node_at t k))) up (begun_class (node_at t k) (class_at t up))

-- at the root
abbrev pub begin_top : Tree → ℕ → Tree
begin_top t k = with_node t k (begun_root (node_at t k))

-- on the whole way of its flow
unfoldable pub begun_from : Tree → ℕ → ℕ → Tree
begun_from t flow length = climb (begin_step length) begin_top way_up t (node_of flow)

-- an end: at a child
abbrev pub end_step : Tree → ℕ → ℕ → Tree
end_step t k up = with_times (with_node t k (ended_node (node_at t k))) up (ended_class (node_at t k) (node_at t up) (class_at t up))

-- the root stays
abbrev pub end_top : Tree → ℕ → Tree
end_top t k = t

-- on the whole way of a flow
unfoldable pub ended_from : Tree → ℕ → Tree
ended_from t flow = climb end_step end_top way_up t (node_of flow)
