-- The tree of classes: its nodes, the times of its classes, and the tree that a description gives.
use Rattle.std.specs.Prelude.{ℕ, ◌+◌, cond, ◌++◌, replicate, ◌==◌, nat_le, slice_index_or, slice_set}
use Rattle.units.specs.declared.Tag.{Tag}
use Rattle.plans.specs.declared.Plan.{Plan}
use Rattle.plans.specs.Numbered.{list_from}
use Rattle.plans.specs.Plans.{parent_in, weight_in, class_in}
use Rattle.tree.specs.declared.Node.{Node}
use Rattle.tree.specs.declared.Class.{Class}
use Rattle.tree.specs.declared.Tree.{Tree}

-- before any packet
abbrev pub no_tag : Tag
no_tag = record { 0 = 0 }

-- a node that no class has
abbrev pub no_node : Node
no_node = record { parent = 0; weight = 0; waiting = 0; start = no_tag; finish = no_tag }

-- the times of a class before any packet
abbrev pub no_times : Class
no_times = record { time = no_tag; largest = no_tag }

-- what the root hangs from: no class
abbrev pub no_parent : ℕ
no_parent = 31

-- the node of a flow: those of the classes come first
abbrev pub node_of : ℕ → ℕ
node_of flow = 31 + flow

-- a node
abbrev pub node_at : Tree → ℕ → Node
node_at t k = slice_index_or t.nodes k no_node

-- the times of a class
abbrev pub class_at : Tree → ℕ → Class
class_at t class = slice_index_or t.classes class no_times

-- the tree with another node
abbrev pub with_node : Tree → ℕ → Node → Tree
with_node t k x = record { nodes = slice_set t.nodes k x; classes = t.classes }

-- a node before any packet
abbrev pub new_node : ℕ → ℕ → Node
new_node parent weight = record { parent = parent; weight = weight; waiting = 0; start = no_tag; finish = no_tag }

-- the node of a class that is described
abbrev pub class_node : Plan → ℕ → Node
class_node p class = cond (nat_le p.count class) no_node (new_node (cond (class == 0) no_parent (parent_in p class)) (weight_in p class))

-- the node of a flow, which gets its weight when the flow is opened
abbrev pub flow_node : Plan → ℕ → Node
flow_node p flow = new_node (class_in p flow) 0

-- the tree that is described, before any call
unfoldable pub tree_of : Plan → Tree
tree_of p = record { nodes = list_from (class_node p) 0 31 ++ list_from (flow_node p) 0 16; classes = replicate 31 no_times }
