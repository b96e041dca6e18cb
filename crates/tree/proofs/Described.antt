-- The nodes of the tree that is described: the classes' first, then the flows'.
use Rattle.std.proofs.Common.{◌≡◌, ℕ, ◌+◌, ◌<◌, length, get_or, sym, ap, ◌∙◌, arith, length-append, get_or-append-add}
use lib.ListN.{get_or-append}
use Rattle.plans.specs.declared.Plan.{Plan}
use Rattle.plans.specs.Numbered.{list_from}
use Rattle.plans.proofs.Numbered.{from_length, from_at}
use Rattle.tree.specs.Tree.{no_node, node_of, node_at, class_node, flow_node, tree_of}

-- there are 47 of them
pub node_count : (p : Plan) → length (tree_of p).nodes ≡ 47
unfolding tree_of
node_count p =
    length-append (list_from (class_node p) 0 31) (list_from (flow_node p) 0 16) ∙ rw (from_length (class_node p) 0 31, from_length (flow_node p) 0 16)

-- the node of a class
pub class_node_lem : (p : Plan) (class : ℕ) → class < 31 → node_at (tree_of p) class ≡ class_node p class
unfolding tree_of
class_node_lem p class l =
    get_or-append (list_from (class_node p) 0 31) (list_from (flow_node p) 0 16) no_node class (omega (arith, l, from_length (class_node p) 0 31))
    ∙ from_at (class_node p) no_node 0 31 class l
    ∙ (let e : 0 + class ≡ class = omega arith in ap (class_node p) e)

-- and that of a flow
pub flow_node_lem : (p : Plan) (flow : ℕ) → flow < 16 → node_at (tree_of p) (node_of flow) ≡ flow_node p flow
unfolding tree_of
flow_node_lem p flow l =
    ap (λ (n : ℕ). get_or (tree_of p).nodes (n + flow) no_node) (sym (from_length (class_node p) 0 31))
    ∙ get_or-append-add (list_from (class_node p) 0 31) (list_from (flow_node p) 0 16) flow no_node
    ∙ from_at (flow_node p) no_node 0 16 flow l
    ∙ (let e : 0 + flow ≡ flow = omega arith in ap (flow_node p) e)
