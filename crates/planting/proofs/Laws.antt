-- The nodes that are made place by place are those of the tree, and each case of setting up.
use Rattle.std.proofs.Common.{◌≡◌, ℕ, ◌+◌, ◌-◌, ◌<◌, ◌≤◌, false, true, List, Ok, length, get_or, replicate, sym, ap, ◌∙◌, arith}
use Rattle.std.proofs.lemmas.List.{ext_get_or}
use Rattle.units.specs.Refusals.{first_of}
use Rattle.units.specs.declared.Refusal.TheVariants.{BadTree}
use Rattle.plans.specs.declared.Plan.{Plan}
use Rattle.plans.specs.Plans.{broken}
use Rattle.tree.specs.declared.Node.{Node}
use Rattle.tree.specs.Tree.{no_node, no_times, node_at, flow_node, tree_of}
use Rattle.tree.proofs.Described.{node_count, flow_node_lem}
use Rattle.classes.specs.declared.Classes.{Classes}
use Rattle.classes.specs.Lane.{lane_of}
use Rattle.planting.specs.SetUp.{refused, set_up_of}

-- the node of the flow whose place is k
pub flow_at : (p : Plan) (k : ℕ) → 31 ≤ k → k < 47 → flow_node p (k - 31) ≡ node_at (tree_of p) k
flow_at p k low high =
    let e : 31 + (k - 31) ≡ k = omega arith in
    sym (flow_node_lem p (k - 31) (omega arith)) ∙ ap (node_at (tree_of p)) e

-- nodes that are the tree's at each place are its nodes
pub all_nodes : (p : Plan) (nodes : List Node) → length nodes ≡ 47 → ((k : ℕ) → k < 47 → get_or nodes k no_node ≡ node_at (tree_of p) k) → record { nodes = nodes; classes = replicate 31 no_times } ≡ tree_of p
unfolding tree_of
all_nodes p nodes long each =
    ap (λ (xs : List Node). record { nodes = xs; classes = replicate 31 no_times })
    (ext_get_or no_node nodes (tree_of p).nodes (long ∙ sym (node_count p)) (λ k l. each k (omega (arith, l, long))))

-- a description that breaks a rule
pub set_up_broken : (u : Classes) (p : Plan) → broken p ≡ true → refused u BadTree ≡ set_up_of u p
unfolding set_up_of first_of
set_up_broken u p e = rw e

-- one that keeps them, `lane` being the lane that is made
pub set_up_whole : (u : Classes) (p : Plan) → broken p ≡ false → (lane : Classes) → lane ≡ lane_of p → record { lane = lane; answer = Ok tt } ≡ set_up_of u p
unfolding set_up_of first_of
set_up_whole u p e lane m = rw (e, m)
