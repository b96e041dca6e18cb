-- `tree_of` meets its contract: what is made at each place is the tree's node there.
use Rattle.std.proofs.Common.{rules, arith}
use Rattle.tree.specs.Tree.{no_node, node_at, tree_of}
use Rattle.planting.proofs.Filled.{made_at}
use Rattle.planting.proofs.Laws.{all_nodes}
use Rattle.planting.proofs.nodes.tree_of.Goals as goal

pub returns : goal.returns
returns c =
    let items = c.from_fn.ensures.items in
    all_nodes c.args.plan.now c.from_fn.result items.long
    (λ k l. made_at _ _ (node_at (tree_of c.args.plan.now)) no_node c.from_fn.result 0 47 (λ k y q l h. search rules) items.each k (omega arith) (omega (arith, l)))
