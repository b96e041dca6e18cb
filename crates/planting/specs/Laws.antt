-- T0: what setting up does, laid beside the rules of a tree.
use Rattle.std.specs.Prelude.{◌≡◌, ◌⊎◌, ℕ, ◌<◌, Ok, Err}
use Rattle.units.specs.declared.Refusal.TheVariants.{BadTree}
use Rattle.packets.specs.Queue.{fresh_queue}
use Rattle.plans.specs.declared.Plan.{Plan}
use Rattle.plans.specs.Plans.{Fits, parent_in, weight_in, class_in}
use Rattle.tree.specs.declared.Tree.{Tree}
use Rattle.tree.specs.Tree.{no_tag, no_times, no_parent, node_of, node_at, class_at}
use Rattle.classes.specs.declared.Classes.{Classes}
use Rattle.planting.specs.SetUp.{set_up_of}

-- a node before any packet: what it hangs from, its weight, and nothing else
pub record Fresh (t : Tree) (k parent weight : ℕ) : Type 0 where
  pub hangs : (node_at t k).parent ≡ parent
  pub weighs : (node_at t k).weight ≡ weight
  pub idle : (node_at t k).waiting ≡ 0
  pub start : (node_at t k).start ≡ no_tag
  pub finish : (node_at t k).finish ≡ no_tag

-- A lane that is set up has the tree that was described, its classes at time 0, its flows of no weight until they are opened, and an empty queue.
pub record HasTree (p : Plan) (u : Classes) : Type 0 where
  pub root : Fresh u.tree 0 no_parent (weight_in p 0)
  pub classes : (class : ℕ) → 0 < class → class < p.count → Fresh u.tree class (parent_in p class) (weight_in p class)
  pub flows : (flow : ℕ) → flow < 16 → Fresh u.tree (node_of flow) (class_in p flow) 0
  pub times : (class : ℕ) → class < p.count → class_at u.tree class ≡ no_times
  pub queue : u.queue ≡ fresh_queue

-- A description is set up exactly where it keeps the rules; else it is refused, with 27, and the lane is as it was.
pub record SetsUp (u : Classes) (p : Plan) : Type 0 where
  pub kept : Fits p → ((set_up_of u p).answer ≡ Ok tt) × HasTree p (set_up_of u p).lane
  pub broke : (Fits p → ⊥) → ((set_up_of u p).answer ≡ Err BadTree) × ((set_up_of u p).lane ≡ u)
  pub decided : Fits p ⊎ (Fits p → ⊥)

abbrev pub SetsUpRightly : Type 0
SetsUpRightly = (u : Classes) (p : Plan) → SetsUp u p
