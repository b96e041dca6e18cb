-- The cases of the way down.
use mathlib.Core.Path.{◌≡◌, sym, ap, ◌∙◌}
use Rattle.std.proofs.Common.{None, Some}
use Prim.Native.Nat.{ℕ, suc, ◌-◌, ◌≤◌, ◌<◌}
use borrow.Author.Tests.{le-leb, lt-leb}
use Rattle.places.specs.Choice.{Choice, chosen_of}
use Rattle.places.proofs.Scan.{chosen_at, chosen_none}
use Rattle.tree.specs.declared.Node.{Node}
use Rattle.tree.specs.declared.Tree.{Tree}
use Rattle.descent.specs.Descent.{least_child, place_in, on_from, descend_of}

-- what is chosen stands at the place of the child that goes first
pub place_told : (choice : Choice Node) (k : ℕ) (x : Node) → Some (k, x) ≡ chosen_of choice → k ≡ place_in choice
place_told choice k x e = sym (ap place_in (chosen_at choice k x e))

pub place_none : (choice : Choice Node) → None ≡ chosen_of choice → 47 ≡ place_in choice
place_none choice e = sym (ap place_in (chosen_none choice e))

-- no step is left
pub ends_here : (n : ℕ) (t : Tree) (class : ℕ) → n ≡ 0 → 16 ≡ descend_of n t class
unfolding descend_of
ends_here n t class e = rw e

-- a step is left, and k is the place of the child that goes first: a flow's, or a class's
module _ (n left : ℕ) (d : n ≡ suc left) (t : Tree) (class k : ℕ) (e : k ≡ place_in (least_child t class)) where
  -- one step of the way
  step : on_from (descend_of left t) k ≡ descend_of n t class
  unfolding descend_of
  step = rw (d, e)

  pub meets_flow : 31 ≤ k → k - 31 ≡ descend_of n t class
  meets_flow h = sym (rw (le-leb 31 k h)) ∙ step

  pub goes_on : k < 31 → descend_of left t k ≡ descend_of n t class
  goes_on h = sym (rw (lt-leb 31 k h)) ∙ step
