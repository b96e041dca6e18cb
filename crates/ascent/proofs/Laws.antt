-- The cases of a way up, whatever is done at a child and at the root; and what is left of it on the way.
use mathlib.Core.Path.{◌≡◌, refl, ◌∙◌}
use Prim.Native.Nat.{ℕ, zero, suc, ◌≤◌, ◌<◌}
use native.Mathlib.Omega.{arith}
use borrow.Author.Tests.{le-leb, lt-leb}
use Rattle.tree.specs.declared.Tree.{Tree}
use Rattle.tree.specs.Tree.{node_at}
use Rattle.ascent.specs.Ascent.{climb}

module _ (step : Tree → ℕ → ℕ → Tree) (top : Tree → ℕ → Tree) where
  module _ (t : Tree) (k : ℕ) where
    -- no node is left
    climb_0 : (n : ℕ) → n ≤ 0 → t ≡ climb step top n t k
    unfolding climb
    climb_0 zero h = refl
    climb_0 (suc n) h = absurd (omega arith)

    -- no node has the place
    pub climb_off : (n : ℕ) → 47 ≤ k → t ≡ climb step top n t k
    unfolding climb
    climb_off zero h = refl
    climb_off (suc n) h = rw (le-leb 47 k h)

    -- a node is left, and stands at place k
    module _ (n left : ℕ) (some : n ≡ suc left) (low : k < 47) where
      climb_root : 31 ≤ (node_at t k).parent → top t k ≡ climb step top n t k
      unfolding climb
      climb_root h = rw (some, lt-leb 47 k low, le-leb 31 (node_at t k).parent h)

      climb_on : (node_at t k).parent < 31 → climb step top left (step t k (node_at t k).parent) (node_at t k).parent ≡ climb step top n t k
      unfolding climb
      climb_on h = rw (some, lt-leb 47 k low, lt-leb 31 (node_at t k).parent h)

  -- of a way up n nodes at most are left, from place k of the tree t, and they give the whole
  abbrev pub Remains : Tree → ℕ → Tree → ℕ → Type 0
  Remains whole n t k = (k < 47) × (climb step top n t k ≡ whole)

  module _ (whole : Tree) (n : ℕ) (t : Tree) (k : ℕ) (r : Remains whole n t k) where
    -- no node is left of it
    pub way_ends : n ≤ 0 → t ≡ whole
    way_ends h = climb_0 t k n h ∙ r.1

    module _ (left : ℕ) (some : n ≡ suc left) where
      -- it has come to the root
      pub way_tops : 31 ≤ (node_at t k).parent → top t k ≡ whole
      way_tops h = climb_root t k n left some r.0 h ∙ r.1

      -- it goes on from a child to the class above
      pub way_goes_on : (node_at t k).parent < 31 → (t' : Tree) → t' ≡ step t k (node_at t k).parent → Remains whole left t' (node_at t k).parent
      way_goes_on h t' e = (omega arith, rw e (climb_on t k n left some r.0 h) ∙ r.1)
