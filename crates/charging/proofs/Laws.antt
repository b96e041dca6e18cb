-- The cases of the finishes on a way up.
use mathlib.Core.Path.{◌≡◌, refl}
use mathlib.Core.Bool.{true, false}
use Prim.Native.Nat.{ℕ, zero, suc, ◌+◌, ◌≤◌, ◌<◌}
use native.Mathlib.Omega.{arith}
use borrow.Author.Tests.{le-leb, lt-leb}
use Rattle.tree.specs.declared.Tree.{Tree}
use Rattle.tree.specs.Tree.{node_at}
use Rattle.tree.specs.Steps.{is_beyond, finish_for}
use Rattle.ascent.specs.Ascent.{passes, passes_for}

module _ (t : Tree) (length : ℕ) where
  -- what the call asks for
  pub passes_climbs : (flow : ℕ) → passes 5 t (31 + flow) length ≡ passes_for t flow length
  unfolding passes_for
  passes_climbs flow = refl

  module _ (k : ℕ) where
    -- no node is left
    pub passes_0 : (n : ℕ) → n ≤ 0 → false ≡ passes n t k length
    unfolding passes
    passes_0 zero h = refl
    passes_0 (suc n) h = absurd (omega arith)

    -- no node has the place
    pub passes_off : (n : ℕ) → 47 ≤ k → false ≡ passes n t k length
    unfolding passes
    passes_off zero h = refl
    passes_off (suc n) h = rw (le-leb 47 k h)

    -- a node is left, and stands at place k: the root, which has no finish, or a child
    module _ (n left : ℕ) (some : n ≡ suc left) (low : k < 47) where
      pub passes_root : 31 ≤ (node_at t k).parent → false ≡ passes n t k length
      unfolding passes
      passes_root h = rw (some, lt-leb 47 k low, le-leb 31 (node_at t k).parent h)

      module _ (h : (node_at t k).parent < 31) where
        pub passes_here : is_beyond (finish_for (node_at t k) length) ≡ true → true ≡ passes n t k length
        unfolding passes
        passes_here b = rw (some, lt-leb 47 k low, lt-leb 31 (node_at t k).parent h, b)

        pub passes_on : is_beyond (finish_for (node_at t k) length) ≡ false → passes left t (node_at t k).parent length ≡ passes n t k length
        unfolding passes
        passes_on b = rw (some, lt-leb 47 k low, lt-leb 31 (node_at t k).parent h, b)
