-- The way up in the tree: a climb goes along the way of its flow, and leaves what hangs from where as it was.
use mathlib.Core.Path.{◌≡◌, refl, ◌∙◌, ap}
use mathlib.Core.Bool.{Bool, true, false, cond}
use mathlib.Core.Logic.{inl, inr}
use mathlib.Core.List.{List, [], ◌∷◌}
use Prim.Native.Nat.{ℕ, zero, suc, ◌≤◌, ◌<◌}
use native.Mathlib.Omega.{arith}
use borrow.Author.Tests.{eqb-true, eqb-false, lt-leb}
use lib.Dec.{eqb}
use lib.ListN.{length, set, length-set}
use lib.Seq.{get_or-set_same, get_or-set_other}
use Rattle.places.proofs.Stores.{set_keeps}
use Rattle.plans.specs.declared.Plan.{Plan}
use Rattle.plans.specs.Plans.{Fits}
use Rattle.tree.specs.declared.Node.{Node}
use Rattle.tree.specs.declared.Class.{Class}
use Rattle.tree.specs.declared.Tree.{Tree}
use Rattle.tree.specs.Tree.{no_node, no_parent, node_at, class_at}
use Rattle.ascent.specs.Ascent.{climb}
use Rattle.promises_classes.specs.Rules.{Child, a_class, a_flow, same}
use Rattle.promises_classes.specs.Views.{parent_of, HangsFrom, way_from}
use Rattle.promises_classes.specs.Promised.{place_of}
use Rattle.promises_classes.proofs.Ways.{Sound, up_low, up_sound, Reaches}

-- the tree is that of the plan
pub record Agrees (p : Plan) (t : Tree) : Type 0 where
  pub root : (node_at t 0).parent ≡ no_parent
  pub parents : (x : Child) → HangsFrom p (parent_of p x) x → (node_at t (place_of x)).parent ≡ parent_of p x
  pub long : length t.nodes ≡ 47
  pub wide : length t.classes ≡ 31

-- a node that is stored, with the parent that it had, leaves the tree that of the plan
pub stored_agrees : (p : Plan) (t v : Tree) (k : ℕ) (x : Node) → k < 47 → x.parent ≡ (node_at t k).parent → Agrees p t → v.nodes ≡ set t.nodes k x
    → length v.classes ≡ length t.classes → Agrees p v
stored_agrees p t v k x l e a n w =
    record {
      root = kept 0 ∙ a.root;
      parents = λ y s. kept (place_of y) ∙ a.parents y s;
      long = ap length n ∙ length-set t.nodes k x ∙ a.long;
      wide = w ∙ a.wide;
    }
  where
    kept : (j : ℕ) → (node_at v j).parent ≡ (node_at t j).parent
    kept j = rw n (set_keeps t.nodes k x no_node (omega (arith, l, a.long)) (λ z. z.parent) e j)

-- What a step does: it writes a child's node, by that node and by the times of the class above it; and those times, by both nodes.
pub record Stepping (step : Tree → ℕ → ℕ → Tree) (node : Class → Node → Node) (class : Node → Node → Class → Class) : Type 0 where
  pub nodes : (t : Tree) (k up : ℕ) → (step t k up).nodes ≡ set t.nodes k (node (class_at t up) (node_at t k))
  pub parent : (c : Class) (x : Node) → (node c x).parent ≡ x.parent
  pub above : (t : Tree) (k up : ℕ) → up < length t.classes → class_at (step t k up) up ≡ class (node_at t k) (node_at t up) (class_at t up)
  pub others : (t : Tree) (k up c : ℕ) → (c ≡ up → ⊥) → class_at (step t k up) c ≡ class_at t c
  pub wide : (t : Tree) (k up : ℕ) → length (step t k up).classes ≡ length t.classes

-- What is done at the root: its node is written, by itself, and nothing else.
pub record Topping (top : Tree → ℕ → Tree) (root : Node → Node) : Type 0 where
  pub node : (t : Tree) → 0 < length t.nodes → node_at (top t 0) 0 ≡ root (node_at t 0)
  pub parent : (x : Node) → (root x).parent ≡ x.parent
  pub others : (t : Tree) (j : ℕ) → 0 < j → node_at (top t 0) j ≡ node_at t j
  pub long : (t : Tree) → length (top t 0).nodes ≡ length t.nodes
  pub classes : (t : Tree) → (top t 0).classes ≡ t.classes

-- a climb's steps, along a list of children, and what it does at the root
unfoldable pub ups : Plan → (Tree → ℕ → ℕ → Tree) → (Tree → ℕ → Tree) → List Child → Tree → Tree
ups p step top [] t = top t 0
ups p step top (x ∷ xs) t = ups p step top xs (step t (place_of x) (parent_of p x))

module _ (p : Plan) (ok : Fits p) where
  -- a child has one of the 47 nodes
  pub place_low : (x : Child) → Sound p x → place_of x < 47
  place_low (a_class k) s = omega (arith, s.1, ok.few)
  place_low (a_flow f) s = omega (arith, s.0)

  -- and not the root's
  pub place_high : (x : Child) → Sound p x → 0 < place_of x
  place_high (a_class k) s = s.0
  place_high (a_flow f) s = omega arith

  -- nor one that no class has
  pub not_free : (k : ℕ) → p.count ≤ k → k < 31 → (x : Child) → Sound p x → k ≡ place_of x → ⊥
  not_free k a b (a_class j) s e = omega (arith, a, s.1, e)
  not_free k a b (a_flow f) s e = omega (arith, b, e)

  -- different children have different nodes
  pub place_apart : (x y : Child) → Sound p x → Sound p y → same x y ≡ false → place_of x ≡ place_of y → ⊥
  place_apart (a_class j) (a_class k) s r e q = eqb-false j k e q
  place_apart (a_class j) (a_flow f) s r e q = omega (arith, s.1, ok.few, q)
  place_apart (a_flow g) (a_class k) s r e q = omega (arith, r.1, ok.few, q)
  place_apart (a_flow g) (a_flow f) s r e q = eqb-false g f e (omega (arith, q))

  -- a child stands further on among the nodes than the class that it hangs from
  pub place_up : (x : Child) → Sound p x → parent_of p x < place_of x
  place_up (a_class k) s = ok.falls k s.0 s.1
  place_up (a_flow f) s = let l = up_low p ok (a_flow f) s in omega (arith, l, ok.few)

  module _ {step : Tree → ℕ → ℕ → Tree} {node : Class → Node → Node} {class : Node → Node → Class → Class} (steps : Stepping step node class) where
    -- a step leaves the tree that of the plan
    pub step_agrees : (t : Tree) (x : Child) → Sound p x → Agrees p t → Agrees p (step t (place_of x) (parent_of p x))
    step_agrees t x s a =
        stored_agrees p t (step t (place_of x) (parent_of p x)) (place_of x) (node (class_at t (parent_of p x)) (node_at t (place_of x))) (place_low x s)
        (steps.parent (class_at t (parent_of p x)) (node_at t (place_of x))) a (steps.nodes t (place_of x) (parent_of p x))
        (steps.wide t (place_of x) (parent_of p x))

    -- the child's node after a step
    pub step_here : (t : Tree) (x : Child) → Sound p x → Agrees p t
        → node_at (step t (place_of x) (parent_of p x)) (place_of x) ≡ node (class_at t (parent_of p x)) (node_at t (place_of x))
    step_here t x s a =
        rw (steps.nodes t (place_of x) (parent_of p x))
        (get_or-set_same t.nodes (place_of x) (node (class_at t (parent_of p x)) (node_at t (place_of x))) no_node (omega (arith, place_low x s, a.long)))

    -- and every other
    pub step_aside : (t : Tree) (x : Child) (j : ℕ) → (j ≡ place_of x → ⊥) → node_at (step t (place_of x) (parent_of p x)) j ≡ node_at t j
    step_aside t x j n =
        rw (steps.nodes t (place_of x) (parent_of p x))
        (get_or-set_other t.nodes (place_of x) j (node (class_at t (parent_of p x)) (node_at t (place_of x))) no_node n)

    module _ {top : Tree → ℕ → Tree} {root : Node → Node} (tops : Topping top root) where
      -- what is done at the root leaves the tree that of the plan
      top_agrees : (t : Tree) → Agrees p t → Agrees p (top t 0)
      top_agrees t a =
          record {
            root = ap (λ z. z.parent) (tops.node t (omega (arith, a.long))) ∙ tops.parent (node_at t 0) ∙ a.root;
            parents = λ x s. ap (λ z. z.parent) (tops.others t (place_of x) (place_high x s)) ∙ a.parents x s;
            long = tops.long t ∙ a.long;
            wide = ap length (tops.classes t) ∙ a.wide;
          }

      -- a climb leaves the tree that of the plan
      pub ups_agrees : (n : ℕ) (x : Child) → Sound p x → (t : Tree) → Agrees p t → Agrees p (ups p step top (way_from n p x) t)
      unfolding way_from ups
      ups_agrees zero x s t a = top_agrees t a
      ups_agrees (suc n) x s t a = go (ups_agrees n) (eqb (parent_of p x) 0) refl
        where
          t1 : Tree
          t1 = step t (place_of x) (parent_of p x)

          go : ((x : Child) → Sound p x → (t : Tree) → Agrees p t → Agrees p (ups p step top (way_from n p x) t)) → (b : Bool)
              → eqb (parent_of p x) 0 ≡ b → Agrees p (ups p step top (cond b [] (way_from n p (a_class (parent_of p x)))) t1)
          go ih true q = top_agrees t1 (step_agrees t x s a)
          go ih false q = ih (a_class (parent_of p x)) (up_sound p ok x s (eqb-false (parent_of p x) 0 q)) t1 (step_agrees t x s a)

      -- a climb that has come to the root
      at_root : (n : ℕ) (t : Tree) → Agrees p t → climb step top (suc n) t 0 ≡ top t 0
      unfolding climb
      at_root n t a = rw a.root

      -- a climb goes along the way, where that comes to the root
      pub climb_way : (n : ℕ) (x : Child) → Sound p x → Reaches p n x → (t : Tree) → Agrees p t
          → climb step top (suc n) t (place_of x) ≡ ups p step top (way_from n p x) t
      unfolding climb way_from ups
      climb_way zero x s r t a = absurd r
      climb_way (suc n) x s r t a =
          rw (lt-leb 47 (place_of x) (place_low x s), a.parents x s, lt-leb 31 (parent_of p x) (omega (arith, up_low p ok x s, ok.few)))
          (go (climb_way n) r (eqb (parent_of p x) 0) refl)
        where
          t1 : Tree
          t1 = step t (place_of x) (parent_of p x)

          go : ((x : Child) → Sound p x → Reaches p n x → (t : Tree) → Agrees p t → climb step top (suc n) t (place_of x) ≡ ups p step top (way_from n p x) t)
              → Reaches p (suc n) x → (b : Bool) → eqb (parent_of p x) 0 ≡ b
              → climb step top (suc n) t1 (parent_of p x) ≡ ups p step top (cond b [] (way_from n p (a_class (parent_of p x)))) t1
          go ih r true q = ap (climb step top (suc n) t1) (eqb-true (parent_of p x) 0 q) ∙ at_root n t1 (step_agrees t x s a)
          go ih (inl e) false q = absurd (eqb-false (parent_of p x) 0 q e)
          go ih (inr r) false q =
              ih (a_class (parent_of p x)) (up_sound p ok x s (eqb-false (parent_of p x) 0 q)) r t1 (step_agrees t x s a)
