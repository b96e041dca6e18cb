-- What every call keeps of the tree of classes: it is that of the plan, with the weights in force; every node counts what waits below it, and
-- nothing waits at a node that no class has; and each class runs the fair rules.
use mathlib.Core.Path.{◌≡◌, refl, sym, ◌∙◌, ap}
use mathlib.Core.Bool.{Bool, true, false, not}
use Prim.Native.Nat.{ℕ, ◌≤◌, ◌<◌}
use native.Mathlib.Omega.{arith}
use borrow.Author.Tests.{eqb-true, eqb-false}
use lib.Dec.{eqb}
use Rattle.plans.specs.declared.Plan.{Plan}
use Rattle.tree.specs.declared.Tree.{Tree}
use Rattle.tree.specs.Tree.{node_at}
use Rattle.classes.specs.declared.Classes.{Classes}
use Rattle.promises_classes.specs.Events.{History}
use Rattle.promises_classes.specs.Rules.{Child, a_class, a_flow}
use Rattle.promises_classes.specs.Views.{parent_of, HangsFrom, weight_of, sends}
use Rattle.promises_classes.specs.Promised.{place_of, RunsFair, waiting_below, Counts}
use Rattle.promises_classes.proofs.Climbs.{Agrees}
use Rattle.promises_classes.proofs.Counts.{sends_count}

-- the tree's weights are those in force
abbrev pub Weighs : Plan → Tree → History → Type 0
Weighs p t h = (x : Child) → HangsFrom p (parent_of p x) x → (node_at t (place_of x)).weight ≡ weight_of p h x

-- nothing waits at a node that no class has
abbrev pub FreeIdle : Plan → Tree → Type 0
FreeIdle p t = (k : ℕ) → p.count ≤ k → k < 31 → (node_at t k).waiting ≡ 0

-- what every call keeps
pub record TreeKept (p : Plan) (u : Classes) (h : History) : Type 0 where
  pub agrees : Agrees p u.tree
  pub weighs : Weighs p u.tree h
  pub counts : (x : Child) → HangsFrom p (parent_of p x) x → (node_at u.tree (place_of x)).waiting ≡ waiting_below p h x
  pub root_count : (node_at u.tree 0).waiting ≡ waiting_below p h (a_class 0)
  pub idle : FreeIdle p u.tree
  pub fair : (c : ℕ) → c < p.count → RunsFair p u h c

module _ (p : Plan) (u : Classes) (h : History) (k : TreeKept p u h) where
  -- the counts tell which children have something to send
  pub tells : (x : Child) → HangsFrom p (parent_of p x) x → sends p h x ≡ not (eqb (node_at u.tree (place_of x)).waiting 0)
  tells x s = sends_count p x h ∙ ap (λ w. not (eqb w 0)) (sym (k.counts x s))

  -- every class counts what waits below it, the root too
  pub class_count : (c : ℕ) → c < p.count → (node_at u.tree c).waiting ≡ waiting_below p h (a_class c)
  class_count c l = go (eqb c 0) refl
    where
      go : (b : Bool) → eqb c 0 ≡ b → (node_at u.tree c).waiting ≡ waiting_below p h (a_class c)
      go true q = rw (eqb-true c 0 q) k.root_count
      go false q = let n : c ≡ 0 → ⊥ = eqb-false c 0 q in k.counts (a_class c) (omega (arith, n), l, refl)

  -- so the counts tell which classes have something left to send
  pub tells_left : (c : ℕ) → c < p.count → sends p h (a_class c) ≡ not (eqb (node_at u.tree c).waiting 0)
  tells_left c l = sends_count p (a_class c) h ∙ ap (λ w. not (eqb w 0)) (sym (class_count c l))

  -- T4: each class and each flow counts what waits below it
  pub counted : Counts p u h
  counted = record { classes = class_count; flows = λ f l. k.counts (a_flow f) (l, refl) }
