-- T0: a description is set up where it keeps the rules, as it is described, and refused where it does not.
use mathlib.Core.Path.{◌≡◌, refl, sym, ap, ◌∙◌, subst}
use mathlib.Core.Bool.{Bool, true, false, cond, true≢false}
use mathlib.Core.Logic.{◌⊎◌, inl, inr}
use Prim.Native.Nat.{ℕ, ◌<◌}
use native.Mathlib.Omega.{arith}
use borrow.Author.Tests.{lt-leb, ne_eqb}
use lib.Dec.{eqb}
use lib.ListN.{get_or-replicate}
use Rattle.plans.specs.declared.Plan.{Plan}
use Rattle.plans.specs.Plans.{Fits, parent_in, weight_in, broken}
use Rattle.plans.proofs.Rules.{kept_rules, rules_kept}
use Rattle.tree.specs.declared.Node.{Node}
use Rattle.tree.specs.declared.Tree.{Tree}
use Rattle.tree.specs.Tree.{no_parent, no_times, node_at, new_node, tree_of}
use Rattle.tree.proofs.Described.{class_node_lem, flow_node_lem}
use Rattle.classes.specs.Lane.{lane_of}
use Rattle.planting.specs.declared.Planted.{Planted}
use Rattle.planting.specs.Laws.{Fresh, HasTree, SetsUpRightly}
use Rattle.planting.proofs.Laws.{set_up_broken, set_up_whole}

-- a node that is made new is a node before any packet
fresh_node : (t : Tree) (k parent weight : ℕ) → node_at t k ≡ new_node parent weight → Fresh t k parent weight
fresh_node t k parent weight e =
    record {
      hangs = ap (λ (x : Node). x.parent) e;
      weighs = ap (λ (x : Node). x.weight) e;
      idle = ap (λ (x : Node). x.waiting) e;
      start = ap (λ (x : Node). x.start) e;
      finish = ap (λ (x : Node). x.finish) e;
    }

-- the node of a class that there is, by what it hangs from
fresh_class : (p : Plan) → Fits p → (class parent : ℕ) → class < p.count → cond (eqb class 0) no_parent (parent_in p class) ≡ parent
    → Fresh (tree_of p) class parent (weight_in p class)
fresh_class p ok class parent l e =
    fresh_node (tree_of p) class parent (weight_in p class) (class_node_lem p class (omega (arith, l, ok.few)) ∙ rw (lt-leb p.count class l, e))

-- the lane of a description that keeps the rules has its tree
pub has_tree : (p : Plan) → Fits p → HasTree p (lane_of p)
unfolding tree_of
has_tree p ok =
    record {
      root = fresh_class p ok 0 no_parent ok.rooted refl;
      classes = λ class some l. fresh_class p ok class (parent_in p class) l (rw (ne_eqb class 0 (omega (arith, some))));
      flows = λ flow l. fresh_node (tree_of p) _ _ 0 (flow_node_lem p flow l);
      times = λ class l. get_or-replicate 31 class no_times no_times (omega (arith, l, ok.few));
      queue = refl;
    }

-- a description that does not keep the rules is found broken
pub unfit_broken : (p : Plan) → (Fits p → ⊥) → broken p ≡ true
unfit_broken p unfit = go (broken p) refl
  where
    go : (b : Bool) → broken p ≡ b → b ≡ true
    go true q = refl
    go false q = absurd (unfit (kept_rules p q))

-- a description keeps the rules or does not
pub fits_or_not : (p : Plan) → Fits p ⊎ (Fits p → ⊥)
fits_or_not p = go (broken p) refl
  where
    go : (b : Bool) → broken p ≡ b → Fits p ⊎ (Fits p → ⊥)
    go true q = inr (λ ok. true≢false (sym q ∙ rules_kept p ok))
    go false q = inl (kept_rules p q)

pub sets_up_rightly : SetsUpRightly
sets_up_rightly u p =
    record {
      kept = λ ok. let e = set_up_whole u p (rules_kept p ok) (lane_of p) refl in
          (ap (λ (x : Planted). x.answer) (sym e), subst (λ (x : Planted). HasTree p x.lane) e (has_tree p ok));
      broke = λ unfit. let e = sym (set_up_broken u p (unfit_broken p unfit)) in (ap (λ (x : Planted). x.answer) e, ap (λ (x : Planted). x.lane) e);
      decided = fits_or_not p;
    }
