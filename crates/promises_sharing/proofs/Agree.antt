-- Two descriptions that agree on the classes that there are and on the flows are one to the lane: from a class of a tree that keeps the rules
-- the way up stays among its classes, and the tree holds nothing of any other.
use mathlib.Core.Path.{◌≡◌, refl, sym, ap, ◌∙◌, subst}
use mathlib.Core.Bool.{Bool, true, false, cond}
use mathlib.Core.Logic.{inl, inr}
use mathlib.Core.List.{List, ◌++◌}
use Prim.Native.Nat.{ℕ, ◌≤◌, ◌<◌}
use native.Mathlib.Omega.{arith}
use borrow.Author.Tests.{eqb-true, eqb-false, leb-false}
use lib.Dec.{leb, eqb}
use lib.ListN.{replicate}
use Rattle.plans.specs.declared.Plan.{Plan}
use Rattle.plans.specs.Numbered.{list_from}
use Rattle.plans.specs.Plans.{FourDeep, Fits, parent_in, weight_in, class_in}
use Rattle.plans.proofs.Numbered.{from_same}
use Rattle.tree.specs.declared.Node.{Node}
use Rattle.tree.specs.declared.Tree.{Tree}
use Rattle.tree.specs.Tree.{no_node, no_times, no_parent, new_node, class_node, flow_node, tree_of}
use Rattle.classes.specs.Lane.{lane_of}

-- they have the same classes, which hang from the same and weigh the same, and each flow hangs from the same class
pub record Agree (p q : Plan) : Type 0 where
  pub count : q.count ≡ p.count
  pub parents : (class : ℕ) → class < p.count → parent_in q class ≡ parent_in p class
  pub weights : (class : ℕ) → class < p.count → weight_in q class ≡ weight_in p class
  pub flows : (flow : ℕ) → flow < 16 → class_in q flow ≡ class_in p flow

-- a class of a tree that keeps the rules, where it is not the root, hangs from one that there is
above_there : (p : Plan) → Fits p → (class : ℕ) → class < p.count → (class ≡ 0 → ⊥) → parent_in p class < p.count
above_there p ok class l inner = let lower = ok.falls class (omega (arith, inner)) l in omega (arith, lower, l)

module _ (p q : Plan) (same : Agree p q) where
  -- where the one keeps the rules, no class of the other is deeper than four
  four_deep : Fits p → (class : ℕ) → class < p.count → FourDeep q class
  four_deep ok class l = at (eqb class 0) (eqb (parent_in p class) 0) refl refl (ok.depth class l)
    where
      one : parent_in q class ≡ parent_in p class
      one = same.parents class l

      two : (class ≡ 0 → ⊥) → parent_in q (parent_in q class) ≡ parent_in p (parent_in p class)
      two inner = ap (parent_in q) one ∙ same.parents (parent_in p class) (above_there p ok class l inner)

      three : (class ≡ 0 → ⊥) → (parent_in p class ≡ 0 → ⊥)
          → parent_in q (parent_in q (parent_in q class)) ≡ parent_in p (parent_in p (parent_in p class))
      three inner deep =
          ap (parent_in q) (two inner)
          ∙ same.parents (parent_in p (parent_in p class)) (above_there p ok (parent_in p class) (above_there p ok class l inner) deep)

      at : (a b : Bool) → eqb class 0 ≡ a → eqb (parent_in p class) 0 ≡ b → FourDeep p class → FourDeep q class
      at true b e f d = inl (eqb-true class 0 e)
      at false true e f d = inr (inl (one ∙ eqb-true (parent_in p class) 0 f))
      at false false e f (inl d) = inl d
      at false false e f (inr (inl d)) = inr (inl (one ∙ d))
      at false false e f (inr (inr (inl d))) = inr (inr (inl (two (eqb-false class 0 e) ∙ d)))
      at false false e f (inr (inr (inr d))) = inr (inr (inr (three (eqb-false class 0 e) (eqb-false (parent_in p class) 0 f) ∙ d)))

  -- so the other keeps the rules too
  pub fits_too : Fits p → Fits q
  fits_too ok =
      record {
        rooted = subst (λ (n : ℕ). 1 ≤ n) (sym same.count) ok.rooted;
        few = subst (λ (n : ℕ). n ≤ 31) (sym same.count) ok.few;
        falls = λ class a b.
            let l : class < p.count = within class b in subst (λ (n : ℕ). n < class) (sym (same.parents class l)) (ok.falls class a l);
        depth = λ class b. four_deep ok class (within class b);
        weights = λ class b.
            let l : class < p.count = within class b in
            subst (λ (n : ℕ). (1 ≤ n) × (n ≤ 16)) (sym (same.weights class l)) (ok.weights class l);
        named = λ flow l. let a = ok.named flow l in let b = same.flows flow l in let c = same.count in omega (arith, a, b, c);
      }
    where
      within : (class : ℕ) → class < q.count → class < p.count
      within class b = let c = same.count in omega (arith, b, c)

  -- the node of a class is the same of both
  same_class : (class : ℕ) → class_node q class ≡ class_node p class
  same_class class =
      ap (λ (n : ℕ). cond (leb n class) no_node (new_node (cond (eqb class 0) no_parent (parent_in q class)) (weight_in q class))) same.count
      ∙ go (leb p.count class) refl
    where
      go : (t : Bool) → leb p.count class ≡ t
          → cond t no_node (new_node (cond (eqb class 0) no_parent (parent_in q class)) (weight_in q class))
          ≡ cond t no_node (new_node (cond (eqb class 0) no_parent (parent_in p class)) (weight_in p class))
      go true e = refl
      go false e = let l = leb-false p.count class e in rw (same.parents class l, same.weights class l)

  -- and so is the tree
  same_tree : tree_of q ≡ tree_of p
  unfolding tree_of
  same_tree =
      ap (λ (nodes : List Node). record { nodes = nodes ++ list_from (flow_node q) 0 16; classes = replicate 31 no_times })
      (from_same (class_node q) (class_node p) 0 31 (λ class a b. same_class class))
      ∙ ap (λ (nodes : List Node). record { nodes = list_from (class_node p) 0 31 ++ nodes; classes = replicate 31 no_times })
      (from_same (flow_node q) (flow_node p) 0 16 (λ flow a b. ap (λ (class : ℕ). new_node class 0) (same.flows flow (omega (arith, b)))))

  -- and the lane of it
  pub same_lane : lane_of q ≡ lane_of p
  same_lane = ap (λ (t : Tree). record { tree = t; queue = (lane_of p).queue }) same_tree
