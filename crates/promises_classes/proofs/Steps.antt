-- What a climb leaves, node by node and class by class: each child on the way is written once, by itself and the times above it as they were,
-- and so are the times of each class on the way; all else stays.
use mathlib.Core.Path.{◌≡◌, refl, sym, ◌∙◌, ap}
use mathlib.Core.Bool.{Bool, true, false, cond}
use mathlib.Core.List.{List, [], ◌∷◌}
use Rattle.std.proofs.Common.{None, Some}
use Prim.Native.Nat.{ℕ, zero, suc, ◌≤◌, ◌<◌}
use native.Mathlib.Omega.{arith}
use borrow.Author.Tests.{eqb-false}
use lib.Dec.{eqb}
use lib.ListN.{get_or}
use Rattle.plans.specs.declared.Plan.{Plan}
use Rattle.plans.specs.Plans.{Fits}
use Rattle.tree.specs.declared.Node.{Node}
use Rattle.tree.specs.declared.Class.{Class}
use Rattle.tree.specs.declared.Tree.{Tree}
use Rattle.tree.specs.Tree.{no_times, node_of, node_at, class_at}
use Rattle.ascent.specs.Ascent.{climb, way_up}
use Rattle.promises_classes.specs.Rules.{Child, a_class, a_flow, same}
use Rattle.promises_classes.specs.Views.{any_of, parent_of, way_from, way_to, child_on}
use Rattle.promises_classes.specs.Promised.{place_of}
use Rattle.promises_classes.proofs.On.{same_true, on, on_cases, on_head, on_past, on_none, found_on}
use Rattle.promises_classes.proofs.Ways.{Sound, up_low, up_sound, rest, falls, once, none_further, way_sound, reaches}
use Rattle.promises_classes.proofs.Climbs.{Agrees, Stepping, Topping, ups, place_high, not_free, place_apart, place_up, step_agrees, step_here, step_aside, ups_agrees, climb_way}

module _ (p : Plan) (ok : Fits p) {step : Tree → ℕ → ℕ → Tree} {node : Class → Node → Node} {class : Node → Node → Class → Class}
    (steps : Stepping step node class) {top : Tree → ℕ → Tree} {root : Node → Node} (tops : Topping top root) where
  -- a node that is no child's: only what is done at the root changes it
  ups_else : (j : ℕ) (at_top : Node → Node) → ((x : Child) → Sound p x → j ≡ place_of x → ⊥)
      → ((t : Tree) → Agrees p t → node_at (top t 0) j ≡ at_top (node_at t j)) → (n : ℕ) (x : Child) → Sound p x → (t : Tree) → Agrees p t
      → node_at (ups p step top (way_from n p x) t) j ≡ at_top (node_at t j)
  unfolding way_from ups
  ups_else j at_top apart done zero x s t a = done t a
  ups_else j at_top apart done (suc n) x s t a =
      go (ups_else j at_top apart done n) (eqb (parent_of p x) 0) refl ∙ ap at_top (step_aside p ok steps t x j (apart x s))
    where
      t1 : Tree
      t1 = step t (place_of x) (parent_of p x)

      go : ((x : Child) → Sound p x → (t : Tree) → Agrees p t → node_at (ups p step top (way_from n p x) t) j ≡ at_top (node_at t j)) → (b : Bool)
          → eqb (parent_of p x) 0 ≡ b → node_at (ups p step top (cond b [] (way_from n p (a_class (parent_of p x)))) t1) j ≡ at_top (node_at t1 j)
      go ih true q = done t1 (step_agrees p ok steps t x s a)
      go ih false q = ih (a_class (parent_of p x)) (up_sound p ok x s (eqb-false (parent_of p x) 0 q)) t1 (step_agrees p ok steps t x s a)

  -- a child's node as a step would leave it
  abbrev stepped : Tree → Child → Node
  stepped t y = node (class_at t (parent_of p y)) (node_at t (place_of y))

  module _ (y : Child) (sy : Sound p y) where
    -- what is left of a child: written where it is on the way
    abbrev Left : List Child → Tree → Type 0
    Left ws t = node_at (ups p step top ws t) (place_of y) ≡ cond (on y ws) (stepped t y) (node_at t (place_of y))

    -- at the root, nothing
    left_top : (t : Tree) → Left [] t
    unfolding ups any_of
    left_top t = tops.others t (place_of y) (place_high p ok y sy)

    -- and so along any way
    ups_node : (n : ℕ) (x : Child) → Sound p x → (t : Tree) → Agrees p t → Left (way_from n p x) t
    unfolding way_from ups
    ups_node zero x s t a = left_top t
    ups_node (suc n) x s t a = go (tail (ups_node n) (eqb (parent_of p x) 0) refl) (same y x) refl (on y (rest p n x)) refl
      where
        t1 : Tree
        t1 = step t (place_of x) (parent_of p x)

        tail : ((x : Child) → Sound p x → (t : Tree) → Agrees p t → Left (way_from n p x) t) → (b : Bool) → eqb (parent_of p x) 0 ≡ b
            → Left (cond b [] (way_from n p (a_class (parent_of p x)))) t1
        tail ih true q = left_top t1
        tail ih false q = ih (a_class (parent_of p x)) (up_sound p ok x s (eqb-false (parent_of p x) 0 q)) t1 (step_agrees p ok steps t x s a)

        -- another child's node and the times above it, which no child before it on the way hangs from
        aside : same y x ≡ false → node_at t1 (place_of y) ≡ node_at t (place_of y)
        aside q = step_aside p ok steps t x (place_of y) (place_apart p ok y x sy s q)

        above : on y (rest p n x) ≡ true → class_at t1 (parent_of p y) ≡ class_at t (parent_of p y)
        above o = let l = falls p ok n x y s o in steps.others t (place_of x) (parent_of p x) (parent_of p y) (λ e. omega (arith, l, e))

        go : Left (rest p n x) t1 → (b : Bool) → same y x ≡ b → (d : Bool) → on y (rest p n x) ≡ d → Left (x ∷ rest p n x) t
        go h true q d o =
            let e : on y (rest p n x) ≡ false = rw (same_true y x q) (once p ok n x s) in
            let stored : node_at t1 (place_of y) ≡ stepped t y = rw (same_true y x q) (step_here p ok steps t x s a) in
            h
            ∙ ap (λ b. cond b (stepped t1 y) (node_at t1 (place_of y))) e
            ∙ stored
            ∙ ap (λ b. cond b (stepped t y) (node_at t (place_of y))) (sym (on_head y x (rest p n x) q))
        go h false q true o =
            h
            ∙ ap (λ b. cond b (stepped t1 y) (node_at t1 (place_of y))) o
            ∙ ap (λ z. node z (node_at t1 (place_of y))) (above o)
            ∙ ap (λ z. node (class_at t (parent_of p y)) z) (aside q)
            ∙ ap (λ b. cond b (stepped t y) (node_at t (place_of y))) (sym (on_past y x (rest p n x) q ∙ o))
        go h false q false o =
            h
            ∙ ap (λ b. cond b (stepped t1 y) (node_at t1 (place_of y))) o
            ∙ aside q
            ∙ ap (λ b. cond b (stepped t y) (node_at t (place_of y))) (sym (on_past y x (rest p n x) q ∙ o))

  -- what is done at the root leaves the times
  top_class : (t : Tree) (c : ℕ) → class_at (top t 0) c ≡ class_at t c
  top_class t c = ap (λ ts. get_or ts c no_times) (tops.classes t)

  -- the rest of a way leaves the times of a class that finds no child on it, if the way from there does
  rest_else : (c n : ℕ) (x : Child) → Sound p x
      → ((x : Child) → Sound p x → (t : Tree) → child_on p c (way_from n p x) ≡ None → class_at (ups p step top (way_from n p x) t) c ≡ class_at t c)
      → (t : Tree) → child_on p c (rest p n x) ≡ None → class_at (ups p step top (rest p n x) t) c ≡ class_at t c
  unfolding ups
  rest_else c n x s ih t = go (eqb (parent_of p x) 0) refl
    where
      go : (b : Bool) → eqb (parent_of p x) 0 ≡ b → child_on p c (cond b [] (way_from n p (a_class (parent_of p x)))) ≡ None
          → class_at (ups p step top (cond b [] (way_from n p (a_class (parent_of p x)))) t) c ≡ class_at t c
      go true q h = top_class t c
      go false q h = ih (a_class (parent_of p x)) (up_sound p ok x s (eqb-false (parent_of p x) 0 q)) t h

  -- a class that finds no child on the way keeps its times
  class_else : (c n : ℕ) (x : Child) → Sound p x → (t : Tree) → child_on p c (way_from n p x) ≡ None
      → class_at (ups p step top (way_from n p x) t) c ≡ class_at t c
  unfolding way_from ups child_on
  class_else c zero x s t e = top_class t c
  class_else c (suc n) x s t e = go (rest_else c n x s (class_else c n) (step t (place_of x) (parent_of p x))) (eqb (parent_of p x) c) refl e
    where
      t1 : Tree
      t1 = step t (place_of x) (parent_of p x)

      go : (child_on p c (rest p n x) ≡ None → class_at (ups p step top (rest p n x) t1) c ≡ class_at t1 c) → (b : Bool)
          → eqb (parent_of p x) c ≡ b → cond b (Some x) (child_on p c (rest p n x)) ≡ None → class_at (ups p step top (rest p n x) t1) c ≡ class_at t c
      go ih true q h = absurd (let z : ◌≡◌ {A = ℕ} 0 1 = cc in omega arith)
      go ih false q h = ih h ∙ steps.others t (place_of x) (parent_of p x) c (λ e. eqb-false (parent_of p x) c q (sym e))

  module _ (y : Child) (sy : Sound p y) where
    -- what is left of the times of the class that a child hangs from
    abbrev LeftAbove : List Child → Tree → Type 0
    LeftAbove ws t =
        class_at (ups p step top ws t) (parent_of p y) ≡ class (node_at t (place_of y)) (node_at t (parent_of p y)) (class_at t (parent_of p y))

    -- they are written where that child is on the way
    ups_class : (n : ℕ) (x : Child) → Sound p x → (t : Tree) → Agrees p t → on y (way_from n p x) ≡ true → LeftAbove (way_from n p x) t
    unfolding way_from ups
    ups_class zero x s t a o = absurd (on_none y o)
    ups_class (suc n) x s t a o =
        on_cases y x (rest p n x) (LeftAbove (x ∷ rest p n x) t) here
        (λ q r. there q r (tail (ups_class n) (eqb (parent_of p x) 0) refl r)) o
      where
        t1 : Tree
        t1 = step t (place_of x) (parent_of p x)

        tail : ((x : Child) → Sound p x → (t : Tree) → Agrees p t → on y (way_from n p x) ≡ true → LeftAbove (way_from n p x) t)
            → (b : Bool) → eqb (parent_of p x) 0 ≡ b → on y (cond b [] (way_from n p (a_class (parent_of p x)))) ≡ true
            → LeftAbove (cond b [] (way_from n p (a_class (parent_of p x)))) t1
        tail ih true q r = absurd (on_none y r)
        tail ih false q r = ih (a_class (parent_of p x)) (up_sound p ok x s (eqb-false (parent_of p x) 0 q)) t1 (step_agrees p ok steps t x s a) r

        here : y ≡ x → LeftAbove (x ∷ rest p n x) t
        here e =
            rw e
            (rest_else (parent_of p x) n x s (class_else (parent_of p x) n) t1 (none_further p ok n x s)
            ∙ steps.above t (place_of x) (parent_of p x) (omega (arith, up_low p ok x s, ok.few, a.wide)))

        there : same y x ≡ false → on y (rest p n x) ≡ true → LeftAbove (rest p n x) t1 → LeftAbove (x ∷ rest p n x) t
        there q r h =
            let l = falls p ok n x y s r in
            let m = place_up p ok x s in
            h
            ∙ ap (λ z. class z (node_at t1 (parent_of p y)) (class_at t1 (parent_of p y)))
            (step_aside p ok steps t x (place_of y) (place_apart p ok y x sy s q))
            ∙ ap (λ z. class (node_at t (place_of y)) z (class_at t1 (parent_of p y)))
            (step_aside p ok steps t x (parent_of p y) (λ e. omega (arith, l, m, e)))
            ∙ ap (λ z. class (node_at t (place_of y)) (node_at t (parent_of p y)) z)
            (steps.others t (place_of x) (parent_of p x) (parent_of p y) (λ e. omega (arith, l, e)))

  -- What the climb of a flow leaves.
  module _ (t : Tree) (a : Agrees p t) (f : ℕ) (low : f < 16) where
    -- the tree after it
    abbrev pub climbed : Tree
    climbed = climb step top way_up t (node_of f)

    -- it goes along the way
    along : climbed ≡ ups p step top (way_to p f) t
    along = climb_way p ok steps tops 4 (a_flow f) (low, refl) (reaches p ok f low) t a

    -- it is still that of the plan
    pub left_agrees : Agrees p climbed
    left_agrees = rw along (ups_agrees p ok steps tops 4 (a_flow f) (low, refl) t a)

    -- the children on the way are written, and no others
    pub left_node : (y : Child) → Sound p y
        → node_at climbed (place_of y) ≡ cond (on y (way_to p f)) (node (class_at t (parent_of p y)) (node_at t (place_of y))) (node_at t (place_of y))
    left_node y sy = ap (λ z. node_at z (place_of y)) along ∙ ups_node y sy 4 (a_flow f) (low, refl) t a

    -- so is the root
    pub left_root : node_at climbed 0 ≡ root (node_at t 0)
    left_root =
        ap (λ z. node_at z 0) along
        ∙ ups_else 0 root (λ x s e. omega (arith, place_high p ok x s, e)) (λ v b. tops.node v (omega (arith, b.long))) 4 (a_flow f) (low, refl) t a

    -- a node that no class has stays
    pub left_free : (j : ℕ) → p.count ≤ j → j < 31 → node_at climbed j ≡ node_at t j
    left_free j l m =
        ap (λ z. node_at z j) along
        ∙ ups_else j (λ z. z) (not_free p ok j l m) (λ v b. tops.others v j (omega (arith, l, ok.rooted))) 4 (a_flow f) (low, refl) t a

    -- the times of a class that no child on the way hangs from stay
    pub left_else : (c : ℕ) → child_on p c (way_to p f) ≡ None → class_at climbed c ≡ class_at t c
    left_else c e = ap (λ z. class_at z c) along ∙ class_else c 4 (a_flow f) (low, refl) t e

    -- those of any other are written
    pub left_class : (c : ℕ) (z : Child) → child_on p c (way_to p f) ≡ Some z
        → class_at climbed c ≡ class (node_at t (place_of z)) (node_at t c) (class_at t c)
    left_class c z e =
        let w = found_on p c z (way_to p f) e in
        rw (sym w.1) (ap (λ v. class_at v (parent_of p z)) along
        ∙ ups_class z (way_sound p ok 4 (a_flow f) z (low, refl) w.0) 4 (a_flow f) (low, refl) t a w.0)
