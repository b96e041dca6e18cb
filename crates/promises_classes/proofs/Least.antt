-- The child that the tree holds first of a class goes first in it by the rules.
use mathlib.Core.Path.{◌≡◌, refl, sym, ◌∙◌, ap}
use mathlib.Core.Bool.{Bool, true, false, cond, not, ◌&&◌, ◌||◌, false≢true}
use Prim.Native.Nat.{ℕ, ◌+◌, ◌-◌, ◌<◌}
use native.Mathlib.Omega.{arith}
use borrow.Author.Tests.{ltb-true, ltb-false, leb-true, leb-false, eqb-true, eqb-false, eq-eqb, ne_eqb, lt-ltb, le-ltb}
use lib.Dec.{eqb, leb, ltb}
use Rattle.places.specs.Choice.{at, nothing, Leads}
use Rattle.places.specs.Choice.{comes_before as key_before}
use Rattle.places.proofs.Least.{leads}
use Rattle.places.proofs.Tests.{and_told}
use Rattle.plans.specs.declared.Plan.{Plan}
use Rattle.plans.specs.Plans.{Fits}
use Rattle.tree.specs.declared.Node.{Node}
use Rattle.tree.specs.declared.Tree.{Tree}
use Rattle.tree.specs.Tree.{no_node, node_at}
use Rattle.descent.specs.Descent.{is_child, key_of, least_child}
use Rattle.classes.specs.declared.Classes.{Classes}
use Rattle.promises_classes.specs.Events.{History}
use Rattle.promises_classes.specs.Rules.{Child, a_class, a_flow, start_tag, lower, comes_before}
use Rattle.promises_classes.specs.Views.{parent_of, HangsFrom, sends, seen}
use Rattle.promises_classes.specs.Promised.{place_of, GoesFirst}
use Rattle.promises_classes.proofs.Ways.{Sound, hangs_parent, hangs_sound}
use Rattle.promises_classes.proofs.Kept.{TreeKept, tells}

-- of two children the lower one stands first among the nodes
lower_place : (p : Plan) (ok : Fits p) (y x : Child) → Sound p y → Sound p x → lower y x ≡ ltb (place_of y) (place_of x)
lower_place p ok (a_class j) (a_class k) s r = refl
lower_place p ok (a_class j) (a_flow f) s r = sym (lt-ltb j (31 + f) (omega (arith, s.1, ok.few)))
lower_place p ok (a_flow g) (a_class k) s r = sym (le-ltb (31 + g) k (omega (arith, r.1, ok.few)))
lower_place p ok (a_flow g) (a_flow f) s r = go (ltb g f) refl
  where
    go : (b : Bool) → ltb g f ≡ b → b ≡ ltb (31 + g) (31 + f)
    go true q = let l = ltb-true g f q in sym (lt-ltb (31 + g) (31 + f) (omega (arith, l)))
    go false q = let l = ltb-false g f q in sym (le-ltb (31 + g) (31 + f) (omega (arith, l)))

-- the tree's choice goes by the start, then by the place
key_before_lem : (i k : ℕ) (y x : Node) → key_before (key_of i y) (key_of k x) ≡ (ltb y.start.0 x.start.0 || (eqb y.start.0 x.start.0 && ltb i k))
unfolding key_before
key_before_lem i k y x = go (ltb y.start.0 x.start.0) (eqb y.start.0 x.start.0) (ltb i k) (eqb i k)
  where
    go : (a b c d : Bool) → (a || (b && (c || (d && false)))) ≡ (a || (b && c))
    go true b c d = refl
    go false false c d = refl
    go false true true d = refl
    go false true false true = refl
    go false true false false = refl

-- the child at a node
abbrev pub child_at : ℕ → Child
child_at k = cond (leb 31 k) (a_flow (k - 31)) (a_class k)

-- it is at that node
child_place : (k : ℕ) → place_of (child_at k) ≡ k
child_place k = go (leb 31 k) refl
  where
    go : (b : Bool) → leb 31 k ≡ b → place_of (cond b (a_flow (k - 31)) (a_class k)) ≡ k
    go true q = let l = leb-true 31 k q in omega (arith, l)
    go false q = refl

module _ (p : Plan) (ok : Fits p) (u : Classes) (h : History) (k : TreeKept p u h) where
  -- the tree that chooses
  abbrev t : Tree
  t = u.tree

  -- a node at which something waits, and that hangs from a class, is a child of that class by the plan
  child_hangs : (c j : ℕ) → c < p.count → j < 47 → 0 < (node_at t j).waiting → (node_at t j).parent ≡ c → HangsFrom p c (child_at j)
  child_hangs c j l m w e = go (leb 31 j) refl
    where
      go : (b : Bool) → leb 31 j ≡ b → HangsFrom p c (cond b (a_flow (j - 31)) (a_class j))
      go true q =
          let a = leb-true 31 j q in
          let s : j - 31 < 16 = omega (arith, a, m) in
          let z : 31 + (j - 31) ≡ j = omega (arith, a) in
          (s, sym (k.agrees.parents (a_flow (j - 31)) (s, refl)) ∙ ap (λ i. (node_at t i).parent) z ∙ e)
      go false q =
          let a = leb-false 31 j q in
          let high : 0 < j = not_root (eqb j 0) refl in
          let inside : j < p.count = not_free (leb p.count j) refl a in
          (high, inside, sym (k.agrees.parents (a_class j) (high, inside, refl)) ∙ e)
        where
          not_root : (b : Bool) → eqb j 0 ≡ b → 0 < j
          not_root true r =
              absurd
              (let z = eqb-true j 0 r in
              let y : (node_at t 0).parent ≡ c = rw z at e in
              omega (arith, y, k.agrees.root, l, ok.few))
          not_root false r = let n : j ≡ 0 → ⊥ = eqb-false j 0 r in omega (arith, n)

          not_free : (b : Bool) → leb p.count j ≡ b → j < 31 → j < p.count
          not_free true r a = let x = leb-true p.count j r in let y = k.idle j x a in absurd (omega (arith, y, w))
          not_free false r a = leb-false p.count j r

  -- a child that has something to send is among those that the tree chooses from
  sends_held : (c : ℕ) (y : Child) → HangsFrom p c y → sends p h y ≡ true → is_child c (node_at t (place_of y)) ≡ true
  sends_held c y g e =
      rw (k.agrees.parents y (hangs_sound p c y g), hangs_parent p c y g, eq-eqb c c refl)
      (go (node_at t (place_of y)).waiting (eqb (node_at t (place_of y)).waiting 0) refl (sym (tells p u h k y (hangs_sound p c y g)) ∙ e))
    where
      go : (w : ℕ) (b : Bool) → eqb w 0 ≡ b → not b ≡ true → (ltb 0 w && true) ≡ true
      go w true q r = absurd (false≢true r)
      go w false q r = let n : w ≡ 0 → ⊥ = eqb-false w 0 q in rw (lt-ltb 0 w (omega (arith, n)))

  -- so it chooses one
  pub least_some : (c : ℕ) (y : Child) → HangsFrom p c y → sends p h y ≡ true → least_child t c ≡ nothing → ⊥
  least_some c y g e q =
      let led : Leads (is_child c) key_of no_node t.nodes nothing = rw q at (leads (is_child c) key_of no_node refl t.nodes) in
      led (place_of y) (sends_held c y g e)

  -- and that one goes first in the class
  pub least_first : (c j : ℕ) (x : Node) → c < p.count → least_child t c ≡ at j x → (j < 47) × HangsFrom p c (child_at j) × GoesFirst p h (child_at j)
  least_first c j x l e = (low, hangs, (sending, none_before))
    where
      led : Leads (is_child c) key_of no_node t.nodes (at j x)
      led = rw e at (leads (is_child c) key_of no_node refl t.nodes)

      low : j < 47
      low = omega (arith, led.0, k.agrees.long)

      is : (ltb 0 (node_at t j).waiting ≡ true) × (eqb (node_at t j).parent c ≡ true)
      is = and_told (ltb 0 (node_at t j).waiting) (eqb (node_at t j).parent c) (ap (is_child c) led.1 ∙ led.2)

      waits : 0 < (node_at t j).waiting
      waits = ltb-true 0 (node_at t j).waiting is.0

      hangs : HangsFrom p c (child_at j)
      hangs = child_hangs c j l low waits (eqb-true (node_at t j).parent c is.1)

      sound : Sound p (child_at j)
      sound = hangs_sound p c (child_at j) hangs

      sending : sends p h (child_at j) ≡ true
      sending =
          tells p u h k (child_at j) sound
          ∙ ap (λ i. not (eqb (node_at t i).waiting 0)) (child_place j)
          ∙ ap not (ne_eqb (node_at t j).waiting 0 (λ z. omega (arith, z, waits)))

      start_is : (y : Child) → HangsFrom p c y → start_tag (seen p c h) y ≡ (node_at t (place_of y)).start.0
      start_is y g = sym ((k.fair c l).starts y g)

      none_before : (y : Child) → HangsFrom p (parent_of p (child_at j)) y → sends p h y ≡ true
          → comes_before (seen p (parent_of p (child_at j)) h) y (child_at j) ≡ false
      none_before y g e =
          let up = hangs_parent p c (child_at j) hangs in
          let g2 : HangsFrom p c y = rw up at g in
          rw (up, start_is y g2, start_is (child_at j) hangs, lower_place p ok y (child_at j) (hangs_sound p c y g2) sound, child_place j)
          (sym (key_before_lem (place_of y) j (node_at t (place_of y)) (node_at t j))
          ∙ ap (λ z. key_before (key_of (place_of y) (node_at t (place_of y))) (key_of j z)) led.1
          ∙ led.3 (place_of y) (sends_held c y g2 e))
