-- The way down: every child on the way of the flow that is met goes first in its class; and a flow is met where anything waits, since a class is
-- at most four deep.
use mathlib.Core.Path.{◌≡◌, refl, sym, ◌∙◌}
use mathlib.Core.Bool.{Bool, true, false, cond}
use mathlib.Core.Logic.{◌⊎◌, inl, inr, ⊎_elim}
use mathlib.Core.List.{◌∷◌}
use Prim.Native.Nat.{ℕ, zero, suc, ◌+◌, ◌-◌, ◌≤◌, ◌<◌}
use native.Mathlib.Omega.{arith}
use borrow.Author.Tests.{eqb-true, eqb-false}
use lib.Dec.{eqb, leb}
use Rattle.places.specs.Members.{Each}
use Rattle.places.specs.Choice.{Choice, nothing, at}
use Rattle.plans.specs.declared.Plan.{Plan}
use Rattle.plans.specs.Plans.{parent_in, class_in, FourDeep, Fits}
use Rattle.tree.specs.declared.Node.{Node}
use Rattle.tree.specs.declared.Tree.{Tree}
use Rattle.tree.specs.Tree.{node_of, node_at}
use Rattle.descent.specs.Descent.{least_child, place_in, on_from, descend_of, flow_met}
use Rattle.classes.specs.declared.Classes.{Classes}
use Rattle.promises_queue.specs.Refused.{waiting_in}
use Rattle.promises_classes.specs.Events.{History, packets_in}
use Rattle.promises_classes.specs.Rules.{Child, a_class, a_flow, start_tag}
use Rattle.promises_classes.specs.Views.{parent_of, HangsFrom, way_from, way_to, sends, seen}
use Rattle.promises_classes.specs.Promised.{GoesFirst}
use Rattle.promises_classes.proofs.On.{same_self, on, on_cases, on_head, on_more, each_on}
use Rattle.promises_classes.proofs.Ways.{falls, rest, way_order, reaches, head_on, on_up}
use Rattle.promises_classes.proofs.Sending.{sends_down, flow_waits}
use Rattle.promises_classes.proofs.Kept.{TreeKept}
use Rattle.promises_classes.proofs.Least.{child_at, least_some, least_first}

-- a class that hangs from the root by so many steps
abbrev Down : Plan → ℕ → ℕ → Type 0
Down p zero c = c ≡ 0
Down p (suc n) c = (0 < c) × Down p n (parent_in p c)

-- none hangs from it by four
not_four : (p : Plan) (c : ℕ) → FourDeep p c → Down p 4 c → ⊥
not_four p c (inl e) d = omega (arith, e, d.0)
not_four p c (inr (inl e)) d = omega (arith, e, d.1.0)
not_four p c (inr (inr (inl e))) d = omega (arith, e, d.1.1.0)
not_four p c (inr (inr (inr e))) d = omega (arith, e, d.1.1.1.0)

module _ (p : Plan) (ok : Fits p) (u : Classes) (h : History) (k : TreeKept p u h) where
  -- the tree that is gone down in
  abbrev t : Tree
  t = u.tree

  -- What is known of the flow that is met below a class: the class is on its way, and all children from there down go first.
  abbrev Meets : ℕ → ℕ → Type 0
  Meets c f = ((c ≡ 0) ⊎ (on (a_class c) (way_to p f) ≡ true)) × ((x : Child) → on x (way_to p f) ≡ true → c ≤ parent_of p x → GoesFirst p h x)

  -- where the flow is the child that goes first
  at_flow : (c f : ℕ) → HangsFrom p c (a_flow f) → GoesFirst p h (a_flow f) → Meets c f
  unfolding way_from
  at_flow c f g first = (above (eqb (class_in p f) 0) refl, all)
    where
      above : (b : Bool) → eqb (class_in p f) 0 ≡ b → (c ≡ 0) ⊎ (on (a_class c) (a_flow f ∷ rest p 3 (a_flow f)) ≡ true)
      above true q = inl (sym g.1 ∙ eqb-true (class_in p f) 0 q)
      above false q =
          inr
          (on_more (a_class c) (a_flow f) (rest p 3 (a_flow f))
          (rw (q, g.1) (on_head (a_class c) (a_class c) (rest p 2 (a_class c)) (same_self (a_class c)))))

      all : (x : Child) → on x (a_flow f ∷ rest p 3 (a_flow f)) ≡ true → c ≤ parent_of p x → GoesFirst p h x
      all x o l =
          on_cases x (a_flow f) (rest p 3 (a_flow f)) (GoesFirst p h x) (λ e. rw e first)
          (λ q r. let m = falls p ok 3 (a_flow f) x (g.0, refl) r in absurd (omega (arith, m, l, g.1))) o

  -- where a class is, below which the flow is met
  at_class : (c j f : ℕ) → f < 16 → HangsFrom p c (a_class j) → GoesFirst p h (a_class j) → Meets j f → Meets c f
  at_class c j f low g first d = (above (eqb c 0) refl, all)
    where
      here : on (a_class j) (way_to p f) ≡ true
      here = ⊎_elim (λ e. absurd (omega (arith, e, g.0))) (λ o. o) d.0

      above : (b : Bool) → eqb c 0 ≡ b → (c ≡ 0) ⊎ (on (a_class c) (way_to p f) ≡ true)
      above true q = inl (eqb-true c 0 q)
      above false q = inr (rw g.2 at (on_up p 4 (a_flow f) j (reaches p ok f low) here (λ e. eqb-false c 0 q (sym g.2 ∙ e))))

      all : (x : Child) → on x (way_to p f) ≡ true → c ≤ parent_of p x → GoesFirst p h x
      all x o l =
          ⊎_elim (λ m. d.1 x o m) (⊎_elim (λ e. rw e first) (λ m. absurd (omega (arith, m, l, g.2))))
          (way_order p ok 4 (a_flow f) x j (low, refl) o here)

  -- so it is known of whatever flow is met
  descends : (n c f : ℕ) → f < 16 → c < p.count → descend_of n t c ≡ f → Meets c f
  unfolding descend_of
  descends zero c f low l e = absurd (omega (arith, e, low))
  descends (suc n) c f low l e = go (descends n) (least_child t c) refl e
    where
      on_from_lem : (j : ℕ) → ((c f : ℕ) → f < 16 → c < p.count → descend_of n t c ≡ f → Meets c f) → HangsFrom p c (child_at j)
          → GoesFirst p h (child_at j) → (b : Bool) → leb 31 j ≡ b → cond b (j - 31) (descend_of n t j) ≡ f → Meets c f
      on_from_lem j ih g first true q m = rw (sym m) (at_flow c (j - 31) (rw q at g) (rw q at first))
      on_from_lem j ih g first false q m =
          let g2 : HangsFrom p c (a_class j) = rw q at g in at_class c j f low g2 (rw q at first) (ih j f low g2.1 m)

      go : ((c f : ℕ) → f < 16 → c < p.count → descend_of n t c ≡ f → Meets c f) → (o : Choice Node) → least_child t c ≡ o
          → on_from (descend_of n t) (place_in o) ≡ f → Meets c f
      go ih nothing q m = absurd (omega (arith, m, low))
      go ih (at j x) q m = let w = least_first p ok u h k c j x l q in on_from_lem j ih w.1 w.2 (leb 31 j) refl m

  -- below a class that has something to send a flow is met, in as many steps as are left below it
  meets : (n d c : ℕ) → n + d ≡ 4 → Down p d c → c < p.count → sends p h (a_class c) ≡ true → descend_of n t c < 16
  unfolding descend_of
  meets zero d c s r l e =
      let z : d ≡ 4 = omega (arith, s) in
      absurd (not_four p c (ok.depth c l) (rw z at r))
  meets (suc n) d c s r l e = go (meets n) (least_child t c) refl
    where
      on_from_lem : (j : ℕ) → ((d c : ℕ) → n + d ≡ 4 → Down p d c → c < p.count → sends p h (a_class c) ≡ true → descend_of n t c < 16)
          → j < 47 → HangsFrom p c (child_at j) → GoesFirst p h (child_at j) → (b : Bool) → leb 31 j ≡ b → cond b (j - 31) (descend_of n t j) < 16
      on_from_lem j ih m g first true q = omega (arith, m)
      on_from_lem j ih m g first false q =
          let g2 : HangsFrom p c (a_class j) = rw q at g in
          let first2 : GoesFirst p h (a_class j) = rw q at first in
          ih (suc d) j (omega (arith, s)) (g2.0, rw g2.2 r) g2.1 first2.0

      go : ((d c : ℕ) → n + d ≡ 4 → Down p d c → c < p.count → sends p h (a_class c) ≡ true → descend_of n t c < 16) → (o : Choice Node)
          → least_child t c ≡ o → on_from (descend_of n t) (place_in o) < 16
      go ih nothing q = let y = sends_down p ok c h e in absurd (least_some p ok u h k c y.0 y.1 y.2 q)
      go ih (at j x) q = let w = least_first p ok u h k c j x l q in on_from_lem j ih w.0 w.1 w.2 (leb 31 j) refl

  -- T2: every child on the way of the flow that is met goes first in its class
  pub met_first : (f : ℕ) → f < 16 → flow_met u.tree ≡ f → Each (GoesFirst p h) (way_to p f)
  met_first f low e =
      let d = descends 4 0 f low (omega (arith, ok.rooted)) e in each_on (GoesFirst p h) (way_to p f) (λ x o. d.1 x o (omega arith))

  -- some packet of that flow waits
  pub met_waits : (f : ℕ) → f < 16 → flow_met u.tree ≡ f → 0 < waiting_in (packets_in h) f
  met_waits f low e =
      let d = descends 4 0 f low (omega (arith, ok.rooted)) e in
      flow_waits p h f (d.1 (a_flow f) (head_on p 4 (a_flow f) (reaches p ok f low)) (omega arith)).0

  -- the start that a begin answers is that of the flow, in its own class
  pub start_told_lem : (f : ℕ) → f < 16 → (node_at u.tree (node_of f)).start.0 ≡ start_tag (seen p (class_in p f) h) (a_flow f)
  start_told_lem f low = (k.fair (class_in p f) (ok.named f low)).starts (a_flow f) (low, refl)

  -- a flow is met where the root has something to send
  pub met_some : sends p h (a_class 0) ≡ true → flow_met u.tree < 16
  met_some e = meets 4 0 0 refl refl (omega (arith, ok.rooted)) e
