-- Who has something to send: a class has where some child of it has, and only there.
use mathlib.Core.Path.{◌≡◌, refl, sym, ◌∙◌, ap}
use mathlib.Core.Bool.{Bool, true, false, cond, ◌&&◌, ◌||◌}
use mathlib.Core.Logic.{inl, inr}
use mathlib.Core.List.{List, [], ◌∷◌}
use Prim.Native.Nat.{ℕ, zero, suc, ◌<◌}
use native.Mathlib.Omega.{arith}
use borrow.Author.Tests.{ltb-true, lt-ltb, eqb-true, eqb-false, ne_eqb}
use lib.Dec.{eqb, ltb}
use Rattle.places.proofs.Tests.{and_told, eqb_self}
use Rattle.plans.specs.declared.Plan.{Plan}
use Rattle.plans.specs.Plans.{class_in, Fits}
use Rattle.plans.proofs.Numbered.{any_told, any_passes}
use Rattle.promises_queue.specs.Refused.{waiting_in}
use Rattle.promises_classes.specs.Events.{History, packets_in}
use Rattle.promises_classes.specs.Rules.{Child, a_class, a_flow}
use Rattle.promises_classes.specs.Views.{parent_of, HangsFrom, way_from, way_to, below, sends}
use Rattle.promises_classes.proofs.On.{same_self, on, on_cases, on_head, on_more, on_none, on_past}
use Rattle.promises_classes.proofs.Ways.{Sound, sound_hangs, rest, way_sound, Reaches, reaches, on_up}
use Rattle.promises_classes.proofs.Counts.{below_on}

module _ (p : Plan) (h : History) (x : Child) where
  -- a flow of which some packet waits, below a child that has something to send
  sends_told : sends p h x ≡ true → (i : ℕ) × (i < 16) × (below p x i ≡ true) × (0 < waiting_in (packets_in h) i)
  unfolding sends
  sends_told e =
      let w = any_told (λ f. below p x f && ltb 0 (waiting_in (packets_in h) f)) 0 16 e in
      let b = and_told (below p x w.0) (ltb 0 (waiting_in (packets_in h) w.0)) w.3 in
      let l = w.2 in
      (w.0, omega (arith, l), b.0, ltb-true 0 (waiting_in (packets_in h) w.0) b.1)

  -- a child has something to send where a packet of a flow below it waits
  told_sends : (i : ℕ) → i < 16 → below p x i ≡ true → 0 < waiting_in (packets_in h) i → sends p h x ≡ true
  unfolding sends
  told_sends i l e w =
      any_passes (λ f. below p x f && ltb 0 (waiting_in (packets_in h) f)) i 0 16 (omega arith) (omega (arith, l))
      (rw (e, lt-ltb 0 (waiting_in (packets_in h) i) w))

-- the root has where any packet waits
pub root_sends : (p : Plan) (h : History) (i : ℕ) → i < 16 → 0 < waiting_in (packets_in h) i → sends p h (a_class 0) ≡ true
root_sends p h i l w = told_sends p h (a_class 0) i l refl w

-- a flow has where some packet of it waits
pub flow_waits : (p : Plan) (h : History) (f : ℕ) → sends p h (a_flow f) ≡ true → 0 < waiting_in (packets_in h) f
flow_waits p h f e = let w = sends_told p h (a_flow f) e in rw (eqb-true f w.0 w.2) w.3

-- and the other way round
pub flow_sends : (p : Plan) (h : History) (f : ℕ) → f < 16 → 0 < waiting_in (packets_in h) f → sends p h (a_flow f) ≡ true
flow_sends p h f l w = told_sends p h (a_flow f) f l (eqb_self f) w

module _ (p : Plan) (ok : Fits p) (c : ℕ) where
  -- what is below a child is below its class
  pub below_up : (x : Child) → HangsFrom p c x → (i : ℕ) → i < 16 → below p x i ≡ true → below p (a_class c) i ≡ true
  unfolding way_from
  below_up x g i l e = go (eqb c 0) refl
    where
      above : (x : Child) → HangsFrom p c x → below p x i ≡ true → (c ≡ 0 → ⊥) → on (a_class c) (way_to p i) ≡ true
      above (a_class k) g e n =
          rw g.2 at
          (on_up p 4 (a_flow i) k (reaches p ok i l) (sym (below_on p (a_class k) i (g.0, g.1, refl)) ∙ e) (λ z. n (sym g.2 ∙ z)))
      above (a_flow f) g e n =
          let b : class_in p i ≡ c = ap (class_in p) (sym (eqb-true f i e)) ∙ g.1 in
          on_more (a_class c) (a_flow i) (rest p 3 (a_flow i)) (rw (b, ne_eqb c 0 n) (on_head (a_class c) (a_class c) _ (same_self (a_class c))))

      go : (b : Bool) → eqb c 0 ≡ b → (b || on (a_class c) (way_to p i)) ≡ true
      go true q = refl
      go false q = above x g e (eqb-false c 0 q)

  -- a class of which a child has something to send has something to send
  pub sends_up : (h : History) (x : Child) → HangsFrom p c x → sends p h x ≡ true → sends p h (a_class c) ≡ true
  sends_up h x g e = let w = sends_told p h x e in told_sends p h (a_class c) w.0 w.1 (below_up x g w.0 w.1 w.2) w.3

  -- a child of a class, on a list
  abbrev pub Found : List Child → Type 0
  Found ws = (y : Child) × (on y ws ≡ true) × (parent_of p y ≡ c)

  -- the same on a longer one
  found_more : (x : Child) (ws : List Child) → Found ws → Found (x ∷ ws)
  found_more x ws w = (w.0, on_more w.0 x ws w.1, w.2)

  -- the head is one
  found_head : (x : Child) (ws : List Child) → parent_of p x ≡ c → Found (x ∷ ws)
  found_head x ws e = (x, on_head x x ws (same_self x), e)

  -- on a way that comes to the root there is a child of the root
  root_child : c ≡ 0 → (n : ℕ) (x : Child) → Reaches p n x → Found (way_from n p x)
  unfolding way_from
  root_child z zero x r = absurd r
  root_child z (suc n) x r = go (root_child z n) (eqb (parent_of p x) 0) refl r
    where
      go : ((x : Child) → Reaches p n x → Found (way_from n p x)) → (b : Bool) → eqb (parent_of p x) 0 ≡ b → Reaches p (suc n) x
          → Found (x ∷ cond b [] (way_from n p (a_class (parent_of p x))))
      go ih true q r = found_head x [] (eqb-true (parent_of p x) 0 q ∙ sym z)
      go ih false q (inl e) = absurd (eqb-false (parent_of p x) 0 q e)
      go ih false q (inr r) = found_more x (way_from n p (a_class (parent_of p x))) (ih (a_class (parent_of p x)) r)

  -- below a class further up a way there is a child of it
  class_child : (n : ℕ) (x : Child) → on (a_class c) (rest p n x) ≡ true → Found (x ∷ rest p n x)
  unfolding way_from
  class_child zero x = go (eqb (parent_of p x) 0)
    where
      go : (b : Bool) → on (a_class c) (cond b [] []) ≡ true → Found (x ∷ cond b [] [])
      go true o = absurd (on_none (a_class c) o)
      go false o = absurd (on_none (a_class c) o)
  class_child (suc n) x = go (class_child n (a_class (parent_of p x))) (eqb (parent_of p x) 0)
    where
      number : Child → ℕ
      number (a_class j) = j
      number (a_flow j) = j

      go : (on (a_class c) (rest p n (a_class (parent_of p x))) ≡ true → Found (a_class (parent_of p x) ∷ rest p n (a_class (parent_of p x))))
          → (b : Bool) → on (a_class c) (cond b [] (a_class (parent_of p x) ∷ rest p n (a_class (parent_of p x)))) ≡ true
          → Found (x ∷ cond b [] (a_class (parent_of p x) ∷ rest p n (a_class (parent_of p x))))
      go ih true o = absurd (on_none (a_class c) o)
      go ih false o =
          on_cases (a_class c) (a_class (parent_of p x)) (rest p n (a_class (parent_of p x))) (Found (x ∷ a_class (parent_of p x) ∷ rest p n (a_class (parent_of p x))))
          (λ e. found_head x (a_class (parent_of p x) ∷ rest p n (a_class (parent_of p x))) (sym (ap number e)))
          (λ q r. found_more x (a_class (parent_of p x) ∷ rest p n (a_class (parent_of p x))) (ih r)) o

  -- on the way of a flow below a class there is a child of it
  pub way_child : (i : ℕ) → i < 16 → below p (a_class c) i ≡ true → Found (way_to p i)
  unfolding way_from
  way_child i l = go (eqb c 0) refl
    where
      go : (b : Bool) → eqb c 0 ≡ b → (b || on (a_class c) (way_to p i)) ≡ true → Found (way_to p i)
      go true q e = root_child (eqb-true c 0 q) 4 (a_flow i) (reaches p ok i l)
      go false q e = class_child 3 (a_flow i) (sym (on_past (a_class c) (a_flow i) (rest p 3 (a_flow i)) refl) ∙ e)

  -- a class that has something to send has a child that has
  pub sends_down : (h : History) → sends p h (a_class c) ≡ true → (y : Child) × HangsFrom p c y × (sends p h y ≡ true)
  sends_down h e =
      let w = sends_told p h (a_class c) e in
      let y = way_child w.0 w.1 w.2 in
      let s : Sound p y.0 = way_sound p ok 4 (a_flow w.0) y.0 (w.1, refl) y.1 in
      (y.0, sound_hangs p c y.0 s y.2, told_sends p h y.0 w.0 w.1 (below_on p y.0 w.0 s ∙ y.1) w.3)
