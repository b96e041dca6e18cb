-- Children on a list: which are on it, and which of them a class finds there as its own.
use mathlib.Core.Path.{◌≡◌, refl, sym, ◌∙◌, ap}
use mathlib.Core.Bool.{Bool, true, false, cond, ◌||◌, true≢false, false≢true}
use mathlib.Core.List.{List, [], ◌∷◌}
use Rattle.std.proofs.Common.{Option, None, Some}
use Prim.Native.Nat.{ℕ}
use native.Mathlib.Omega.{arith}
use borrow.Author.Tests.{eqb-true, eq-eqb}
use lib.Dec.{eqb}
use Rattle.places.specs.Members.{Each}
use Rattle.plans.specs.declared.Plan.{Plan}
use Rattle.promises_classes.specs.Rules.{Child, a_class, a_flow, same}
use Rattle.promises_classes.specs.Views.{any_of, parent_of, child_on}

-- children that are the same are equal
pub same_true : (x y : Child) → same x y ≡ true → x ≡ y
same_true (a_class j) (a_class k) e = ap a_class (eqb-true j k e)
same_true (a_class j) (a_flow f) e = absurd (false≢true e)
same_true (a_flow g) (a_class k) e = absurd (false≢true e)
same_true (a_flow g) (a_flow f) e = ap a_flow (eqb-true g f e)

-- a child is the same as itself
pub same_self : (x : Child) → same x x ≡ true
same_self (a_class k) = eq-eqb k k refl
same_self (a_flow f) = eq-eqb f f refl

-- sameness can be asked either way round
same_false : (x y : Child) → same x y ≡ false → same y x ≡ false
same_false x y e = go (same y x) refl
  where
    go : (b : Bool) → same y x ≡ b → b ≡ false
    go true q = absurd (true≢false (sym (same_self y) ∙ rw (sym (same_true y x q)) at e))
    go false q = refl

-- a child is on a list
abbrev pub on : Child → List Child → Bool
on z ws = any_of (same z) ws

-- a child that is on a list is its head or is on the rest
pub on_cases : (z x : Child) (ws : List Child) (P : Type 0) → (z ≡ x → P) → (same z x ≡ false → on z ws ≡ true → P) → on z (x ∷ ws) ≡ true → P
unfolding any_of
on_cases z x ws P here there = go (same z x) refl
  where
    go : (b : Bool) → same z x ≡ b → (b || on z ws) ≡ true → P
    go true q e = here (same_true z x q)
    go false q e = there q e

-- a child that is not on a list is neither its head nor on the rest
off_cases : (z x : Child) (ws : List Child) → on z (x ∷ ws) ≡ false → (same z x ≡ false) × (on z ws ≡ false)
unfolding any_of
off_cases z x ws = go (same z x) refl
  where
    go : (b : Bool) → same z x ≡ b → (b || on z ws) ≡ false → (same z x ≡ false) × (on z ws ≡ false)
    go true q e = absurd (true≢false e)
    go false q e = (q, e)

-- the head is on the list
pub on_head : (z x : Child) (ws : List Child) → same z x ≡ true → on z (x ∷ ws) ≡ true
unfolding any_of
on_head z x ws e = rw e

-- any other child is on the list where it is on the rest
pub on_past : (z x : Child) (ws : List Child) → same z x ≡ false → on z (x ∷ ws) ≡ on z ws
unfolding any_of
on_past z x ws e = rw e

-- what is on the rest is on the list
pub on_more : (z x : Child) (ws : List Child) → on z ws ≡ true → on z (x ∷ ws) ≡ true
unfolding any_of
on_more z x ws e = go (same z x)
  where
    go : (b : Bool) → (b || on z ws) ≡ true
    go true = refl
    go false = e

-- nothing is on the empty list
pub on_none : (z : Child) → on z [] ≡ true → ⊥
unfolding any_of
on_none z e = false≢true e

-- what holds of all that is on a list holds of each
pub each_on : (P : Child → Type 0) (ws : List Child) → ((x : Child) → on x ws ≡ true → P x) → Each P ws
each_on P [] f = tt
each_on P (x ∷ ws) f = (f x (on_head x x ws (same_self x)), each_on P ws (λ z o. f z (on_more z x ws o)))

-- and the other way round
pub on_each : (P : Child → Type 0) (ws : List Child) → Each P ws → (x : Child) → on x ws ≡ true → P x
on_each P [] e x o = absurd (on_none x o)
on_each P (y ∷ ws) e x o = on_cases x y ws (P x) (λ q. rw q e.0) (λ q r. on_each P ws e.1 x r) o

-- what is found is one thing
pub some_is : {A : Type 0} (a b : A) → Some a ≡ Some b → a ≡ b
some_is {A} a b e = ap get e
  where
    get : Option A → A
    get None = a
    get (Some x) = x

-- a child that is found is none that is not on the list
pub child_else : (p : Plan) (c : ℕ) (y z : Child) (ws : List Child) → child_on p c ws ≡ Some z → on y ws ≡ false → same z y ≡ false
unfolding child_on
child_else p c y z [] e o = absurd (let q : ◌≡◌ {A = ℕ} 0 1 = cc in omega arith)
child_else p c y z (x ∷ ws) e o = go (child_else p c y z ws) (eqb (parent_of p x) c) e
  where
    go : (child_on p c ws ≡ Some z → on y ws ≡ false → same z y ≡ false) → (b : Bool) → cond b (Some x) (child_on p c ws) ≡ Some z → same z y ≡ false
    go ih true q = rw (sym (some_is x z q)) (same_false y x (off_cases y x ws o).0)
    go ih false q = ih q (off_cases y x ws o).1

-- a child that is found is on the list, and hangs from the class
pub found_on : (p : Plan) (c : ℕ) (z : Child) (ws : List Child) → child_on p c ws ≡ Some z → (on z ws ≡ true) × (parent_of p z ≡ c)
unfolding child_on
found_on p c z [] e = absurd (let q : ◌≡◌ {A = ℕ} 0 1 = cc in omega arith)
found_on p c z (x ∷ ws) e = go (found_on p c z ws) (eqb (parent_of p x) c) refl e
  where
    go : (child_on p c ws ≡ Some z → (on z ws ≡ true) × (parent_of p z ≡ c)) → (b : Bool) → eqb (parent_of p x) c ≡ b
        → cond b (Some x) (child_on p c ws) ≡ Some z → (on z (x ∷ ws) ≡ true) × (parent_of p z ≡ c)
    go ih true q h = let e = some_is x z h in (on_head z x ws (rw e (same_self z)), rw (sym e) (eqb-true (parent_of p x) c q))
    go ih false q h = (on_more z x ws (ih h).0, (ih h).1)
