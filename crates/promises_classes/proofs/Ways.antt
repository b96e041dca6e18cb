-- The way from a flow up to the root: each child on it hangs from another class, of ever lower number, and it comes to the root in four steps
-- at most.
use mathlib.Core.Path.{◌≡◌, refl, sym, ◌∙◌, ap}
use mathlib.Core.Bool.{Bool, true, false, cond}
use mathlib.Core.Logic.{◌⊎◌, inl, inr}
use mathlib.Core.List.{List, []}
use Rattle.std.proofs.Common.{Option, None, Some}
use Prim.Native.Nat.{ℕ, zero, suc, ◌≤◌, ◌<◌}
use native.Mathlib.Omega.{arith}
use borrow.Author.Tests.{eqb-true, eqb-false, eq-eqb, ne_eqb}
use lib.Dec.{eqb}
use Rattle.plans.specs.declared.Plan.{Plan}
use Rattle.plans.specs.Plans.{parent_in, class_in, FourDeep, Fits}
use Rattle.promises_classes.specs.Rules.{Child, a_class, a_flow}
use Rattle.promises_classes.specs.Views.{parent_of, HangsFrom, way_from, child_on}
use Rattle.promises_classes.proofs.On.{same_self, on, on_cases, on_head, on_more, on_none, found_on}

module _ (p : Plan) where
  -- a child of the plan
  abbrev pub Sound : Child → Type 0
  Sound x = HangsFrom p (parent_of p x) x

  -- a child that hangs from a class has it as its parent
  pub hangs_parent : (c : ℕ) (x : Child) → HangsFrom p c x → parent_of p x ≡ c
  hangs_parent c (a_class k) h = h.2
  hangs_parent c (a_flow f) h = h.1

  -- and is a child of the plan
  pub hangs_sound : (c : ℕ) (x : Child) → HangsFrom p c x → Sound x
  hangs_sound c (a_class k) h = (h.0, h.1, refl)
  hangs_sound c (a_flow f) h = (h.0, refl)

  -- a child of the plan hangs from its parent
  pub sound_hangs : (c : ℕ) (x : Child) → Sound x → parent_of p x ≡ c → HangsFrom p c x
  sound_hangs c (a_class k) s e = (s.0, s.1, e)
  sound_hangs c (a_flow f) s e = (s.0, e)

  -- the rest of a way, past its first child
  abbrev pub rest : ℕ → Child → List Child
  rest n x = cond (eqb (parent_of p x) 0) [] (way_from n p (a_class (parent_of p x)))

module _ (p : Plan) (ok : Fits p) where
  -- the class that a child hangs from is one of the plan's
  pub up_low : (x : Child) → Sound p x → parent_of p x < p.count
  up_low (a_class k) h = let l = ok.falls k h.0 h.1 in omega (arith, l, h.1)
  up_low (a_flow f) h = ok.named f (omega (arith, h.0))

  -- and is the root or a child too
  pub up_sound : (x : Child) → Sound p x → (parent_of p x ≡ 0 → ⊥) → Sound p (a_class (parent_of p x))
  up_sound x h n = (omega (arith, n), up_low x h, refl)

  -- on the rest of a way every child hangs from a lower class, if it is so on the way from that class
  rest_falls : (n : ℕ) (x z : Child) → Sound p x
      → ((k : ℕ) → 0 < k → k < p.count → on z (way_from n p (a_class k)) ≡ true → parent_of p z < k)
      → on z (rest p n x) ≡ true → parent_of p z < parent_of p x
  rest_falls n x z s ih = go (eqb (parent_of p x) 0) refl
    where
      go : (b : Bool) → eqb (parent_of p x) 0 ≡ b → on z (cond b [] (way_from n p (a_class (parent_of p x)))) ≡ true → parent_of p z < parent_of p x
      go true q o = absurd (on_none z o)
      go false q o = let n0 : parent_of p x ≡ 0 → ⊥ = eqb-false (parent_of p x) 0 q in ih (parent_of p x) (omega (arith, n0)) (up_low x s) o

  -- on the way from a class every child hangs from a lower class
  way_falls : (n : ℕ) (z : Child) (k : ℕ) → 0 < k → k < p.count → on z (way_from n p (a_class k)) ≡ true → parent_of p z < k
  unfolding way_from
  way_falls zero z k a b o = absurd (on_none z o)
  way_falls (suc n) z k a b o =
      on_cases z (a_class k) (rest p n (a_class k)) (parent_of p z < k) (λ e. rw e (ok.falls k a b))
      (λ q r.
      let l = ok.falls k a b in
      let m = rest_falls n (a_class k) z (a, b, refl) (way_falls n z) r in
      omega (arith, l, m)) o

  -- on the rest of a way every child hangs from a class lower than the first child's
  pub falls : (n : ℕ) (x z : Child) → Sound p x → on z (rest p n x) ≡ true → parent_of p z < parent_of p x
  falls n x z s = rest_falls n x z s (way_falls n z)

  -- no child is on the rest of its own way
  pub once : (n : ℕ) (x : Child) → Sound p x → on x (rest p n x) ≡ false
  once n x s = go (on x (rest p n x)) refl
    where
      go : (b : Bool) → on x (rest p n x) ≡ b → b ≡ false
      go true q = let l = falls n x x s q in absurd (omega (arith, l))
      go false q = refl

  -- a child on a way is the one that its class finds on it
  pub child_here : (n : ℕ) (x y : Child) → Sound p x → on y (way_from n p x) ≡ true → child_on p (parent_of p y) (way_from n p x) ≡ Some y
  unfolding way_from child_on
  child_here zero x y s o = absurd (on_none y o)
  child_here (suc n) x y s o =
      on_cases y x (rest p n x) (cond (eqb (parent_of p x) (parent_of p y)) (Some x) (child_on p (parent_of p y) (rest p n x)) ≡ Some y)
      (λ e. rw (e, eq-eqb (parent_of p x) (parent_of p x) refl))
      (λ q r.
      let l = falls n x y s r in
      let ne : parent_of p x ≡ parent_of p y → ⊥ = λ e. omega (arith, l, e) in
      rw (ne_eqb (parent_of p x) (parent_of p y) ne) (go (child_here n) (eqb (parent_of p x) 0) refl r)) o
    where
      go : ((x y : Child) → Sound p x → on y (way_from n p x) ≡ true → child_on p (parent_of p y) (way_from n p x) ≡ Some y)
          → (b : Bool) → eqb (parent_of p x) 0 ≡ b → on y (cond b [] (way_from n p (a_class (parent_of p x)))) ≡ true
          → child_on p (parent_of p y) (cond b [] (way_from n p (a_class (parent_of p x)))) ≡ Some y
      go ih true q r = absurd (on_none y r)
      go ih false q r = ih (a_class (parent_of p x)) y (up_sound x s (eqb-false (parent_of p x) 0 q)) r

  -- no class finds a child on the rest of a way from it
  pub none_further : (n : ℕ) (x : Child) → Sound p x → child_on p (parent_of p x) (rest p n x) ≡ None
  none_further n x s = go (child_on p (parent_of p x) (rest p n x)) refl
    where
      go : (o : Option Child) → child_on p (parent_of p x) (rest p n x) ≡ o → o ≡ None
      go None q = refl
      go (Some z) q =
          let w = found_on p (parent_of p x) z (rest p n x) q in
          let l = falls n x z s w.0 in
          absurd (omega (arith, l, w.1))

  -- whatever is on a way is a child of the plan
  pub way_sound : (n : ℕ) (x z : Child) → Sound p x → on z (way_from n p x) ≡ true → Sound p z
  unfolding way_from
  way_sound zero x z s o = absurd (on_none z o)
  way_sound (suc n) x z s o = on_cases z x (rest p n x) (Sound p z) (λ e. rw e s) (λ q r. go (way_sound n) (eqb (parent_of p x) 0) refl r) o
    where
      go : ((x z : Child) → Sound p x → on z (way_from n p x) ≡ true → Sound p z) → (b : Bool) → eqb (parent_of p x) 0 ≡ b
          → on z (cond b [] (way_from n p (a_class (parent_of p x)))) ≡ true → Sound p z
      go ih true q r = absurd (on_none z r)
      go ih false q r = ih (a_class (parent_of p x)) z (up_sound x s (eqb-false (parent_of p x) 0 q)) r

  -- a class further up a way has no higher number than the class that the way goes on from
  rest_number : (n : ℕ) (x : Child) (k : ℕ) → Sound p x
      → ((j : ℕ) → 0 < j → j < p.count → on (a_class k) (way_from n p (a_class j)) ≡ true → k ≤ j)
      → on (a_class k) (rest p n x) ≡ true → k ≤ parent_of p x
  rest_number n x k s ih = go (eqb (parent_of p x) 0) refl
    where
      go : (b : Bool) → eqb (parent_of p x) 0 ≡ b → on (a_class k) (cond b [] (way_from n p (a_class (parent_of p x)))) ≡ true → k ≤ parent_of p x
      go true q o = absurd (on_none (a_class k) o)
      go false q o = let n0 : parent_of p x ≡ 0 → ⊥ = eqb-false (parent_of p x) 0 q in ih (parent_of p x) (omega (arith, n0)) (up_low x s) o

  -- a class on the way from another has no higher number
  way_number : (n k j : ℕ) → 0 < j → j < p.count → on (a_class k) (way_from n p (a_class j)) ≡ true → k ≤ j
  unfolding way_from
  way_number zero k j a b o = absurd (on_none (a_class k) o)
  way_number (suc n) k j a b o =
      on_cases (a_class k) (a_class j) (rest p n (a_class j)) (k ≤ j) (λ e. class_number k j e)
      (λ q r.
      let l = rest_number n (a_class j) k (a, b, refl) (way_number n k) r in
      let m = ok.falls j a b in
      omega (arith, l, m)) o
    where
      number : Child → ℕ
      number (a_class i) = i
      number (a_flow i) = i

      class_number : (k j : ℕ) → a_class k ≡ a_class j → k ≤ j
      class_number k j e = let z : k ≡ j = ap number e in omega (arith, z)

  -- two children on a way, one of them a class: the other hangs from that class or from one below it, or is it, or hangs further up
  pub way_order : (n : ℕ) (z x : Child) (k : ℕ) → Sound p z → on x (way_from n p z) ≡ true → on (a_class k) (way_from n p z) ≡ true
      → (k ≤ parent_of p x) ⊎ (x ≡ a_class k) ⊎ (parent_of p x < parent_in p k)
  unfolding way_from
  way_order zero z x k s o r = absurd (on_none x o)
  way_order (suc n) z x k s o r =
      on_cases x z (rest p n z) _
      (λ e.
      on_cases (a_class k) z (rest p n z) _ (λ d. inr (inl (e ∙ sym d)))
      (λ q m. inl (rw e (rest_number n z k s (way_number n k) m))) r)
      (λ q m.
      on_cases (a_class k) z (rest p n z) _ (λ d. inr (inr (rw (ap (parent_of p) d) (falls n z x s m))))
      (λ t w. go (way_order n) (eqb (parent_of p z) 0) refl m w) r) o
    where
      go : ((z x : Child) (k : ℕ) → Sound p z → on x (way_from n p z) ≡ true → on (a_class k) (way_from n p z) ≡ true
          → (k ≤ parent_of p x) ⊎ (x ≡ a_class k) ⊎ (parent_of p x < parent_in p k))
          → (b : Bool) → eqb (parent_of p z) 0 ≡ b → on x (cond b [] (way_from n p (a_class (parent_of p z)))) ≡ true
          → on (a_class k) (cond b [] (way_from n p (a_class (parent_of p z)))) ≡ true
          → (k ≤ parent_of p x) ⊎ (x ≡ a_class k) ⊎ (parent_of p x < parent_in p k)
      go ih true q m w = absurd (on_none x m)
      go ih false q m w = ih (a_class (parent_of p z)) x k (up_sound z s (eqb-false (parent_of p z) 0 q)) m w

-- the way from a child comes to the root in n steps
abbrev pub Reaches : Plan → ℕ → Child → Type 0
Reaches p zero x = ⊥
Reaches p (suc n) x = (parent_of p x ≡ 0) ⊎ Reaches p n (a_class (parent_of p x))

-- that of a flow in four, since a class is at most four deep
four_reach : (p : Plan) (f : ℕ) → FourDeep p (class_in p f) → Reaches p 4 (a_flow f)
four_reach p f (inl e) = inl e
four_reach p f (inr (inl e)) = inr (inl e)
four_reach p f (inr (inr (inl e))) = inr (inr (inl e))
four_reach p f (inr (inr (inr e))) = inr (inr (inr (inl e)))

-- the way of a flow comes to the root
pub reaches : (p : Plan) → Fits p → (f : ℕ) → f < 16 → Reaches p 4 (a_flow f)
reaches p ok f l = four_reach p f (ok.depth (class_in p f) (ok.named f l))

-- a way has its own beginning on it
pub head_on : (p : Plan) (n : ℕ) (x : Child) → Reaches p n x → on x (way_from n p x) ≡ true
unfolding way_from
head_on p zero x r = absurd r
head_on p (suc n) x r = on_head x x _ (same_self x)

-- and above each class on it the class which that one hangs from
pub on_up : (p : Plan) (n : ℕ) (z : Child) (k : ℕ) → Reaches p n z → on (a_class k) (way_from n p z) ≡ true → (parent_in p k ≡ 0 → ⊥)
    → on (a_class (parent_in p k)) (way_from n p z) ≡ true
unfolding way_from
on_up p zero z k r o ne = absurd r
on_up p (suc n) z k r o ne =
    on_more (a_class (parent_in p k)) z (cond (eqb (parent_of p z) 0) [] (way_from n p (a_class (parent_of p z))))
    (on_cases (a_class k) z (cond (eqb (parent_of p z) 0) [] (way_from n p (a_class (parent_of p z)))) _
    (λ e. here (eqb (parent_of p z) 0) refl r (ap (parent_of p) e))
    (λ q m. there (on_up p n) (eqb (parent_of p z) 0) refl r m) o)
  where
    here : (b : Bool) → eqb (parent_of p z) 0 ≡ b → Reaches p (suc n) z → parent_in p k ≡ parent_of p z
        → on (a_class (parent_in p k)) (cond b [] (way_from n p (a_class (parent_of p z)))) ≡ true
    here true q r e = absurd (ne (e ∙ eqb-true (parent_of p z) 0 q))
    here false q (inl d) e = absurd (eqb-false (parent_of p z) 0 q d)
    here false q (inr d) e = rw e (head_on p n (a_class (parent_of p z)) d)

    there : ((z : Child) (k : ℕ) → Reaches p n z → on (a_class k) (way_from n p z) ≡ true → (parent_in p k ≡ 0 → ⊥) → on (a_class (parent_in p k)) (way_from n p z) ≡ true)
        → (b : Bool) → eqb (parent_of p z) 0 ≡ b → Reaches p (suc n) z → on (a_class k) (cond b [] (way_from n p (a_class (parent_of p z)))) ≡ true
        → on (a_class (parent_in p k)) (cond b [] (way_from n p (a_class (parent_of p z)))) ≡ true
    there ih true q r m = absurd (on_none (a_class k) m)
    there ih false q (inl d) m = absurd (eqb-false (parent_of p z) 0 q d)
    there ih false q (inr d) m = ih (a_class (parent_of p z)) k d m ne
