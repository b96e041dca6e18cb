-- Which flow a begin comes to, by the tests: those say what going first means, and no begin comes to two flows, since in a class one child at
-- most goes first.
use mathlib.Core.Path.{◌≡◌, refl, sym, ◌∙◌, ap}
use mathlib.Core.Bool.{Bool, true, false, not, ◌&&◌, ◌||◌, true≢false}
use mathlib.Core.List.{List, [], ◌∷◌}
use Prim.Native.Nat.{ℕ, zero, suc, ◌+◌, ◌≤◌, ◌<◌}
use native.Mathlib.Omega.{arith}
use borrow.Author.Tests.{eqb-true, eqb-false, eq-eqb, ltb-true, ltb-false, lt-ltb, not-true, not-false}
use lib.Dec.{eqb, ltb}
use Rattle.places.specs.Members.{Each}
use Rattle.places.proofs.Members.{each_map}
use Rattle.places.proofs.Tests.{and_told, neither_told}
use Rattle.plans.specs.declared.Plan.{Plan}
use Rattle.plans.specs.Numbered.{any_from}
use Rattle.plans.specs.Plans.{parent_in, class_in, Fits}
use Rattle.plans.proofs.Numbered.{or_none, any_none, none_any}
use Rattle.promises_classes.specs.Events.{History}
use Rattle.promises_classes.specs.Rules.{Child, a_class, a_flow, Seen, start_tag, lower, comes_before}
use Rattle.promises_classes.specs.Views.{any_of, parent_of, HangsFrom, way_to, below, sends, seen}
use Rattle.promises_classes.specs.Promised.{GoesFirst}
use Rattle.promises_classes.specs.Refused.{is_rival, goes_first, comes_to}
use Rattle.promises_classes.proofs.On.{on, on_each}
use Rattle.promises_classes.proofs.Ways.{Sound, sound_hangs, up_low, way_sound}
use Rattle.promises_classes.proofs.Counts.{below_on}
use Rattle.promises_classes.proofs.Sending.{below_up, way_child}

module _ {A : Type 0} (test : A → Bool) where
  -- where no element passes, each fails
  pub none_of : (xs : List A) → any_of test xs ≡ false → Each (λ x. test x ≡ false) xs
  unfolding any_of
  none_of [] e = tt
  none_of (x ∷ xs) e = let n = neither_told (test x) (any_of test xs) e in (n.0, none_of xs n.1)

  -- and the other way round
  pub of_none : (xs : List A) → Each (λ x. test x ≡ false) xs → any_of test xs ≡ false
  unfolding any_of
  of_none [] e = refl
  of_none (x ∷ xs) e = or_none (test x) (any_of test xs) e.0 (of_none xs e.1)

-- two children of which neither is the lower are the same
lower_same : (x y : Child) → lower x y ≡ false → lower y x ≡ false → x ≡ y
lower_same (a_class j) (a_class k) a b = let l = ltb-false j k a in let m = ltb-false k j b in ap a_class (omega (arith, l, m))
lower_same (a_class j) (a_flow f) a b = absurd (true≢false a)
lower_same (a_flow g) (a_class k) a b = absurd (true≢false b)
lower_same (a_flow g) (a_flow f) a b = let l = ltb-false g f a in let m = ltb-false f g b in ap a_flow (omega (arith, l, m))

-- and so are two of which neither comes before the other
before_same : (es : List Seen) (x y : Child) → comes_before es x y ≡ false → comes_before es y x ≡ false → x ≡ y
before_same es x y a b =
    let m = neither_told (ltb (start_tag es x) (start_tag es y)) (eqb (start_tag es x) (start_tag es y) && lower x y) a in
    let n = neither_told (ltb (start_tag es y) (start_tag es x)) (eqb (start_tag es y) (start_tag es x) && lower y x) b in
    let l = ltb-false (start_tag es x) (start_tag es y) m.0 in
    let r = ltb-false (start_tag es y) (start_tag es x) n.0 in
    let e : start_tag es x ≡ start_tag es y = omega (arith, l, r) in
    lower_same x y
    (rw (eq-eqb (start_tag es x) (start_tag es y) e) at m.1)
    (rw (eq-eqb (start_tag es y) (start_tag es x) (sym e)) at n.1)

module _ (p : Plan) (h : History) (x : Child) where
  -- the tests of the rivals among the classes
  abbrev class_rival : ℕ → Bool
  class_rival k = ltb 0 k && (ltb k p.count && is_rival p h x (a_class k))

  -- and among the flows
  abbrev flow_rival : ℕ → Bool
  flow_rival f = is_rival p h x (a_flow f)

  -- a child that goes first has no rival
  rival_none : GoesFirst p h x → (y : Child) → Sound p y → is_rival p h x y ≡ false
  rival_none g y s = go (is_rival p h x y) refl
    where
      go : (b : Bool) → is_rival p h x y ≡ b → b ≡ false
      go true e =
          let a = and_told (eqb (parent_of p y) (parent_of p x)) (sends p h y && comes_before (seen p (parent_of p x) h) y x) e in
          let b = and_told (sends p h y) (comes_before (seen p (parent_of p x) h) y x) a.1 in
          absurd
          (true≢false
          (sym b.1 ∙ g.1 y (sound_hangs p (parent_of p x) y s (eqb-true (parent_of p y) (parent_of p x) a.0)) b.0))
      go false e = refl

  -- a child that goes first does so by the test
  pub told_first : GoesFirst p h x → goes_first p h x ≡ true
  told_first g = rw (g.0, none_any class_rival 0 31 class_none, none_any flow_rival 0 16 flow_none) refl
    where
      class_none : (k : ℕ) → 0 ≤ k → k < 0 + 31 → class_rival k ≡ false
      class_none k a b = go (ltb 0 k) refl (ltb k p.count) refl
        where
          go : (c : Bool) → ltb 0 k ≡ c → (d : Bool) → ltb k p.count ≡ d → (c && (d && is_rival p h x (a_class k))) ≡ false
          go true q true r = rival_none g (a_class k) (ltb-true 0 k q, ltb-true k p.count r, refl)
          go true q false r = refl
          go false q d r = refl

      flow_none : (f : ℕ) → 0 ≤ f → f < 0 + 16 → flow_rival f ≡ false
      flow_none f a b = rival_none g (a_flow f) (omega (arith, b), refl)

  -- and one that does so by the test goes first
  pub first_told : Fits p → goes_first p h x ≡ true → GoesFirst p h x
  first_told ok e =
      let a = and_told (sends p h x) (not (any_from class_rival 0 31 || any_from flow_rival 0 16)) e in
      let b = neither_told (any_from class_rival 0 31) (any_from flow_rival 0 16) (not-true (any_from class_rival 0 31 || any_from flow_rival 0 16) a.1) in
      (a.0, λ y s r. no_rival y s r b.0 b.1)
    where
      rival_told : (y : Child) → parent_of p y ≡ parent_of p x → sends p h y ≡ true → is_rival p h x y ≡ false → comes_before (seen p (parent_of p x) h) y x ≡ false
      rival_told y q r n = rw (eq-eqb (parent_of p y) (parent_of p x) q, r) at n

      no_rival : (y : Child) → HangsFrom p (parent_of p x) y → sends p h y ≡ true → any_from class_rival 0 31 ≡ false → any_from flow_rival 0 16 ≡ false
          → comes_before (seen p (parent_of p x) h) y x ≡ false
      no_rival (a_class k) s r c f =
          rival_told (a_class k) s.2 r
          (rw (lt-ltb 0 k s.0, lt-ltb k p.count s.1) at (any_none class_rival 0 31 c k (omega arith) (omega (arith, s.1, ok.few))))
      no_rival (a_flow g) s r c f = rival_told (a_flow g) s.1 r (any_none flow_rival 0 16 f g (omega arith) (omega (arith, s.0)))

module _ (p : Plan) (h : History) (f : ℕ) where
  -- a begin comes to a flow of whose way each child goes first
  pub told_comes : Each (GoesFirst p h) (way_to p f) → comes_to p h f ≡ true
  told_comes e =
      ap not
      (of_none (λ x. not (goes_first p h x)) (way_to p f)
      (each_map (GoesFirst p h) (λ x. not (goes_first p h x) ≡ false) (λ x g. rw (told_first p h x g) refl) (way_to p f) e))

  -- and only to such a flow
  pub comes_told : Fits p → comes_to p h f ≡ true → Each (GoesFirst p h) (way_to p f)
  comes_told ok e =
      each_map (λ x. not (goes_first p h x) ≡ false) (GoesFirst p h) (λ x n. first_told p h x ok (not-false (goes_first p h x) n)) (way_to p f)
      (none_of (λ x. not (goes_first p h x)) (way_to p f) (not-true (any_of (λ x. not (goes_first p h x)) (way_to p f)) e))

module _ (p : Plan) (ok : Fits p) (h : History) (f g : ℕ) (low : f < 16) (known : g < 16)
    (ours : Each (GoesFirst p h) (way_to p f)) (theirs : Each (GoesFirst p h) (way_to p g)) where
  -- a child that is above the one flow is above the other, where its class is
  step : (x : Child) → Sound p x → below p x f ≡ true → below p (a_class (parent_of p x)) g ≡ true → below p x g ≡ true
  step x s b c =
      let y = way_child p ok (parent_of p x) g known c in
      let r = way_sound p ok 4 (a_flow g) y.0 (known, refl) y.1 in
      let mine = on_each (GoesFirst p h) (way_to p f) ours x (sym (below_on p x f s) ∙ b) in
      let other = on_each (GoesFirst p h) (way_to p g) theirs y.0 y.1 in
      let e : x ≡ y.0 =
      before_same (seen p (parent_of p x) h) x y.0
      (rw y.2 at (other.1 x (rw y.2 s) mine.0))
      (mine.1 y.0 (sound_hangs p (parent_of p x) y.0 r y.2) other.0) in
      below_on p x g s ∙ ap (λ z. on z (way_to p g)) e ∙ y.1

  -- so every class above the one flow is above the other
  class_both : (n c : ℕ) → c < n → c < p.count → below p (a_class c) f ≡ true → below p (a_class c) g ≡ true
  class_both zero c l m b = absurd (omega (arith, l))
  class_both (suc n) c l m b = go (class_both n) (eqb c 0) refl
    where
      go : ((c : ℕ) → c < n → c < p.count → below p (a_class c) f ≡ true → below p (a_class c) g ≡ true) → (t : Bool) → eqb c 0 ≡ t
          → (t || on (a_class c) (way_to p g)) ≡ true
      go ih true q = refl
      go ih false q =
          let z : c ≡ 0 → ⊥ = eqb-false c 0 q in
          let s : Sound p (a_class c) = (omega (arith, z), m, refl) in
          let d = ok.falls c s.0 m in
          rw q at (step (a_class c) s b
          (ih (parent_in p c) (omega (arith, d, l)) (omega (arith, d, m)) (below_up p ok (parent_in p c) (a_class c) s f low b)))

  -- and the flows are the same
  pub one_comes : f ≡ g
  one_comes =
      eqb-true f g
      (step (a_flow f) (low, refl) (eq-eqb f f refl)
      (class_both (suc (class_in p f)) (class_in p f) (omega arith) (up_low p ok (a_flow f) (low, refl))
      (below_up p ok (class_in p f) (a_flow f) (low, refl) f low (eq-eqb f f refl))))
