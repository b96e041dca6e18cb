-- Which number no refusal has; what a call gives for a list of grounds: it goes through where none of them holds, and is refused for the
-- first that does.
use Rattle.std.proofs.Common.{◌≡◌, ℕ, ◌≤◌, Bool, true, false, cond, ltb, List, [], ◌∷◌, ◌++◌, sym, refl, ap, ◌∙◌, true≢false, arith, ltb-false, Option, None, Some}
use Rattle.units.specs.Limits.{no_such_flow}
use Rattle.units.specs.Refusals.{Ground, number_of, first_of, unless}
use Rattle.units.specs.declared.Refusal.{Refusal}
use Rattle.units.specs.declared.Refusal.TheVariants.{NoSuchFlow, NotOpen, AlreadyOpen, PlacesFull, TagsUsedUp, SlotsUsedUp, PacketInService, NothingWaits, NothingInService, NoCommand, FlowInUse, BadWeight, BadDeadline, BadLength, ListTooLong, BadBurst, BadPeriod, BadTree}

-- number 4 is nobody's
pub never_4 : (refusal : Refusal) → number_of refusal ≡ 4 → ⊥
never_4 NoSuchFlow e = omega arith
never_4 NotOpen e = omega arith
never_4 AlreadyOpen e = omega arith
never_4 PlacesFull e = omega arith
never_4 TagsUsedUp e = omega arith
never_4 SlotsUsedUp e = omega arith
never_4 PacketInService e = omega arith
never_4 NothingWaits e = omega arith
never_4 NothingInService e = omega arith
never_4 NoCommand e = omega arith
never_4 FlowInUse e = omega arith
never_4 BadWeight e = omega arith
never_4 BadDeadline e = omega arith
never_4 BadLength e = omega arith
never_4 ListTooLong e = omega arith
never_4 BadBurst e = omega arith
never_4 BadPeriod e = omega arith
never_4 BadTree e = omega arith

-- the rest of a list that begins with the flow's number matters only for a flow that there is
pub after_flow : (flow : ℕ) (xs ys : List Ground) → (flow ≤ 15 → xs ≡ ys)
    → first_of ((NoSuchFlow, no_such_flow flow) ∷ xs) ≡ first_of ((NoSuchFlow, no_such_flow flow) ∷ ys)
unfolding first_of
after_flow flow xs ys h = go (ltb 15 flow) refl
  where
    go : (t : Bool) → ltb 15 flow ≡ t → cond t (Some NoSuchFlow) (first_of xs) ≡ cond t (Some NoSuchFlow) (first_of ys)
    go true p = refl
    go false p = ap first_of (h (ltb-false 15 flow p))

-- no refusal is no refusal
pub none_is_none : (r : Refusal) → None ≡ Some r → ⊥
none_is_none r p = let z : ◌≡◌ {A = ℕ} 0 1 = cc in omega arith

-- no ground of a list holds
abbrev pub NoneHolds : List Ground → Type 0
NoneHolds [] = Unit {0}
NoneHolds (g ∷ gs) = (g.1 ≡ false) × NoneHolds gs

module _ {D : Type 0} (refused : Refusal → D) where
  -- what holds of every refused call, and of a call that goes through where no ground holds, holds of what the call gives
  pub first_cases : (P : D → Type 0) → ((r : Refusal) → P (refused r)) → (gs : List Ground) (done : D) → (NoneHolds gs → P done) → P (unless refused (first_of gs) done)
  unfolding first_of
  first_cases P no_way [] done ok = ok tt
  first_cases P no_way (g ∷ gs) done ok = go g.1 refl (first_cases P no_way gs done)
    where
      go : (b : Bool) → g.1 ≡ b → ((NoneHolds gs → P done) → P (unless refused (first_of gs) done)) → P (unless refused (cond b (Some g.0) (first_of gs)) done)
      go true p rest = no_way g.0
      go false p rest = rest (λ h. ok (p, h))

  -- what is read off the result as its refusal
  module _ (refusal_of : D → Option Refusal) where
    -- a call that is not refused by itself is refused for what applies
    pub unless_first : ((r : Refusal) → refusal_of (refused r) ≡ Some r) → (o : Option Refusal) (done : D) → refusal_of done ≡ None → refusal_of (unless refused o done) ≡ o
    unless_first told None done e = e
    unless_first told (Some r) done e = told r

    -- a refused call leaves the state as it was
    pub unless_same : {S : Type 0} (state : D → S) (was : S) → ((r : Refusal) → state (refused r) ≡ was) → (o : Option Refusal) (done : D)
        → ((r : Refusal) → refusal_of done ≡ Some r → state done ≡ was) → (r : Refusal) → refusal_of (unless refused o done) ≡ Some r → state (unless refused o done) ≡ was
    unless_same state was same None done s r q = s r q
    unless_same state was same (Some x) done s r q = same x

    -- a call that is refused as another was: it is refused for that, and leaves the state as it was
    module _ (told : (r : Refusal) → refusal_of (refused r) ≡ Some r) where
      pub passed_first : (o : Option Refusal) (done : D) → refusal_of done ≡ o → refusal_of (unless refused o done) ≡ o
      passed_first None done e = e
      passed_first (Some r) done e = told r

      pub passed_same : {S : Type 0} (state : D → S) (was : S) → ((r : Refusal) → state (refused r) ≡ was) → (o : Option Refusal) (done : D)
          → refusal_of done ≡ o → (r : Refusal) → refusal_of (unless refused o done) ≡ Some r → state (unless refused o done) ≡ was
      passed_same state was same None done e r q = absurd (none_is_none r (sym e ∙ q))
      passed_same state was same (Some x) done e r q = same x

some_is_some : (r s : Refusal) → Some r ≡ Some s → r ≡ s
some_is_some r s p = cc

-- no ground of this refusal in a list holds
abbrev pub Unheld : Refusal → List Ground → Type 0
Unheld r [] = Unit {0}
Unheld r (g ∷ gs) = (g.0 ≡ r → g.1 ≡ false) × Unheld r gs

-- where no refusal applies no ground holds
pub none_holds : (gs : List Ground) → first_of gs ≡ None → NoneHolds gs
unfolding first_of
none_holds [] e = tt
none_holds (g ∷ gs) e = go g.1 refl e (none_holds gs)
  where
    go : (b : Bool) → g.1 ≡ b → cond b (Some g.0) (first_of gs) ≡ None → (first_of gs ≡ None → NoneHolds gs) → NoneHolds (g ∷ gs)
    go true p q rest = absurd (none_is_none g.0 (sym q))
    go false p q rest = (p, rest q)

-- a refusal none of whose grounds holds is not given
pub not_given : (r : Refusal) (gs : List Ground) → Unheld r gs → first_of gs ≡ Some r → ⊥
unfolding first_of
not_given r [] n e = none_is_none r e
not_given r (g ∷ gs) n e = go g.1 refl e (not_given r gs n.1)
  where
    go : (b : Bool) → g.1 ≡ b → cond b (Some g.0) (first_of gs) ≡ Some r → (first_of gs ≡ Some r → ⊥) → ⊥
    go true p q rest = true≢false (sym p ∙ n.0 (some_is_some g.0 r q))
    go false p q rest = rest q

-- one ground more, of a refusal that is not given, changes nothing
pub first_plus : (r : Refusal) (b : Bool) (gs : List Ground) → (first_of (gs ++ (r, b) ∷ []) ≡ Some r → ⊥) → first_of gs ≡ first_of (gs ++ (r, b) ∷ [])
unfolding first_of
first_plus r true [] n = absurd (n refl)
first_plus r false [] n = refl
first_plus r b (g ∷ gs) n = go g.1 n (first_plus r b gs)
  where
    go : (t : Bool) → (cond t (Some g.0) (first_of (gs ++ (r, b) ∷ [])) ≡ Some r → ⊥) → ((first_of (gs ++ (r, b) ∷ []) ≡ Some r → ⊥) → first_of gs ≡ first_of (gs ++ (r, b) ∷ []))
        → cond t (Some g.0) (first_of gs) ≡ cond t (Some g.0) (first_of (gs ++ (r, b) ∷ []))
    go true n rest = refl
    go false n rest = rest n

-- nor does one more that does not hold
pub first_skip : (r : Refusal) (gs : List Ground) → first_of (gs ++ (r, false) ∷ []) ≡ first_of gs
unfolding first_of
first_skip r [] = refl
first_skip r (g ∷ gs) = ap (cond g.1 (Some g.0)) (first_skip r gs)

-- what holds of two calls that are refused alike, and that go through alike, holds of both
pub both_cases : {D E : Type 0} (first : Refusal → D) (second : Refusal → E) (P : D → E → Type 0) → ((r : Refusal) → P (first r) (second r))
    → (o : Option Refusal) (d : D) (e : E) → P d e → P (unless first o d) (unless second o e)
both_cases first second P refused None d e ok = ok
both_cases first second P refused (Some r) d e ok = refused r
