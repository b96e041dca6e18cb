-- One mark more, for either lane: what the flows' records and the records that are live tell of the marks goes on.
use mathlib.Core.Path.{◌≡◌, refl, sym, ap, ◌∙◌}
use mathlib.Core.Logic.{inl, inr}
use mathlib.Core.Bool.{Bool, true, false, cond, true≢false, false≢true}
use mathlib.Core.List.{List, [], ◌∷◌}
use Prim.Native.Nat.{ℕ, ◌<◌}
use borrow.Author.Tests.{eqb-true, ne_eqb}
use lib.Dec.{eqb}
use lib.ListN.{length, get_or, set}
use Rattle.places.specs.Members.{Each, Any}
use Rattle.places.specs.Marks.{Mark, opens, closes, open_in, in_force}
use Rattle.places.proofs.Members.{each_map, each_both}
use Rattle.places.proofs.Stores.{set_cases}
use Rattle.places.proofs.Tests.{eqb_self}

-- what holds of the number in force of every open flow
module _ (P : ℕ → Type 0) (marks : List Mark) (k : (f : ℕ) → open_in marks f ≡ true → P (in_force marks f)) (flow : ℕ) where
  pub force_opened : (number : ℕ) → P number → (f : ℕ) → open_in (opens flow number ∷ marks) f ≡ true → P (in_force (opens flow number ∷ marks) f)
  unfolding open_in in_force
  force_opened number p f = go (eqb flow f)
    where
      go : (t : Bool) → cond t true (open_in marks f) ≡ true → P (cond t number (in_force marks f))
      go true o = p
      go false o = k f o

  pub force_closed : (f : ℕ) → open_in (closes flow ∷ marks) f ≡ true → P (in_force (closes flow ∷ marks) f)
  unfolding open_in in_force
  force_closed f = go (eqb flow f)
    where
      go : (t : Bool) → cond t false (open_in marks f) ≡ true → P (in_force marks f)
      go true o = absurd (false≢true o)
      go false o = k f o

-- the number in force of an open flow is that of one of its openings
pub force_told : (marks : List Mark) (flow : ℕ) → open_in marks flow ≡ true → Any (λ (m : Mark). m ≡ opens flow (in_force marks flow)) marks
unfolding open_in in_force
force_told [] flow o = absurd (false≢true o)
force_told (opens f number ∷ marks) flow o = go (eqb f flow) refl o (force_told marks flow)
  where
    go : (t : Bool) → eqb f flow ≡ t → cond t true (open_in marks flow) ≡ true
        → (open_in marks flow ≡ true → Any (λ (m : Mark). m ≡ opens flow (in_force marks flow)) marks)
        → Any (λ (m : Mark). m ≡ opens flow (cond t number (in_force marks flow))) (opens f number ∷ marks)
    go true e p earlier = inl (ap (λ (x : ℕ). opens x number) (eqb-true f flow e))
    go false e p earlier = inr (earlier p)
force_told (closes f ∷ marks) flow o = go (eqb f flow) o (force_told marks flow)
  where
    go : (t : Bool) → cond t false (open_in marks flow) ≡ true
        → (open_in marks flow ≡ true → Any (λ (m : Mark). m ≡ opens flow (in_force marks flow)) marks)
        → Any (λ (m : Mark). m ≡ opens flow (in_force marks flow)) (closes f ∷ marks)
    go true p earlier = absurd (false≢true p)
    go false p earlier = inr (earlier p)

-- the record of a flow has its mark and the number in force, for n flows
module _ {F : Type 0} (opened : F → Bool) (number : F → ℕ) (shut : F) (n : ℕ) where
  abbrev pub AsMarked : List F → List Mark → Type 0
  AsMarked flows marks = (f : ℕ) → f < n → (opened (get_or flows f shut) ≡ open_in marks f) × (number (get_or flows f shut) ≡ in_force marks f)

  module _ (flows : List F) (marks : List Mark) (k : AsMarked flows marks) (flow : ℕ) (x : F) (low : flow < length flows) where
    pub marked_opened : opened x ≡ true → AsMarked (set flows flow x) (opens flow (number x) ∷ marks)
    unfolding open_in in_force
    marked_opened o f b =
        set_cases flows flow x shut low f
        (λ y. (opened y ≡ cond (eqb flow f) true (open_in marks f)) × (number y ≡ cond (eqb flow f) (number x) (in_force marks f)))
        (λ e. rw (e, eqb_self flow) (o, refl))
        (λ e. rw (ne_eqb flow f (λ q. e (sym q))) (k f b))

    pub marked_closed : opened x ≡ false → number x ≡ in_force marks flow → AsMarked (set flows flow x) (closes flow ∷ marks)
    unfolding open_in in_force
    marked_closed o i f b =
        set_cases flows flow x shut low f (λ y. (opened y ≡ cond (eqb flow f) false (open_in marks f)) × (number y ≡ in_force marks f))
        (λ e. rw (e, eqb_self flow) (o, i))
        (λ e. rw (ne_eqb flow f (λ q. e (sym q))) (k f b))

-- every record that is live is of an open flow, and something holds of it and of the number in force
module _ {A : Type 0} (flow_of : A → ℕ) (Q : A → ℕ → Type 0) where
  abbrev pub Stands : (A → Bool) → List Mark → A → Type 0
  Stands live marks a = live a ≡ true → (open_in marks (flow_of a) ≡ true) × Q a (in_force marks (flow_of a))

  module _ (live : A → Bool) (marks : List Mark) (xs : List A) (k : Each (Stands live marks) xs) where
    -- opened: the flow was not open, so that no record of it is live
    pub stands_opened : (flow number : ℕ) → open_in marks flow ≡ false → Each (Stands live (opens flow number ∷ marks)) xs
    unfolding open_in in_force
    stands_opened flow number shut = each_map (Stands live marks) _ (λ a s l. go a (eqb flow (flow_of a)) refl (s l)) xs k
      where
        go : (a : A) (t : Bool) → eqb flow (flow_of a) ≡ t → (open_in marks (flow_of a) ≡ true) × Q a (in_force marks (flow_of a))
            → (cond t true (open_in marks (flow_of a)) ≡ true) × Q a (cond t number (in_force marks (flow_of a)))
        go a true e s = absurd (true≢false (sym s.0 ∙ ap (open_in marks) (sym (eqb-true flow (flow_of a) e)) ∙ shut))
        go a false e s = s

    -- closed: no record of the flow is live
    pub stands_closed : (flow : ℕ) → Each (λ (a : A). live a ≡ true → flow_of a ≡ flow → ⊥) xs → Each (Stands live (closes flow ∷ marks)) xs
    unfolding open_in in_force
    stands_closed flow none =
        each_map (λ a. Stands live marks a × (live a ≡ true → flow_of a ≡ flow → ⊥)) _
        (λ a s l. rw (ne_eqb flow (flow_of a) (λ e. s.1 l (sym e))) (s.0 l)) xs (each_both (Stands live marks) _ xs k none)

    -- fewer are live
    pub stands_fewer : (fewer : A → Bool) → ((a : A) → fewer a ≡ true → live a ≡ true) → Each (Stands fewer marks) xs
    stands_fewer fewer f = each_map (Stands live marks) _ (λ a s l. s (f a l)) xs k
