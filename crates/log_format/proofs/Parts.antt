-- The first fault of some parts.
use mathlib.Core.Path.{◌≡◌, refl, sym, ◌∙◌}
use mathlib.Core.Bool.{Bool, true, false, cond, true≢false}
use mathlib.Core.List.{List, [], ◌∷◌, ◌++◌}
use mathlib.Core.Logic.{◌⊎◌, inl, inr}
use Rattle.std.proofs.Common.{Option, None, Some}
use Prim.Native.Nat.{ℕ, ◌+◌, ◌≤◌, ◌<◌}
use native.Mathlib.Omega.{arith}
use borrow.Author.Tests.{ltb-true, ltb-false}
use lib.Dec.{ltb}
use Rattle.log_format.specs.declared.Fault.{Fault}
use Rattle.log_format.specs.declared.Fault.TheVariants.{EndsEarly}
use Rattle.log_format.specs.Reading.{Part, first_fault}

abbrev pub Found : Type 0
Found = Option (Fault × ℕ)

-- the three ways that a part can go
pub first_cases : (n : ℕ) (p : Part) (ps : List Part) (P : Found → Type 0)
    → (n < p.start + p.size → P (Some (EndsEarly, n)))
    → (p.start + p.size ≤ n → p.bad ≡ true → P (Some (p.fault, p.start)))
    → (p.start + p.size ≤ n → p.bad ≡ false → P (first_fault n ps))
    → P (first_fault n (p ∷ ps))
unfolding first_fault
first_cases n p ps P early bad good = go (ltb n (p.start + p.size)) refl p.bad refl
  where
    go : (a : Bool) → ltb n (p.start + p.size) ≡ a → (b : Bool) → p.bad ≡ b
        → P (cond a (Some (EndsEarly, n)) (cond b (Some (p.fault, p.start)) (first_fault n ps)))
    go true e b f = early (ltb-true n (p.start + p.size) e)
    go false e true f = bad (ltb-false n (p.start + p.size) e) f
    go false e false f = good (ltb-false n (p.start + p.size) e) f

-- what holds of every part, and of some part
abbrev pub All : (Part → Type 0) → List Part → Type 0
All P [] = Unit {0}
All P (p ∷ ps) = P p × All P ps

abbrev pub Any : (Part → Type 0) → List Part → Type 0
Any P [] = ⊥
Any P (p ∷ ps) = P p ⊎ Any P ps

pub all_append : (P : Part → Type 0) (xs ys : List Part) → All P xs → All P ys → All P (xs ++ ys)
all_append P [] ys a b = b
all_append P (x ∷ xs) ys a b = (a.0, all_append P xs ys a.1 b)

pub some_left : (P : Part → Type 0) (xs ys : List Part) → Any P xs → Any P (xs ++ ys)
some_left P [] ys a = absurd a
some_left P (x ∷ xs) ys (inl a) = inl a
some_left P (x ∷ xs) ys (inr a) = inr (some_left P xs ys a)

pub some_right : (P : Part → Type 0) (xs ys : List Part) → Any P ys → Any P (xs ++ ys)
some_right P [] ys a = a
some_right P (x ∷ xs) ys a = inr (some_right P xs ys a)

-- the parts follow each other, none before a place
abbrev pub After : ℕ → List Part → Type 0
After at [] = Unit {0}
After at (p ∷ ps) = (at ≤ p.start) × After (p.start + p.size) ps

-- a whole bad part at a place
abbrev pub Hit : ℕ → ℕ → Part → Type 0
Hit n place p = (p.start ≡ place) × (p.start + p.size ≤ n) × (p.bad ≡ true)

hit_after : (n place at : ℕ) (ps : List Part) → After at ps → Any (Hit n place) ps → (at ≤ place) × (at ≤ n)
hit_after n place at [] a h = absurd h
hit_after n place at (p ∷ ps) a (inl h) = (omega (arith, a.0, h.0), omega (arith, a.0, h.1))
hit_after n place at (p ∷ ps) a (inr h) =
    let r = hit_after n place (p.start + p.size) ps a.1 h in
    (omega (arith, a.0, r.0), omega (arith, a.0, r.1))

-- no whole bad part stands before the first fault
pub lowest : (n place at : ℕ) (ps : List Part) → After at ps → Any (Hit n place) ps
    → (x : Fault × ℕ) → first_fault n ps ≡ Some x → x.1 ≤ place
lowest n place at [] a h x = absurd h
lowest n place at (p ∷ ps) a h x =
    first_cases n p ps (λ r. r ≡ Some x → x.1 ≤ place)
    (λ l e. absurd (early h l))
    (λ l b e. bad h (let q : p.start ≡ x.1 = cc in q))
    (λ l b e. good h b (λ h. lowest n place (p.start + p.size) ps a.1 h x e))
  where
    early : Any (Hit n place) (p ∷ ps) → n < p.start + p.size → ⊥
    early (inl h) l = omega (arith, h.1)
    early (inr h) l = omega (arith, (hit_after n place (p.start + p.size) ps a.1 h).1)

    bad : Any (Hit n place) (p ∷ ps) → p.start ≡ x.1 → x.1 ≤ place
    bad (inl h) q = omega (arith, h.0, q)
    bad (inr h) q = omega (arith, (hit_after n place (p.start + p.size) ps a.1 h).0, q)

    good : Any (Hit n place) (p ∷ ps) → p.bad ≡ false → (Any (Hit n place) ps → x.1 ≤ place) → x.1 ≤ place
    good (inl h) b again = absurd (true≢false (sym h.2 ∙ b))
    good (inr h) b again = again h

-- a whole bad part is a fault
pub not_none : (n place at : ℕ) (ps : List Part) → After at ps → Any (Hit n place) ps → first_fault n ps ≡ None → ⊥
not_none n place at [] a h = absurd h
not_none n place at (p ∷ ps) a h =
    first_cases n p ps (λ r. r ≡ None → ⊥)
    (λ l e. let z : ◌≡◌ {A = ℕ} 0 1 = cc in omega arith)
    (λ l b e. let z : ◌≡◌ {A = ℕ} 0 1 = cc in omega arith)
    (λ l b e. good h b (λ h. not_none n place (p.start + p.size) ps a.1 h e))
  where
    good : Any (Hit n place) (p ∷ ps) → p.bad ≡ false → (Any (Hit n place) ps → ⊥) → ⊥
    good (inl h) b again = true≢false (sym h.2 ∙ b)
    good (inr h) b again = again h

-- what holds of the first fault, where it holds of each part's
pub found : (n : ℕ) (P : Fault × ℕ → Type 0) (ps : List Part)
    → All (λ p. (n < p.start + p.size → P (EndsEarly, n)) × (p.start + p.size ≤ n → p.bad ≡ true → P (p.fault, p.start))) ps
    → (x : Fault × ℕ) → first_fault n ps ≡ Some x → P x
unfolding first_fault
found n P [] a x = λ e. absurd (let z : ◌≡◌ {A = ℕ} 0 1 = cc in omega arith)
found n P (p ∷ ps) a x =
    first_cases n p ps (λ r. r ≡ Some x → P x)
    (λ l e. let q : (EndsEarly, n) ≡ x = cc in rw q at (a.0.0 l))
    (λ l b e. let q : (p.fault, p.start) ≡ x = cc in rw q at (a.0.1 l b))
    (λ l b e. found n P ps a.1 x e)

-- where there is no fault, every part is whole and good
pub all_good : (n : ℕ) (ps : List Part) → first_fault n ps ≡ None → All (λ p. (p.start + p.size ≤ n) × (p.bad ≡ false)) ps
all_good n [] = λ e. tt
all_good n (p ∷ ps) =
    first_cases n p ps (λ r. r ≡ None → All (λ p. (p.start + p.size ≤ n) × (p.bad ≡ false)) (p ∷ ps))
    (λ l e. absurd (let z : ◌≡◌ {A = ℕ} 0 1 = cc in omega arith))
    (λ l b e. absurd (let z : ◌≡◌ {A = ℕ} 0 1 = cc in omega arith))
    (λ l b e. ((l, b), all_good n ps e))

pub none_of_good : (n : ℕ) (ps : List Part) → All (λ p. (p.start + p.size ≤ n) × (p.bad ≡ false)) ps → first_fault n ps ≡ None
unfolding first_fault
none_of_good n [] a = refl
none_of_good n (p ∷ ps) a =
    first_cases n p ps (λ r. r ≡ None)
    (λ l. absurd (omega (arith, a.0.0)))
    (λ l b. absurd (true≢false (sym b ∙ a.0.1)))
    (λ l b. none_of_good n ps a.1)

-- two lists, one after the other
pub append_some : (n : ℕ) (x : Fault × ℕ) (ps qs : List Part) → first_fault n ps ≡ Some x → first_fault n (ps ++ qs) ≡ Some x
unfolding first_fault
append_some n x [] qs e = absurd (let z : ◌≡◌ {A = ℕ} 0 1 = cc in omega arith)
append_some n x (p ∷ ps) qs e = go (ltb n (p.start + p.size)) p.bad (append_some n x ps qs) e
  where
    go : (a b : Bool) → (first_fault n ps ≡ Some x → first_fault n (ps ++ qs) ≡ Some x)
        → cond a (Some (EndsEarly, n)) (cond b (Some (p.fault, p.start)) (first_fault n ps)) ≡ Some x
        → cond a (Some (EndsEarly, n)) (cond b (Some (p.fault, p.start)) (first_fault n (ps ++ qs))) ≡ Some x
    go true b again e = e
    go false true again e = e
    go false false again e = again e

pub append_none : (n : ℕ) (ps qs : List Part) → first_fault n ps ≡ None → first_fault n (ps ++ qs) ≡ first_fault n qs
unfolding first_fault
append_none n [] qs e = refl
append_none n (p ∷ ps) qs e = go (ltb n (p.start + p.size)) p.bad (append_none n ps qs) e
  where
    go : (a b : Bool) → (first_fault n ps ≡ None → first_fault n (ps ++ qs) ≡ first_fault n qs)
        → cond a (Some (EndsEarly, n)) (cond b (Some (p.fault, p.start)) (first_fault n ps)) ≡ None
        → cond a (Some (EndsEarly, n)) (cond b (Some (p.fault, p.start)) (first_fault n (ps ++ qs))) ≡ first_fault n qs
    go true b again e = absurd (let z : ◌≡◌ {A = ℕ} 0 1 = cc in omega arith)
    go false true again e = absurd (let z : ◌≡◌ {A = ℕ} 0 1 = cc in omega arith)
    go false false again e = again e
