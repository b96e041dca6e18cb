-- A plan as a use for each cell, in the cells' order: its size, and how many cells it has used before slot t or have a last slot of
-- e or later. From one slot to the next that count grows by at most one, and not at all where the plan leaves the slot alone.
use mathlib.Core.Path.{◌≡◌, refl, sym, ap, ◌∙◌, subst}
use mathlib.Core.Logic.{inl, inr}
use mathlib.Core.List.{List, [], ◌∷◌, map}
use Prim.Native.Nat.{ℕ, zero, suc, ◌<◌}
use native.Mathlib.Nat.{not-suc-le-zero}
use native.Mathlib.Decide.{ℕ_discrete}
use native.Mathlib.Omega.{arith}
use lib.ListN.{length, get_or, set, replicate, length-set, length-replicate, get_or-replicate}
use lib.Seq.{get_or-set_same, get_or-set_other}
use Rattle.places.specs.Members.{Each}
use Rattle.promises_urgent.specs.Plans.{Member, Apart, Sending}

-- what a plan does with a cell
pub data Use : Type 0 where
  unused : Use
  in_slot : ℕ → Use

pub slot_of : (s t : ℕ) → in_slot s ≡ in_slot t → s ≡ t
slot_of s t e = cc

pub not_used : (t : ℕ) → unused ≡ in_slot t → ⊥
not_used t e = let z : ◌≡◌ {A = ℕ} 0 1 = cc in omega arith

-- how many cells are used
unfoldable pub size : List Use → ℕ
size [] = 0
size (unused ∷ us) = size us
size (in_slot t ∷ us) = suc (size us)

-- ---- from a plan to its uses
pub uses : ℕ → List Sending → List Use
uses n [] = replicate n unused
uses n (s ∷ plan) = set (uses n plan) s.cell (in_slot s.slot)

pub uses_length : (n : ℕ) (plan : List Sending) → length (uses n plan) ≡ n
unfolding uses
uses_length n [] = length-replicate n unused
uses_length n (s ∷ plan) = length-set (uses n plan) s.cell (in_slot s.slot) ∙ uses_length n plan

-- a use stands for a sending of the plan
pub use_told : (n : ℕ) (plan : List Sending) (P : Sending → Type 0) → Each P plan → (i t : ℕ) → i < n → get_or (uses n plan) i unused ≡ in_slot t → P (record { cell = i; slot = t })
unfolding uses
use_told n [] P e i t l q = absurd (not_used t (sym (get_or-replicate n i unused unused l) ∙ q))
use_told n (s ∷ plan) P e i t l q = go (ℕ_discrete i s.cell) (use_told n plan P e.1 i t l)
  where
    go : Dec (i ≡ s.cell) → (get_or (uses n plan) i unused ≡ in_slot t → P (record { cell = i; slot = t })) → P (record { cell = i; slot = t })
    go (yes p) r =
        let same : get_or (uses n (s ∷ plan)) s.cell unused ≡ in_slot s.slot =
        get_or-set_same (uses n plan) s.cell (in_slot s.slot) unused (omega (arith, uses_length n plan)) in
        let u : s.slot ≡ t = slot_of s.slot t (sym same ∙ ap (λ (j : ℕ). get_or (uses n (s ∷ plan)) j unused) (sym p) ∙ q) in
        subst P (λ j. record { cell = sym p j; slot = u j }) e.0
    go (no p) r = r (sym (get_or-set_other (uses n plan) s.cell i (in_slot s.slot) unused p) ∙ q)

-- a cell that no sending names is unused
pub use_none : (n : ℕ) (plan : List Sending) (i : ℕ) → i < n → (Member i (map (λ (s : Sending). s.cell) plan) → ⊥) → get_or (uses n plan) i unused ≡ unused
unfolding uses
use_none n [] i l m = get_or-replicate n i unused unused l
use_none n (s ∷ plan) i l m = get_or-set_other (uses n plan) s.cell i (in_slot s.slot) unused (λ p. m (inl p)) ∙ use_none n plan i l (λ p. m (inr p))

size_set : (us : List Use) (i t : ℕ) → i < length us → get_or us i unused ≡ unused → size (set us i (in_slot t)) ≡ suc (size us)
unfolding size
size_set [] i t l e = absurd (not-suc-le-zero l)
size_set (unused ∷ us) zero t l e = refl
size_set (in_slot s ∷ us) zero t l e = absurd (not_used s (sym e))
size_set (unused ∷ us) (suc i) t l e = size_set us i t (omega arith) e
size_set (in_slot s ∷ us) (suc i) t l e = ap suc (size_set us i t (omega arith) e)

size_none : (n : ℕ) → size (replicate n unused) ≡ 0
unfolding size
size_none zero = refl
size_none (suc n) = size_none n

pub uses_size : (n : ℕ) (plan : List Sending) → Each (λ s. s.cell < n) plan → Apart (map (λ (s : Sending). s.cell) plan) → size (uses n plan) ≡ length plan
unfolding uses
uses_size n [] e a = size_none n
uses_size n (s ∷ plan) e a =
    size_set (uses n plan) s.cell s.slot (omega (arith, uses_length n plan, e.0)) (use_none n plan s.cell e.0 a.0)
    ∙ ap suc (uses_size n plan e.1 a.1)

-- each sending's slot is one of the plan's
own_slots : (plan : List Sending) → Each (λ s. Member s.slot (map (λ (x : Sending). x.slot) plan)) plan
own_slots plan = go plan (λ t m. m)
  where
    go : (rest : List Sending) → ((t : ℕ) → Member t (map (λ (x : Sending). x.slot) rest) → Member t (map (λ (x : Sending). x.slot) plan))
        → Each (λ s. Member s.slot (map (λ (x : Sending). x.slot) plan)) rest
    go [] f = tt
    go (s ∷ rest) f = (f s.slot (inl refl), go rest (λ t m. f t (inr m)))

-- two cells in one slot are one cell
pub uses_apart : (n : ℕ) (plan : List Sending) → Apart (map (λ (s : Sending). s.slot) plan) → (i j t : ℕ) → i < n → j < n
    → get_or (uses n plan) i unused ≡ in_slot t → get_or (uses n plan) j unused ≡ in_slot t → i ≡ j
unfolding uses
uses_apart n [] a i j t l m p q = absurd (not_used t (sym (get_or-replicate n i unused unused l) ∙ p))
uses_apart n (s ∷ plan) a i j t l m p q = go (uses_apart n plan a.1 i j t l m) (ℕ_discrete i s.cell) (ℕ_discrete j s.cell)
  where
    other : (k : ℕ) → (k ≡ s.cell → ⊥) → get_or (uses n (s ∷ plan)) k unused ≡ in_slot t → get_or (uses n plan) k unused ≡ in_slot t
    other k d e = sym (get_or-set_other (uses n plan) s.cell k (in_slot s.slot) unused d) ∙ e

    this : (k : ℕ) → k < n → k ≡ s.cell → get_or (uses n (s ∷ plan)) k unused ≡ in_slot t → s.slot ≡ t
    this k b d e =
        let same : get_or (uses n (s ∷ plan)) s.cell unused ≡ in_slot s.slot =
        get_or-set_same (uses n plan) s.cell (in_slot s.slot) unused (omega (arith, uses_length n plan)) in
        slot_of s.slot t (sym same ∙ ap (λ (x : ℕ). get_or (uses n (s ∷ plan)) x unused) (sym d) ∙ e)

    twice : (k : ℕ) → k < n → s.slot ≡ t → get_or (uses n plan) k unused ≡ in_slot t → ⊥
    twice k b d e = a.0 (subst (λ (x : ℕ). Member x (map (λ (y : Sending). y.slot) plan)) (sym d) (use_told n plan (λ y. Member y.slot (map (λ (z : Sending). z.slot) plan)) (own_slots plan) k t b e))

    go : (get_or (uses n plan) i unused ≡ in_slot t → get_or (uses n plan) j unused ≡ in_slot t → i ≡ j) → Dec (i ≡ s.cell) → Dec (j ≡ s.cell) → i ≡ j
    go r (yes x) (yes y) = x ∙ sym y
    go r (yes x) (no y) = absurd (twice j m (this i l x p) (other j y q))
    go r (no x) (yes y) = absurd (twice i l (this j m y q) (other i x p))
    go r (no x) (no y) = r (other i x p) (other j y q)
