-- The verdict by the numbers: where the first bad declaration stands and why it is the first, and what a list without one is.
use Rattle.std.specs.Prelude.{Ok, Err}
use mathlib.Core.Path.{◌≡◌, refl, ◌∙◌, ap}
use mathlib.Core.List.{List, [], ◌∷◌}
use Rattle.std.proofs.Common.{Option, None, Some}
use Prim.Native.Nat.{ℕ, zero, suc, ◌+◌, ◌<◌}
use native.Mathlib.Nat.{le_of_suc-le-suc, not-suc-le-zero}
use native.Mathlib.Omega.{arith}
use lib.ListN.{length, get_or}
use Rattle.units.specs.Refusals.{first_of}
use Rattle.units.specs.declared.Refusal.{Refusal}
use Rattle.link.specs.declared.Declaration.{Declaration}
use Rattle.link.specs.Verdict.{Verdict}
use Rattle.link.specs.declared.Objection.TheVariants.{RefusedAt}
use Rattle.link.specs.Limits.{no_declaration}
use Rattle.link.specs.Verdicts.{or_else, declaration_grounds, refused_at, by_numbers}
use Rattle.link.specs.Published.{Within}
use Rattle.link.proofs.Reasons.{Reason, good, reason, good_taken}

-- every declaration of a list before its k-th is within its limits; every one of the list is
abbrev pub GoodTo : List Declaration → ℕ → Type 0
GoodTo ds k = (i : ℕ) → i < k → Within (get_or ds i no_declaration)

abbrev pub Good : List Declaration → Type 0
Good ds = GoodTo ds (length ds)

good_cons : (d : Declaration) (ds : List Declaration) (k : ℕ) → Within d → GoodTo ds k → GoodTo (d ∷ ds) (suc k)
good_cons d ds k w ws zero l = w
good_cons d ds k w ws (suc i) l = ws i (le_of_suc-le-suc l)

pub good_rest : (d : Declaration) (ds : List Declaration) → Good (d ∷ ds) → Good ds
good_rest d ds w k l = w (suc k) (omega arith)

-- what declarations in the places from j on are told by their numbers, and why
pub data Found (j : ℕ) (ds : List Declaration) : Verdict → Type 0 where
  nothing : Good ds → Found j ds (Ok tt)
  one :
      (refusal : Refusal) (k place : ℕ)
      → place ≡ j + k
      → k < length ds
      → GoodTo ds k
      → Reason (get_or ds k no_declaration) (Some refusal)
      → Found j ds (Err (RefusedAt refusal place))

found_cons : (j : ℕ) (d : Declaration) (ds : List Declaration) (o : Option Refusal) → Reason d o → (v : Verdict) → Found (suc j) ds v → Found j (d ∷ ds) (or_else (refused_at j o) v)
found_cons j d ds None (good w) _ (nothing ws) = nothing (good_cons d ds (length ds) w ws)
found_cons j d ds None (good w) _ (one refusal k place e l ws x) =
    one refusal (suc k) place (omega arith) (omega arith) (good_cons d ds k w ws) x
found_cons j d ds (Some refusal) x v later = one refusal 0 j (omega arith) (omega arith) (λ i l. absurd (not-suc-le-zero l)) x

pub found : (j : ℕ) (ds : List Declaration) → Found j ds (by_numbers j ds)
unfolding by_numbers
found j [] = nothing (λ i l. absurd (not-suc-le-zero l))
found j (d ∷ ds) = found_cons j d ds (first_of (declaration_grounds d)) (reason d) (by_numbers (suc j) ds) (found (suc j) ds)

-- a list that nothing is held against by its numbers is within its limits
all_good : {j : ℕ} {ds : List Declaration} → Found j ds (Ok tt) → Good ds
all_good (nothing ws) = ws

pub good_all : (ds : List Declaration) → by_numbers 0 ds ≡ Ok tt → Good ds
good_all ds e = all_good (rw e at (found 0 ds))

-- and the other way: nothing is held against a list within its limits, and the first declaration that is refused is told
pub no_fault : (j : ℕ) (ds : List Declaration) → Good ds → by_numbers j ds ≡ Ok tt
unfolding by_numbers
no_fault j [] ws = refl
no_fault j (d ∷ ds) ws = rw (good_taken d (ws 0 (omega arith))) (no_fault (suc j) ds (good_rest d ds ws))

pub fault_at : (j : ℕ) (ds : List Declaration) (k : ℕ) (refusal : Refusal) → k < length ds → GoodTo ds k
    → first_of (declaration_grounds (get_or ds k no_declaration)) ≡ Some refusal → by_numbers j ds ≡ Err (RefusedAt refusal (j + k))
unfolding by_numbers
fault_at j [] k refusal l ws e = absurd (not-suc-le-zero l)
fault_at j (d ∷ ds) zero refusal l ws e = rw e (ap (λ (n : ℕ). refused_at n (Some refusal)) (omega arith))
fault_at j (d ∷ ds) (suc k) refusal l ws e =
    rw (good_taken d (ws 0 (omega arith)))
    (fault_at (suc j) ds k refusal (le_of_suc-le-suc l) (λ i m. ws (suc i) (omega arith)) e ∙ ap (λ (n : ℕ). refused_at n (Some refusal)) (omega arith))
