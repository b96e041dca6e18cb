-- The turns of the loops, each over what is left to do: the declarations of a list from the k-th on, and the slots from t on; and the sums over
-- all declarations.
use Rattle.std.proofs.Common.{◌≡◌, ℕ, suc, ◌+◌, ◌-◌, ◌/◌, ◌≤◌, ◌<◌, Bool, true, false, max, map, List, [], ◌∷◌, Ok, Err, length, drop, get_or, ltb, leb, refl, sym, ◌∙◌, add-one, arith}
use native.Mathlib.Nat.{div-le_self}
use lib.ListN.{drop_of_length-le}
use lib.Seq.{drop-cons}
use Rattle.std.specs.List.{fold, sum}
use Rattle.std.proofs.lemmas.List.Sums.{sum-map}
use Rattle.std.proofs.lemmas.List.Recursion.{is_sum_by}
use Rattle.link.specs.declared.Declaration.{Declaration}
use Rattle.link.specs.declared.Objection.TheVariants.{FailsAt}
use Rattle.link.specs.Limits.{no_declaration}
use Rattle.link.specs.Demand.{demand_one, demand_of, fails_from}
use Rattle.link.specs.Rate.{rate_of, greatest_of}
use Rattle.link.specs.Verdict.{Verdict}
use Rattle.link.specs.Verdicts.{admits, or_else, by_declaration, by_numbers}
use Rattle.link.proofs.Searched.{passes, fails, ends}

-- one turn of the walk over a list: the declaration at k, and those after it
module _ (ds : List Declaration) (k : ℕ) where
  pub none_left : length ds ≤ k → Ok tt ≡ by_numbers k (drop k ds)
  unfolding by_numbers
  none_left l = rw (drop_of_length-le ds {i = k} l)

  numbers_next : k < length ds → by_numbers k (drop k ds) ≡ or_else (by_declaration k (get_or ds k no_declaration)) (by_numbers (k + 1) (drop (k + 1) ds))
  unfolding by_numbers
  numbers_next l = rw (drop-cons ds k no_declaration l, add-one)

  pub bad_stops : k < length ds → (v : Verdict) → v ≡ by_declaration k (get_or ds k no_declaration) → admits v ≡ false → v ≡ by_numbers k (drop k ds)
  bad_stops l v is e = rw (numbers_next l, ← is, e)

  pub good_next : k < length ds → by_declaration k (get_or ds k no_declaration) ≡ Ok tt → by_numbers (k + 1) (drop (k + 1) ds) ≡ by_numbers k (drop k ds)
  good_next l e = rw (numbers_next l, e)

-- the sums and the greatest are those of the rules
pub rate_summed : (ds : List Declaration) → sum (map (λ (d : Declaration). 5040 / d.period) ds) ≡ rate_of ds
unfolding rate_of
rate_summed ds = sum-map (λ (d : Declaration). 5040 / d.period) ds ∙ sym (is_sum_by rate_of (λ d. 5040 / d.period) refl (λ d ds. refl) ds)

pub demand_summed : (t : ℕ) (ds : List Declaration) → sum (map (λ (d : Declaration). demand_one d t) ds) ≡ demand_of ds t
unfolding demand_of
demand_summed t ds = sum-map (λ (d : Declaration). demand_one d t) ds ∙ sym (is_sum_by (λ ds. demand_of ds t) (λ d. demand_one d t) refl (λ d ds. refl) ds)

greatest_from : (m : ℕ) (ds : List Declaration) → fold (λ (a : ℕ) (d : Declaration). max a d.deadline) m ds ≡ max m (greatest_of ds)
unfolding greatest_of
greatest_from m [] = omega arith
greatest_from m (d ∷ ds) = greatest_from (max m d.deadline) ds ∙ omega arith

pub greatest_folded : (ds : List Declaration) → fold (λ (a : ℕ) (d : Declaration). max a d.deadline) 0 ds ≡ greatest_of ds
greatest_folded ds = greatest_from 0 ds ∙ omega arith

-- by slot t one declaration can have no more cells due than its burst and t
pub demand_most : (d : Declaration) (t : ℕ) → d.burst ≤ 16 → demand_one d t ≤ 16 + t
demand_most d t w = go (leb d.deadline t) refl
  where
    go : (due : Bool) → leb d.deadline t ≡ due → demand_one d t ≤ 16 + t
    go true e = rw e (omega (arith, w, div-le_self (t - d.deadline) d.period))
    go false e = rw e (omega (arith, w))

-- a slot that passes, one that fails, and the end of the slots, of those from t to a horizon h
module _ (h t : ℕ) (ds : List Declaration) where
  pub slot_passes : t ≤ h → ltb t (demand_of ds t) ≡ false → fails_from (h + 1 - t) t ds ≡ fails_from (h + 1 - (t + 1)) (t + 1) ds
  slot_passes l e =
      let n : h + 1 - t ≡ suc (h - t) = omega arith in
      let m : h + 1 - (t + 1) ≡ h - t = omega arith in
      rw (n, m, add-one) (passes (h - t) t ds e)

  pub slot_fails : t ≤ h → ltb t (demand_of ds t) ≡ true → fails_from (h + 1 - t) t ds ≡ Err (FailsAt t)
  slot_fails l e = let n : h + 1 - t ≡ suc (h - t) = omega arith in rw n (fails (h - t) t ds e)

  pub slots_end : h < t → fails_from (h + 1 - t) t ds ≡ Ok tt
  slots_end l = let n : h + 1 - t ≡ 0 = omega arith in rw n (ends t ds)
