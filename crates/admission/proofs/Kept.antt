-- Asking from the horizon down: every t that was passed over passes, and so the search finds nothing, or something was found.
use mathlib.Core.Path.{◌≡◌, sym, ap}
use mathlib.Core.Bool.{true, false}
use mathlib.Core.List.{List}
use Prim.Native.Nat.{ℕ, ◌+◌, ◌-◌, ◌≤◌, ◌<◌}
use native.Mathlib.Decide.{dec_le}
use native.Mathlib.Omega.{arith}
use Rattle.link.specs.declared.Declaration.{Declaration}
use Rattle.link.specs.Demand.{demand_of, least_failing}
use Rattle.link.specs.Verdicts.{admits}
use Rattle.link.proofs.Rising.{demand_rises}
use Rattle.link.proofs.Searched.{Searched, none, one, searched}

-- every t from passed to the horizon passes
abbrev pub PassedTo : ℕ → ℕ → List Declaration → Type 0
PassedTo passed horizon ds = (s : ℕ) → passed ≤ s → s ≤ horizon → demand_of ds s ≤ s

module _ (passed horizon : ℕ) (ds : List Declaration) (some : 1 < passed) where
  -- where demand by the t before those passed is at most that t, all from that demand on pass
  pub passed_on : PassedTo passed horizon ds → (demand : ℕ) → demand ≡ demand_of ds (passed - 1) → demand ≤ passed - 1 → PassedTo demand horizon ds
  passed_on w demand e l s m n = go (dec_le passed s)
    where
      go : Dec (passed ≤ s) → demand_of ds s ≤ s
      go (yes later) = w s later n
      go (no earlier) = omega (arith, demand_rises ds s (passed - 1) (omega arith))

  -- where it is more, the search finds something
  pub found_one : passed ≤ horizon + 1 → passed - 1 < demand_of ds (passed - 1) → false ≡ admits (least_failing horizon ds)
  found_one few l = go (searched horizon 1 ds)
    where
      go : Searched horizon 1 ds → false ≡ admits (least_failing horizon ds)
      go (none e w) = absurd (omega (arith, w (passed - 1) (omega arith) (omega arith)))
      go (one u e _ _ _ _) = sym (ap admits e)

-- with every t passed, it finds nothing
pub found_none : (passed horizon : ℕ) (ds : List Declaration) → passed ≤ 1 → PassedTo passed horizon ds → true ≡ admits (least_failing horizon ds)
found_none passed horizon ds few w = go (searched horizon 1 ds)
  where
    go : Searched horizon 1 ds → true ≡ admits (least_failing horizon ds)
    go (none e _) = sym (ap admits e)
    go (one u _ l m fails _) = absurd (omega (arith, w u (omega arith) (omega arith)))
