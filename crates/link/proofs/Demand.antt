-- What demand is, without a division: a sum over the declarations, each of which has its burst due from its deadline on and a cell more with
-- every whole period.
use mathlib.Core.Path.{◌≡◌, refl}
use mathlib.Core.List.{[], ◌∷◌}
use Prim.Native.Nat.{ℕ, ◌+◌, ◌-◌, ◌*◌, ◌<◌}
use native.Mathlib.Nat.{add-mul-div_right, div-eq_of_lt}
use native.Mathlib.Omega.{arith}
use borrow.Author.Tests.{lt-leb, le-leb}
use Rattle.link.specs.declared.Declaration.{Declaration}
use Rattle.link.specs.Demand.{demand_of}
use Rattle.link.specs.Published.{DemandIs}

due : (d : Declaration) (n s : ℕ) → s < d.period → demand_of (d ∷ []) (d.deadline + (n * d.period + s)) ≡ d.burst + n
unfolding demand_of
due d n s l =
    let t = d.deadline + (n * d.period + s) in
    let apart : t - d.deadline ≡ s + n * d.period = omega arith in
    let more = add-mul-div_right s n {z = d.period} (omega arith) in
    rw (le-leb d.deadline t (omega arith), apart) (omega (arith, more, div-eq_of_lt l))

pub demand_is : DemandIs
unfolding demand_of
demand_is = record { none = λ t. refl; more = λ d ds t. omega arith; early = λ d t l. rw (lt-leb d.deadline t l); due = due }
