-- Demand never falls as slots pass.
use mathlib.Core.Path.{◌≡◌, refl}
use mathlib.Core.Bool.{Bool, true, false}
use mathlib.Core.List.{List, [], ◌∷◌}
use Prim.Native.Nat.{ℕ, zero, suc, ◌-◌, ◌/◌, ◌≤◌}
use native.Mathlib.Nat.{div-zero, div-mul-le_self, le-div_iff_mul-le}
use native.Mathlib.Omega.{arith}
use borrow.Author.Tests.{leb-true, le-leb}
use lib.Dec.{leb}
use Rattle.link.specs.declared.Declaration.{Declaration}
use Rattle.link.specs.Demand.{demand_one, demand_of}

-- a quotient rises with what is divided
quotient_rises : (m n p : ℕ) → m ≤ n → m / p ≤ n / p
quotient_rises m n zero l = omega (arith, div-zero m)
quotient_rises m n (suc p) l = (le-div_iff_mul-le {k = suc p} {x = m / suc p} {y = n} (omega arith)).1 (omega (arith, div-mul-le_self m (suc p)))

pub one_rises : (d : Declaration) (s t : ℕ) → s ≤ t → demand_one d s ≤ demand_one d t
one_rises d s t l = go (leb d.deadline s) refl
  where
    go : (due : Bool) → leb d.deadline s ≡ due → demand_one d s ≤ demand_one d t
    go true e =
        let by = leb-true d.deadline s e in
        rw (e, le-leb d.deadline t (omega (arith, by))) (omega (arith, quotient_rises (s - d.deadline) (t - d.deadline) d.period (omega (arith, by))))
    go false e = rw e (omega arith)

pub demand_rises : (ds : List Declaration) (s t : ℕ) → s ≤ t → demand_of ds s ≤ demand_of ds t
unfolding demand_of
demand_rises [] s t l = omega arith
demand_rises (d ∷ ds) s t l = omega (arith, one_rises d s t l, demand_rises ds s t l)
