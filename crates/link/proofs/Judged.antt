-- The verdict on a list by what it is told at each step: of its length, its numbers, its rate and its demand.
use Rattle.std.specs.Prelude.{Ok, Err}
use mathlib.Core.Path.{◌≡◌, refl, sym, ◌∙◌}
use mathlib.Core.Bool.{Bool, true, false, true≢false}
use mathlib.Core.List.{List}
use Prim.Native.Nat.{ℕ, ◌≤◌, ◌<◌}
use borrow.Author.Tests.{lt-ltb, le-ltb}
use Rattle.units.specs.declared.Refusal.{Refusal}
use Rattle.units.specs.declared.Refusal.TheVariants.{ListTooLong}
use Rattle.link.specs.declared.Declaration.{Declaration}
use Rattle.link.specs.Verdict.{Verdict}
use Rattle.link.specs.declared.Objection.TheVariants.{Rate, Refused, RefusedAt}
use Rattle.link.specs.Demand.{least_failing}
use Rattle.link.specs.Rate.{rate_of}
use Rattle.link.specs.Verdicts.{admits, or_else, by_numbers, by_rate, horizon_of, grounds_of, judged_of}

-- one verdict alone admits
pub admitted_only : (v : Verdict) → admits v ≡ true → v ≡ Ok tt
admitted_only (Ok done) e = refl
admitted_only (Err objection) e = absurd (true≢false (sym e))

-- a verdict that holds something against the list is the verdict, and after one that does not the later one is
pub held : (v later : Verdict) → admits v ≡ false → or_else v later ≡ v
held v later e = rw e

pub passed : (v later : Verdict) → admits v ≡ true → or_else v later ≡ later
passed v later e = rw e

-- where nothing is held against a list before its demand, it is not too long and has no bad number
both_admit : (v w : Verdict) → admits (or_else v w) ≡ true → v ≡ Ok tt
both_admit v w e = go (admits v) refl
  where
    go : (b : Bool) → admits v ≡ b → v ≡ Ok tt
    go true q = admitted_only v q
    go false q = absurd (true≢false (sym e ∙ rw (held v w q) q))

pub grounds_admit : (long : Bool) (ds : List Declaration) → admits (grounds_of long ds) ≡ true → (long ≡ false) × (by_numbers 0 ds ≡ Ok tt)
grounds_admit true ds e = absurd (true≢false (sym e))
grounds_admit false ds e = (refl, both_admit (by_numbers 0 ds) (by_rate ds) e)

-- the verdict: too long; a bad declaration; too high a rate; and else the test's
pub judged_long : (ds : List Declaration) → judged_of true ds ≡ Err (Refused ListTooLong)
judged_long ds = refl

pub judged_bad : (ds : List Declaration) (refusal : Refusal) (k : ℕ) → by_numbers 0 ds ≡ Err (RefusedAt refusal k) → judged_of false ds ≡ Err (RefusedAt refusal k)
judged_bad ds refusal k e = rw e

module _ (ds : List Declaration) (good : by_numbers 0 ds ≡ Ok tt) where
  pub judged_fast : 5040 < rate_of ds → judged_of false ds ≡ Err Rate
  judged_fast l = rw (good, lt-ltb 5040 (rate_of ds) l)

  pub judged_slow : rate_of ds ≤ 5040 → judged_of false ds ≡ least_failing (horizon_of ds) ds
  judged_slow l = rw (good, le-ltb 5040 (rate_of ds) l)
