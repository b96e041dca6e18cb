-- The verdict on a list, and why.
use Rattle.std.specs.Prelude.{Ok, Err}
use mathlib.Core.Path.{◌≡◌, refl}
use mathlib.Core.Bool.{Bool, true, false}
use mathlib.Core.List.{List}
use Rattle.std.proofs.Common.{Some}
use Prim.Native.Nat.{ℕ, ◌+◌, ◌≤◌, ◌<◌}
use native.Mathlib.Decide.{dec_lt, dec_le}
use native.Mathlib.Omega.{arith}
use borrow.Author.Tests.{ltb-true, ltb-false}
use lib.ListN.{length, get_or}
use Rattle.units.specs.declared.Refusal.{Refusal}
use Rattle.units.specs.declared.Refusal.TheVariants.{NoSuchFlow, NotOpen, AlreadyOpen, PlacesFull, TagsUsedUp, SlotsUsedUp, PacketInService, NothingWaits, NothingInService, NoCommand, FlowInUse, BadWeight, BadLength, ListTooLong, BadBurst, BadPeriod, BadDeadline, BadTree}
use Rattle.link.specs.declared.Declaration.{Declaration}
use Rattle.link.specs.Verdict.{Verdict}
use Rattle.link.specs.declared.Objection.TheVariants.{FailsAt, Rate, Refused, RefusedAt}
use Rattle.link.specs.Limits.{too_long, no_declaration}
use Rattle.link.specs.Demand.{demand_of, least_failing}
use Rattle.link.specs.Rate.{rate_of, greatest_of}
use Rattle.link.specs.Verdicts.{by_numbers, horizon_of, judged_of, admit_of}
use Rattle.link.specs.Published.{BurstBad, PeriodBad, DeadlineBad, Fits, FirstBad, Keeps, Least}
use Rattle.link.proofs.Reasons.{Reason, burst, period, deadline}
use Rattle.link.proofs.Numbers.{Found, nothing, one, found}
use Rattle.link.proofs.Judged.{judged_bad, judged_fast, judged_slow}
use Rattle.link.proofs.Every.{every, demand_none}
use Rattle.link.proofs.Last.{not_last}
use Rattle.link.proofs.Searched.{Searched, none, searched}
use Rattle.link.proofs.Searched.{one as first}

pub data Why (ds : List Declaration) : Verdict → Type 0 where
  long : 16 < length ds → Why ds (Err (Refused ListTooLong))
  bad17 : (k : ℕ) → FirstBad BurstBad ds k → Why ds (Err (RefusedAt BadBurst k))
  bad18 : (k : ℕ) → FirstBad PeriodBad ds k → Why ds (Err (RefusedAt BadPeriod k))
  bad14 : (k : ℕ) → FirstBad DeadlineBad ds k → Why ds (Err (RefusedAt BadDeadline k))
  admitted : Fits ds → Keeps ds → Why ds (Ok tt)
  fast : Fits ds → 5040 < rate_of ds → Why ds (Err Rate)
  failing : (t : ℕ) → Fits ds → rate_of ds ≤ 5040 → Least ds t → t < greatest_of ds + 5039 → Why ds (Err (FailsAt t))

-- what holds from slot 1 on holds of slot 0 too
pub all_before : (ds : List Declaration) → Fits ds → (u : ℕ) → ((s : ℕ) → 1 ≤ s → s < u → demand_of ds s ≤ s) → (s : ℕ) → s < u → demand_of ds s ≤ s
all_before ds fit u w s l = go (dec_le 1 s)
  where
    go : Dec (1 ≤ s) → demand_of ds s ≤ s
    go (yes m) = w s m l
    go (no m) = let e : s ≡ 0 = omega arith in rw (e, demand_none ds fit.within) (omega arith)

why_tested : (ds : List Declaration) → Fits ds → rate_of ds ≤ 5040 → Searched (horizon_of ds) 1 ds → Why ds (least_failing (horizon_of ds) ds)
why_tested ds fit slow (none f w) = rw f (admitted fit (every ds fit.within slow (λ t l r. w t l (omega arith))))
why_tested ds fit slow (first u f l r d w) =
    let least : Least ds u = record { fails = d; first = all_before ds fit u w } in
    rw f (failing u fit slow least (not_last ds fit slow u least (omega arith)))

why_rated : (ds : List Declaration) → Fits ds → by_numbers 0 ds ≡ Ok tt → Dec (5040 < rate_of ds) → Why ds (judged_of false ds)
why_rated ds fit e (yes l) = rw (judged_fast ds e l) (fast fit l)
why_rated ds fit e (no l) = rw (judged_slow ds e (omega arith)) (why_tested ds fit (omega arith) (searched (horizon_of ds) 1 ds))

why_found : (ds : List Declaration) → length ds ≤ 16 → (v : Verdict) → by_numbers 0 ds ≡ v → Found 0 ds v → Why ds (judged_of false ds)
why_found ds few _ q (nothing ws) = why_rated ds (record { few = few; within = ws }) q (dec_lt 5040 (rate_of ds))
why_found ds few _ q (one refusal k place e l ws x) =
    let p : place ≡ k = omega arith in rw (judged_bad ds refusal place q, p) (go refusal x)
  where
    go : (r : Refusal) → Reason (get_or ds k no_declaration) (Some r) → Why ds (Err (RefusedAt r k))
    go BadBurst (burst b) = bad17 k (record { few = few; place = l; bad = b; before = ws })
    go BadPeriod (period b) = bad18 k (record { few = few; place = l; bad = b; before = ws })
    go BadDeadline (deadline b) = bad14 k (record { few = few; place = l; bad = b; before = ws })
    go NoSuchFlow x = elim x [ ]
    go NotOpen x = elim x [ ]
    go AlreadyOpen x = elim x [ ]
    go PlacesFull x = elim x [ ]
    go TagsUsedUp x = elim x [ ]
    go SlotsUsedUp x = elim x [ ]
    go PacketInService x = elim x [ ]
    go NothingWaits x = elim x [ ]
    go NothingInService x = elim x [ ]
    go NoCommand x = elim x [ ]
    go FlowInUse x = elim x [ ]
    go BadWeight x = elim x [ ]
    go BadLength x = elim x [ ]
    go ListTooLong x = elim x [ ]
    go BadTree x = elim x [ ]

pub why : (ds : List Declaration) → Why ds (admit_of ds)
why ds = go (too_long ds) refl
  where
    go : (a : Bool) → too_long ds ≡ a → Why ds (judged_of a ds)
    go true e = long (ltb-true 16 (length ds) e)
    go false e = why_found ds (ltb-false 16 (length ds) e) (by_numbers 0 ds) refl (found 0 ds)
