-- The published test: the verdict on a list, and why, settles each statement the one way; each reason, computed, settles it the other.
use Rattle.std.specs.Prelude.{Ok, Err}
use mathlib.Core.Path.{◌≡◌, refl, ◌∙◌, ap}
use mathlib.Core.Logic.{◌⊎◌, inl, inr}
use mathlib.Core.List.{List, [], ◌∷◌, Memᴰ}
use Rattle.std.proofs.Common.{Some}
use Prim.Native.Nat.{ℕ, ◌+◌, ◌*◌, ◌≤◌, ◌<◌}
use native.Mathlib.Nat.{zero-add, not-suc-le-zero}
use native.Mathlib.Decide.{dec_lt}
use native.Mathlib.Omega.{arith}
use borrow.Author.Tests.{lt-ltb, le-ltb}
use lib.ListN.{length}
use Rattle.units.specs.Refusals.{first_of}
use Rattle.units.specs.declared.Refusal.{Refusal}
use Rattle.units.specs.declared.Refusal.TheVariants.{ListTooLong, BadBurst, BadPeriod, BadDeadline}
use Rattle.link.specs.declared.Declaration.{Declaration}
use Rattle.link.specs.Verdict.{Verdict}
use Rattle.link.specs.declared.Objection.TheVariants.{FailsAt, Rate, Refused, RefusedAt}
use Rattle.link.specs.Demand.{demand_of, least_failing}
use Rattle.link.specs.Rate.{rate_of, greatest_of}
use Rattle.link.specs.Verdicts.{declaration_grounds, refused_at, horizon_of, admit_of}
use Rattle.link.specs.Answers.{told}
use Rattle.link.specs.Published.{BurstBad, PeriodBad, DeadlineBad, Fits, FirstBad, Keeps, Least, Published, OthersFail}
use Rattle.link.proofs.Limits.{divisor}
use Rattle.link.proofs.Demand.{demand_is}
use Rattle.link.proofs.Reasons.{burst_refused, period_refused, deadline_refused}
use Rattle.link.proofs.Numbers.{no_fault, fault_at}
use Rattle.link.proofs.Judged.{judged_long, judged_bad, judged_fast, judged_slow}
use Rattle.link.proofs.Every.{every, too_fast, demand_on}
use Rattle.link.proofs.Greatest.{greatest_most, greatest_one}
use Rattle.link.proofs.Why.{Why, long, bad17, bad18, bad14, admitted, fast, failing, all_before, why}
use Rattle.link.proofs.Searched.{Searched, none, searched}
use Rattle.link.proofs.Searched.{one as first}

-- each verdict has this reason
long_of : {ds : List Declaration} → Why ds (Err (Refused ListTooLong)) → 16 < length ds
long_of (long l) = l

burst_of : {ds : List Declaration} {k : ℕ} → Why ds (Err (RefusedAt BadBurst k)) → FirstBad BurstBad ds k
burst_of (bad17 k w) = w

period_of : {ds : List Declaration} {k : ℕ} → Why ds (Err (RefusedAt BadPeriod k)) → FirstBad PeriodBad ds k
period_of (bad18 k w) = w

deadline_of : {ds : List Declaration} {k : ℕ} → Why ds (Err (RefusedAt BadDeadline k)) → FirstBad DeadlineBad ds k
deadline_of (bad14 k w) = w

admitted_of : {ds : List Declaration} → Why ds (Ok tt) → Fits ds × Keeps ds
admitted_of (admitted f k) = (f, k)

fast_of : {ds : List Declaration} → Why ds (Err Rate) → Fits ds × (5040 < rate_of ds)
fast_of (fast f l) = (f, l)

fails_of : {ds : List Declaration} {t : ℕ} → Why ds (Err (FailsAt t)) → Fits ds × (rate_of ds ≤ 5040) × Least ds t
fails_of (failing t f s l m) = (f, s, l)

soon_of : {ds : List Declaration} {t : ℕ} → Why ds (Err (FailsAt t)) → t < greatest_of ds + 5039
soon_of (failing t f s l m) = m

-- and each reason has its verdict
then_long : (ds : List Declaration) → 16 < length ds → admit_of ds ≡ Err (Refused ListTooLong)
then_long ds l = rw (lt-ltb 16 (length ds) l) (judged_long ds)

then_bad : {Bad : Declaration → Type 0} (refusal : Refusal) → ((d : Declaration) → Bad d → first_of (declaration_grounds d) ≡ Some refusal)
    → (ds : List Declaration) (k : ℕ) → FirstBad Bad ds k → admit_of ds ≡ Err (RefusedAt refusal k)
then_bad refusal refused ds k w =
    rw (le-ltb 16 (length ds) w.few)
    (judged_bad ds refusal k (fault_at 0 ds k refusal w.place w.before (refused _ w.bad) ∙ ap (λ (n : ℕ). refused_at n (Some refusal)) (zero-add k)))

then_rate : (ds : List Declaration) → Fits ds → 5040 < rate_of ds → admit_of ds ≡ Err Rate
then_rate ds f l = rw (le-ltb 16 (length ds) f.few) (judged_fast ds (no_fault 0 ds f.within) l)

then_tested : (ds : List Declaration) → Fits ds → rate_of ds ≤ 5040 → admit_of ds ≡ least_failing (horizon_of ds) ds
then_tested ds f l = rw (le-ltb 16 (length ds) f.few) (judged_slow ds (no_fault 0 ds f.within) l)

-- a list that keeps every slot is not too fast
not_fast : (ds : List Declaration) → Fits ds → Keeps ds → rate_of ds ≤ 5040
not_fast ds f w = go (dec_lt 5040 (rate_of ds))
  where
    go : Dec (5040 < rate_of ds) → rate_of ds ≤ 5040
    go (yes l) = absurd (omega (arith, too_fast ds f.within l, w (5041 * greatest_of ds)))
    go (no l) = omega arith

then_admitted : (ds : List Declaration) → Fits ds → Keeps ds → admit_of ds ≡ Ok tt
then_admitted ds f w = then_tested ds f (not_fast ds f w) ∙ go (searched (horizon_of ds) 1 ds)
  where
    go : Searched (horizon_of ds) 1 ds → least_failing (horizon_of ds) ds ≡ Ok tt
    go (none e v) = e
    go (first u e l r d v) = absurd (omega (arith, w u))

-- a verdict that names the slot by which too much is due
abbrev failing_at : ℕ → Verdict
failing_at t = Err (FailsAt t)

then_fails : (ds : List Declaration) (t : ℕ) → Fits ds → rate_of ds ≤ 5040 → Least ds t → admit_of ds ≡ Err (FailsAt t)
then_fails ds t f slow w = then_tested ds f slow ∙ go (searched (horizon_of ds) 1 ds)
  where
    -- two slots that are both the first to fail are one
    same : (u : ℕ) → u < demand_of ds u → ((s : ℕ) → s < u → demand_of ds s ≤ s) → Dec (u < t) → Dec (t < u) → u ≡ t
    same u d v (yes m) n = absurd (omega (arith, w.first u m))
    same u d v (no m) (yes n) = absurd (omega (arith, v t n, w.fails))
    same u d v (no m) (no n) = omega arith

    go : Searched (horizon_of ds) 1 ds → least_failing (horizon_of ds) ds ≡ Err (FailsAt t)
    go (none e v) = absurd (omega (arith, every ds f.within slow (λ s l r. v s l (omega arith)) t, w.fails))
    go (first u e l r d v) = e ∙ ap failing_at (same u d (all_before ds f u v) (dec_lt u t) (dec_lt t u))

-- the numbers that are told at all
number : (ds : List Declaration) (v : Verdict) → Why ds v → Memᴰ (told v).number (0 ∷ 14 ∷ 16 ∷ 17 ∷ 18 ∷ [])
number ds _ (admitted f w) = Memᴰ.head refl
number ds _ (fast f l) = Memᴰ.head refl
number ds _ (failing t f s w m) = Memᴰ.head refl
number ds _ (bad14 k w) = Memᴰ.tail (Memᴰ.head refl)
number ds _ (long l) = Memᴰ.tail (Memᴰ.tail (Memᴰ.head refl))
number ds _ (bad17 k w) = Memᴰ.tail (Memᴰ.tail (Memᴰ.tail (Memᴰ.head refl)))
number ds _ (bad18 k w) = Memᴰ.tail (Memᴰ.tail (Memᴰ.tail (Memᴰ.tail (Memᴰ.head refl))))

-- an empty list has no declaration that could be bad or demand anything
empty_fits : Fits []
empty_fits = record { few = omega arith; within = λ k l. absurd (not-suc-le-zero l) }

empty_keeps : Keeps []
unfolding demand_of
empty_keeps t = omega arith

pub published : Published
published = record {
  said_as = record {
    admitted = refl;
    fails = λ t. refl;
    rate = refl;
    list = refl;
    burst = λ k. refl;
    period = λ k. refl;
    deadline = λ k. refl;
  };
  list16 = λ ds. (λ e. long_of (rw e at (why ds)), then_long ds);
  burst17 = λ ds k. (λ e. burst_of (rw e at (why ds)), then_bad BadBurst burst_refused ds k);
  period18 = λ ds k. (λ e. period_of (rw e at (why ds)), then_bad BadPeriod period_refused ds k);
  deadline14 = λ ds k. (λ e. deadline_of (rw e at (why ds)), then_bad BadDeadline deadline_refused ds k);
  others = λ ds. number ds (admit_of ds) (why ds);
  rate = λ ds. (λ e. fast_of (rw e at (why ds)), λ w. then_rate ds w.0 w.1);
  admitted = λ ds. (λ e. admitted_of (rw e at (why ds)), λ w. then_admitted ds w.0 w.1);
  fails = λ ds t. (λ e. fails_of (rw e at (why ds)), λ w. then_fails ds t w.0 w.1 w.2);
  soon = λ ds t e. soon_of (rw e at (why ds));
  demand_is = demand_is;
  rate_is = λ ds t f l. demand_on ds t f.within l;
  greatest_most = greatest_most;
  greatest_one = greatest_one;
  empty = then_admitted [] empty_fits empty_keeps;
  divisor = divisor;
}

-- a list within its limits is admitted, or fails at its verdict's t, or at 5,041 times its greatest deadline
fails_at : (ds : List Declaration) → Fits ds → (v : Verdict) → Why ds v → (v ≡ Ok tt) ⊎ ((t : ℕ) × (t < demand_of ds t))
fails_at ds fit _ (long l) = absurd (omega (arith, fit.few))
fails_at ds fit _ (bad17 k w) = absurd (w.bad (fit.within k w.place).0)
fails_at ds fit _ (bad18 k w) = absurd (w.bad.1 (fit.within k w.place).1)
fails_at ds fit _ (bad14 k w) = absurd (w.bad.2 (fit.within k w.place).2)
fails_at ds fit _ (admitted f w) = inl refl
fails_at ds fit _ (fast f l) = inr (5041 * greatest_of ds, too_fast ds fit.within l)
fails_at ds fit _ (failing t f s w m) = inr (t, w.fails)

pub others_fail : OthersFail
others_fail = record {
  somewhere = λ ds fit. fails_at ds fit (admit_of ds) (why ds);
  rate_fails = λ ds e. let w = fast_of (rw e at (why ds)) in too_fast ds w.0.within w.1;
}
