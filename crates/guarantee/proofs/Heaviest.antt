-- The heaviest cells by t keep the declarations, are as many as the list demands by t, and have to go in the first t slots. That they keep them:
-- of a flow's cells that arrive from slot s on, s not 0, n reach n − 1 periods past s; from slot 0 on it is the burst and one a period.
use mathlib.Core.Path.{◌≡◌, refl, sym, ◌∙◌}
use mathlib.Core.Logic.{◌⊎◌, inl, inr}
use mathlib.Core.Bool.{Bool, true, false}
use mathlib.Core.List.{List, [], ◌∷◌}
use Prim.Native.Nat.{ℕ, zero, suc, ◌+◌, ◌-◌, ◌*◌, ◌/◌, ◌≤◌, ◌<◌}
use native.Mathlib.Nat.{le_refl, le-div_iff_mul-le, suc-mul, div-mul-le_self, not-suc-le-zero, zero-add}
use native.Mathlib.Decide.{dec_le, dec_lt}
use native.Mathlib.Omega.{arith}
use borrow.Author.Tests.{leb-true, le-leb, lt-leb, lt-ltb, le-ltb, ne_eqb}
use lib.Dec.{leb}
use lib.ListN.{length, replicate, length-replicate, length-append}
use Rattle.places.specs.Places.{count}
use Rattle.places.specs.Members.{Each}
use Rattle.places.proofs.Count.{count_append, count_le_length}
use Rattle.places.proofs.Members.{none_counted, each_map, each_append, each_replicate}
use Rattle.places.proofs.Tests.{eqb_self}
use Rattle.link.specs.declared.Declaration.{Declaration}
use Rattle.link.specs.Demand.{demand_one, demand_of}
use Rattle.link.specs.Published.{Within}
use Rattle.link.proofs.Limits.{positive}
use Rattle.link.proofs.Numbers.{Good, good_rest}
use Rattle.guarantee.specs.Arrivals.{Arrival, declared, arrives_in, KeepsDeclaration, AllKeep, NoOthers, window_in}
use Rattle.guarantee.specs.Heaviest.{burst_and, heaviest_of, heaviest_from, heaviest}

-- ---- as many as the list demands
burst_length : (flow : ℕ) (d : Declaration) (j : ℕ) → length (burst_and flow d j) ≡ d.burst + j
unfolding burst_and
burst_length flow d zero = omega (arith, length-replicate {A = Arrival} d.burst (record { flow = flow; slot = 0 }))
burst_length flow d (suc j) = omega (arith, burst_length flow d j)

of_length : (flow : ℕ) (d : Declaration) (t : ℕ) → length (heaviest_of flow d t) ≡ demand_one d t
of_length flow d t = go (leb d.deadline t) refl
  where
    go : (b : Bool) → leb d.deadline t ≡ b → length (heaviest_of flow d t) ≡ demand_one d t
    go true e = rw e (burst_length flow d ((t - d.deadline) / d.period))
    go false e = rw e

from_length : (flow : ℕ) (ds : List Declaration) (t : ℕ) → length (heaviest_from flow ds t) ≡ demand_of ds t
unfolding heaviest_from demand_of
from_length flow [] t = refl
from_length flow (d ∷ ds) t =
    omega (arith, length-append (heaviest_of flow d t) (heaviest_from (suc flow) ds t), of_length flow d t, from_length (suc flow) ds t)

pub heaviest_length : (ds : List Declaration) (t : ℕ) → length (heaviest ds t) ≡ demand_of ds t
heaviest_length ds t = from_length 0 ds t

-- ---- one flow's cells keep its declaration
module _ (flow : ℕ) (d : Declaration) (pos : 0 < d.period) (s k : ℕ) where
  -- how many of them arrive in the k slots from s on
  arrived : ℕ → ℕ
  arrived j = count (arrives_in flow s k) (burst_and flow d j)

  -- one more, if it arrives in these slots
  counted : (j : ℕ) → s ≤ suc j * d.period → suc j * d.period < s + k → arrived (suc j) ≡ suc (arrived j)
  unfolding arrived count burst_and
  counted j a b = rw (eqb_self flow, le-leb s (suc j * d.period) a, lt-ltb (suc j * d.period) (s + k) b) (omega arith)

  early : (j : ℕ) → suc j * d.period < s → arrived (suc j) ≡ arrived j
  unfolding arrived count burst_and
  early j l = rw (eqb_self flow, lt-leb s (suc j * d.period) l) (omega arith)

  late : (j : ℕ) → s ≤ suc j * d.period → s + k ≤ suc j * d.period → arrived (suc j) ≡ arrived j
  unfolding arrived count burst_and
  late j a b = rw (eqb_self flow, le-leb s (suc j * d.period) a, le-ltb (suc j * d.period) (s + k) b) (omega arith)

  most : (j : ℕ) → arrived j ≤ d.burst + j
  unfolding arrived
  most j = omega (arith, count_le_length (arrives_in flow s k) (burst_and flow d j), burst_length flow d j)

  -- of a burst none arrives after slot 0
  burst_gone : 1 ≤ s → arrived 0 ≡ 0
  unfolding arrived burst_and
  burst_gone l =
      none_counted (arrives_in flow s k) (replicate d.burst (record { flow = flow; slot = 0 }))
      (each_replicate (λ (a : Arrival). arrives_in flow s k a ≡ false) d.burst (record { flow = flow; slot = 0 }) (rw (eqb_self flow, lt-leb s 0 l)))

  -- from a slot on that is not 0: none, or n that reach n − 1 periods on
  reach : 1 ≤ s → (j : ℕ) → (arrived j ≡ 0) ⊎ (s + arrived j * d.period ≤ suc j * d.period)
  reach l zero = inl (burst_gone l)
  reach l (suc j) = go (dec_le s (suc j * d.period)) (dec_lt (suc j * d.period) (s + k)) (reach l j)
    where
      go : Dec (s ≤ suc j * d.period) → Dec (suc j * d.period < s + k) → (arrived j ≡ 0) ⊎ (s + arrived j * d.period ≤ suc j * d.period)
          → (arrived (suc j) ≡ 0) ⊎ (s + arrived (suc j) * d.period ≤ suc (suc j) * d.period)
      go (no a) b (inl z) = inl (early j (omega arith) ∙ z)
      go (no a) b (inr m) = inr (rw (early j (omega arith)) (omega (arith, m, suc-mul (suc j) d.period)))
      go (yes a) (no b) (inl z) = inl (late j a (omega arith) ∙ z)
      go (yes a) (no b) (inr m) = inr (rw (late j a (omega arith)) (omega (arith, m, suc-mul (suc j) d.period)))
      go (yes a) (yes b) (inl z) = inr (rw (counted j a b, z) (omega (arith, a, suc-mul (suc j) d.period)))
      go (yes a) (yes b) (inr m) = inr (rw (counted j a b) (omega (arith, m, suc-mul (arrived j) d.period, suc-mul (suc j) d.period)))

  keeps : 1 ≤ d.burst → 1 ≤ k → (j : ℕ) → arrived j ≤ d.burst + (k - 1) / d.period
  keeps some l zero = omega (arith, most zero)
  keeps some l (suc j) = go (dec_le s (suc j * d.period)) (dec_lt (suc j * d.period) (s + k)) (keeps some l j)
    where
      whole : (n : ℕ) → n * d.period ≤ k - 1 → n ≤ (k - 1) / d.period
      whole n m = (le-div_iff_mul-le {k = d.period} {x = n} {y = k - 1} pos).1 m

      -- the cell arrives in these slots: from 0 on it is one of so many periods, from later on the last of those that reach so far
      inside : suc j * d.period < s + k → Dec (1 ≤ s) → arrived (suc j) ≤ d.burst + (k - 1) / d.period
      inside b (no z) = omega (arith, most (suc j), whole (suc j) (omega arith))
      inside b (yes m) = reaching (arrived (suc j)) (reach m (suc j))
        where
          reaching : (n : ℕ) → (n ≡ 0) ⊎ (s + n * d.period ≤ suc (suc j) * d.period) → n ≤ d.burst + (k - 1) / d.period
          reaching zero r = omega arith
          reaching (suc n) (inl z) = absurd (omega arith)
          reaching (suc n) (inr r) = omega (arith, whole n (omega (arith, r, suc-mul n d.period, suc-mul (suc j) d.period)))

      go : Dec (s ≤ suc j * d.period) → Dec (suc j * d.period < s + k) → arrived j ≤ d.burst + (k - 1) / d.period → arrived (suc j) ≤ d.burst + (k - 1) / d.period
      go (no a) b r = rw (early j (omega arith)) r
      go (yes a) (no b) r = rw (late j a (omega arith)) r
      go (yes a) (yes b) r = inside b (dec_le 1 s)

pub burst_keeps : (flow : ℕ) (d : Declaration) → Within d → (j : ℕ) → KeepsDeclaration d flow (burst_and flow d j)
unfolding arrived
burst_keeps flow d w j s k l = keeps flow d (positive d.period w.1.0 w.1.1) s k w.0.0 l j

-- ---- all flows' cells keep theirs
-- a flow's cells are its own, and have to go in the first t slots
burst_own : (flow : ℕ) (d : Declaration) (j : ℕ) → Each (λ (a : Arrival). (a.flow ≡ flow) × (a.slot ≤ j * d.period)) (burst_and flow d j)
unfolding burst_and
burst_own flow d zero = each_replicate (λ (a : Arrival). (a.flow ≡ flow) × (a.slot ≤ 0 * d.period)) d.burst (record { flow = flow; slot = 0 }) (refl, omega arith)
burst_own flow d (suc j) = (
  (refl, le_refl (suc j * d.period)),
  each_map (λ (a : Arrival). (a.flow ≡ flow) × (a.slot ≤ j * d.period)) (λ (a : Arrival). (a.flow ≡ flow) × (a.slot ≤ suc j * d.period))
      (λ a w. (w.0, omega (arith, w.1, suc-mul j d.period))) (burst_and flow d j) (burst_own flow d j),
)

own : (flow : ℕ) (d : Declaration) (t : ℕ) → Each (λ (a : Arrival). (a.flow ≡ flow) × (a.slot + d.deadline ≤ t)) (heaviest_of flow d t)
own flow d t = go (leb d.deadline t) refl
  where
    go : (b : Bool) → leb d.deadline t ≡ b → Each (λ (a : Arrival). (a.flow ≡ flow) × (a.slot + d.deadline ≤ t)) (heaviest_of flow d t)
    go true e =
        rw e (each_map (λ (a : Arrival). (a.flow ≡ flow) × (a.slot ≤ (t - d.deadline) / d.period * d.period)) (λ (a : Arrival). (a.flow ≡ flow) × (a.slot + d.deadline ≤ t))
        (λ a w. (w.0, omega (arith, w.1, leb-true d.deadline t e, div-mul-le_self (t - d.deadline) d.period))) (burst_and flow d ((t - d.deadline) / d.period))
        (burst_own flow d ((t - d.deadline) / d.period)))
    go false e = rw e tt

own_keeps : (flow : ℕ) (d : Declaration) → Within d → (t : ℕ) → KeepsDeclaration d flow (heaviest_of flow d t)
unfolding count
own_keeps flow d w t s k l = go (leb d.deadline t) refl
  where
    go : (b : Bool) → leb d.deadline t ≡ b → count (arrives_in flow s k) (heaviest_of flow d t) ≤ d.burst + (k - 1) / d.period
    go true e = rw e (burst_keeps flow d w ((t - d.deadline) / d.period) s k l)
    go false e = rw e (omega arith)

-- none is of another flow
other_none : (f flow : ℕ) (d : Declaration) (t s k : ℕ) → (flow ≡ f → ⊥) → count (arrives_in f s k) (heaviest_of flow d t) ≡ 0
other_none f flow d t s k apart =
    none_counted (arrives_in f s k) (heaviest_of flow d t)
    (each_map (λ (a : Arrival). (a.flow ≡ flow) × (a.slot + d.deadline ≤ t)) (λ (a : Arrival). arrives_in f s k a ≡ false)
    (λ a w. rw (ne_eqb a.flow f (λ q. apart (sym w.0 ∙ q)))) (heaviest_of flow d t) (own flow d t))

earlier_none : (f flow : ℕ) (ds : List Declaration) (t s k : ℕ) → f < flow → count (arrives_in f s k) (heaviest_from flow ds t) ≡ 0
unfolding heaviest_from count
earlier_none f flow [] t s k l = refl
earlier_none f flow (d ∷ ds) t s k l =
    omega (
      arith,
      count_append (arrives_in f s k) (heaviest_of flow d t) (heaviest_from (suc flow) ds t),
      other_none f flow d t s k (λ q. omega arith),
      earlier_none f (suc flow) ds t s k (omega arith),
    )

from_keeps : (flow : ℕ) (ds : List Declaration) (t : ℕ) → Good ds → (i : ℕ) → i < length ds → KeepsDeclaration (declared ds i) (flow + i) (heaviest_from flow ds t)
unfolding heaviest_from
from_keeps flow [] t good i l s k m = absurd (not-suc-le-zero l)
from_keeps flow (d ∷ ds) t good zero l s k m =
    let z : flow + 0 ≡ flow = omega arith in
    rw (z, count_append (arrives_in flow s k) (heaviest_of flow d t) (heaviest_from (suc flow) ds t))
    (omega (arith, own_keeps flow d (good 0 l) t s k m, earlier_none flow (suc flow) ds t s k (omega arith)))
from_keeps flow (d ∷ ds) t good (suc i) l s k m =
    let z : flow + suc i ≡ suc flow + i = omega arith in
    rw (z, count_append (arrives_in (suc flow + i) s k) (heaviest_of flow d t) (heaviest_from (suc flow) ds t))
    (omega (arith, other_none (suc flow + i) flow d t s k (λ q. omega arith), from_keeps (suc flow) ds t (good_rest d ds good) i (omega arith) s k m))

-- a cell of a list's flows, which are those from one on, that has to go in the first t slots
abbrev Soon : ℕ → List Declaration → ℕ → Arrival → Type 0
Soon flow ds t a = (flow ≤ a.flow) × (a.flow < flow + length ds) × (a.slot + (declared ds (a.flow - flow)).deadline ≤ t)

from_soon : (flow : ℕ) (ds : List Declaration) (t : ℕ) → Each (Soon flow ds t) (heaviest_from flow ds t)
unfolding heaviest_from
from_soon flow [] t = tt
from_soon flow (d ∷ ds) t =
    each_append (Soon flow (d ∷ ds) t) (heaviest_of flow d t) (heaviest_from (suc flow) ds t)
    (each_map (λ (a : Arrival). (a.flow ≡ flow) × (a.slot + d.deadline ≤ t)) (Soon flow (d ∷ ds) t) first (heaviest_of flow d t) (own flow d t))
    (each_map (Soon (suc flow) ds t) (Soon flow (d ∷ ds) t) later (heaviest_from (suc flow) ds t) (from_soon (suc flow) ds t))
  where
    first : (a : Arrival) → (a.flow ≡ flow) × (a.slot + d.deadline ≤ t) → Soon flow (d ∷ ds) t a
    first a w = let z : a.flow - flow ≡ 0 = omega (arith, w.0) in (omega (arith, w.0), omega (arith, w.0), rw z w.1)

    later : (a : Arrival) → Soon (suc flow) ds t a → Soon flow (d ∷ ds) t a
    later a w =
        let z : a.flow - flow ≡ suc (a.flow - suc flow) = omega (arith, w.0) in
        (omega (arith, w.0), omega (arith, w.1), rw z w.2)

module _ (ds : List Declaration) (good : Good ds) (t : ℕ) where
  pub heaviest_keep : AllKeep ds (heaviest ds t)
  heaviest_keep flow l = rw (zero-add flow) at (from_keeps 0 ds t good flow l)

  pub heaviest_own : NoOthers ds (heaviest ds t)
  heaviest_own = each_map (Soon 0 ds t) (λ (a : Arrival). a.flow < length ds) (λ a w. omega (arith, w.1)) (heaviest ds t) (from_soon 0 ds t)

  pub heaviest_soon : Each (λ (a : Arrival). (window_in ds a).last < t) (heaviest ds t)
  heaviest_soon =
      each_map (Soon 0 ds t) (λ (a : Arrival). (window_in ds a).last < t)
      (λ a w. let z : a.flow - 0 ≡ a.flow = omega arith in let e = rw z at w.2 in omega (arith, e, (good a.flow (omega (arith, w.1))).2.0))
      (heaviest ds t) (from_soon 0 ds t)
