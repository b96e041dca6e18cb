-- Flow by flow: where no other flow has cells, and of each flow no more cells pass a test than its declaration demands, no more pass it in
-- all than the list demands.
use mathlib.Core.Path.{◌≡◌, refl}
use mathlib.Core.Bool.{Bool, ◌&&◌}
use mathlib.Core.List.{List, [], ◌∷◌, ◌++◌}
use Prim.Native.Nat.{ℕ, zero, suc, ◌+◌, ◌≤◌, ◌<◌}
use native.Mathlib.Nat.{le_refl}
use native.Mathlib.Omega.{arith}
use borrow.Author.Tests.{lt-ltb, le-ltb}
use lib.Dec.{ltb, eqb}
use lib.ListN.{length, take}
use lib.Seq.{take-suc, take_all}
use Rattle.places.specs.Places.{count}
use Rattle.places.proofs.Count.{and_cover, below_suc, count_cover}
use Rattle.link.specs.declared.Declaration.{Declaration}
use Rattle.link.specs.Limits.{no_declaration}
use Rattle.link.specs.Demand.{demand_one, demand_of}
use Rattle.guarantee.specs.Arrivals.{Arrival, declared, NoOthers}

demand_last : (ds : List Declaration) (d : Declaration) (t : ℕ) → demand_of (ds ++ d ∷ []) t ≡ demand_of ds t + demand_one d t
unfolding demand_of
demand_last [] d t = omega arith
demand_last (e ∷ ds) d t = omega (arith, demand_last ds d t)

module _ (ds : List Declaration) (p : Arrival → Bool) (cells : List Arrival) (t : ℕ)
    (each : (flow : ℕ) → flow < length ds → count (λ (a : Arrival). eqb a.flow flow && p a) cells ≤ demand_one (declared ds flow) t)
  where
    -- the cells of flows below n
    none_below : (xs : List Arrival) → count (λ (a : Arrival). ltb a.flow 0 && p a) xs ≡ 0
    unfolding count
    none_below [] = refl
    none_below (a ∷ xs) = rw (le-ltb a.flow 0 (omega arith)) (omega (arith, none_below xs))

    below : (n : ℕ) → n ≤ length ds → count (λ (a : Arrival). ltb a.flow n && p a) cells ≤ demand_of (take n ds) t
    below zero l = omega (arith, none_below cells)
    below (suc n) l =
        rw (take-suc ds n no_declaration l, demand_last (take n ds) (declared ds n) t)
        (omega (
          arith,
          below n (omega arith),
          each n l,
          count_cover (λ (a : Arrival). ltb a.flow (suc n) && p a) (λ (a : Arrival). ltb a.flow n && p a) (λ (a : Arrival). eqb a.flow n && p a)
              (λ a. and_cover (ltb a.flow (suc n)) (ltb a.flow n) (eqb a.flow n) (below_suc a.flow n) (p a)) cells,
        ))

    all_below : (xs : List Arrival) → NoOthers ds xs → count p xs ≡ count (λ (a : Arrival). ltb a.flow (length ds) && p a) xs
    unfolding count
    all_below [] e = refl
    all_below (a ∷ xs) e = rw (lt-ltb a.flow (length ds) e.0) (omega (arith, all_below xs e.1))

    pub all_flows : NoOthers ds cells → count p cells ≤ demand_of ds t
    all_flows e =
        let most : count p cells ≤ demand_of (take (length ds) ds) t = omega (arith, all_below cells e, below (length ds) (le_refl (length ds))) in
        rw (take_all (length ds) ds (le_refl (length ds))) at most
