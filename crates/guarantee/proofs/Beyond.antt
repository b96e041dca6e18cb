-- G2: a plan's slots stand apart, and where every window closes before slot t they are all below t. So it sends at most t cells, and the
-- heaviest by a t that fails are more. Of an admitted list no slots are too few for the cells that are due in them, and all can be served.
use Rattle.std.specs.Prelude.{Ok, Err}
use mathlib.Core.Path.{◌≡◌, ◌∙◌}
use mathlib.Core.Logic.{◌⊎◌, inl, inr, ◌↔◌}
use mathlib.Core.List.{List, map}
use Prim.Native.Nat.{ℕ, ◌*◌, ◌≤◌, ◌<◌}
use native.Mathlib.Omega.{arith}
use lib.ListN.{length, length-map}
use Rattle.places.specs.Members.{Each}
use Rattle.places.proofs.Members.{each_map, each_mapped, each_at}
use Rattle.link.specs.declared.Declaration.{Declaration}
use Rattle.link.specs.declared.Objection.TheVariants.{FailsAt, Rate}
use Rattle.link.specs.Demand.{demand_of}
use Rattle.link.specs.Rate.{greatest_of}
use Rattle.link.specs.Verdicts.{admit_of}
use Rattle.link.specs.Published.{Fits}
use Rattle.link.proofs.Numbers.{Good}
use Rattle.promises_urgent.specs.Plans.{Window, no_window, Sending, Plan, Allowed}
use Rattle.promises.proofs.Promises.{promises}
use Rattle.guarantee.specs.Arrivals.{Arrival, WithinDeclarations, window_in}
use Rattle.guarantee.specs.Heaviest.{heaviest}
use Rattle.guarantee.specs.Guarantee.{Beyond, Sendable}
use Rattle.guarantee.proofs.Apart.{few_apart}
use Rattle.guarantee.proofs.Served.{all_served}
use Rattle.guarantee.proofs.Kept.{due_most}
use Rattle.guarantee.proofs.Heaviest.{heaviest_length, heaviest_keep, heaviest_own, heaviest_soon}

plan_most : (windows : List Window) (slots : List ℕ) (t : ℕ) → Each (λ (w : Window). w.last < t) windows
    → (plan : List Sending) → Plan windows slots plan → length plan ≤ t
plan_most windows slots t close plan p =
    let early = each_map (Allowed windows slots) (λ (x : Sending). x.slot < t)
    (λ x w. omega (arith, w.3, each_at (λ (v : Window). v.last < t) no_window windows x.cell w.0 close)) plan p.allowed in
    let few = few_apart t (map (λ (x : Sending). x.slot) plan) p.slots_apart (each_mapped (λ (x : Sending). x.slot) (λ (n : ℕ). n < t) plan early) in
    omega (arith, few, length-map plan (λ (x : Sending). x.slot))

beyond : (ds : List Declaration) → Good ds → (t : ℕ) → t < demand_of ds t → Beyond ds (heaviest ds t)
beyond ds good t more =
    record {
      within = record { keep = heaviest_keep ds good t; others = heaviest_own ds good t };
      no_plan = λ slots plan p.
          omega (
            arith,
            heaviest_length ds t,
            plan_most (map (window_in ds) (heaviest ds t)) slots t (each_mapped (window_in ds) (λ (w : Window). w.last < t) (heaviest ds t) (heaviest_soon ds good t)) plan p,
          );
    }

pub G2-fails : (ds : List Declaration) (t : ℕ) → admit_of ds ≡ Err (FailsAt t) → Beyond ds (heaviest ds t)
G2-fails ds t e = let w = (promises.A1.fails ds t).0 e in beyond ds w.0.within t w.2.fails

pub G2-rate : (ds : List Declaration) → admit_of ds ≡ Err Rate → Beyond ds (heaviest ds (5041 * greatest_of ds))
G2-rate ds e = beyond ds ((promises.A1.rate ds).0 e).0.within (5041 * greatest_of ds) (promises.A2.rate_fails ds e)

pub G2-exact : (ds : List Declaration) → Fits ds
    → (admit_of ds ≡ Ok tt) ↔ ((cells : List Arrival) → WithinDeclarations ds cells → Sendable ds cells)
G2-exact ds fits = (served, judged)
  where
    served : admit_of ds ≡ Ok tt → (cells : List Arrival) → WithinDeclarations ds cells → Sendable ds cells
    served e cells within =
        let (slots, plan, is-plan, all) = all_served (map (window_in ds) cells) (due_most ds fits ((promises.A1.admitted ds).0 e).1 cells within) in
        (slots, plan, is-plan, all ∙ length-map cells (window_in ds))

    judged : ((cells : List Arrival) → WithinDeclarations ds cells → Sendable ds cells) → admit_of ds ≡ Ok tt
    judged can = go (promises.A2.somewhere ds fits)
      where
        go : (admit_of ds ≡ Ok tt) ⊎ ((t : ℕ) × (t < demand_of ds t)) → admit_of ds ≡ Ok tt
        go (inl e) = e
        go (inr (t, more)) =
            let too = beyond ds fits.within t more in
            let (slots, plan, is-plan, all) = can (heaviest ds t) too.within in
            absurd (omega (arith, too.no_plan slots plan is-plan, all))
