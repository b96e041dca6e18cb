-- Cells within an admitted list overload no slots. Of one flow only so many cells can be due from slot s to slot b as its declaration demands
-- by b + 1 − s, since they all arrive in the slots from s to b + 1 − D; so flow by flow no more are due than the list demands, which is at
-- most the number of these slots.
use mathlib.Core.Path.{◌≡◌}
use mathlib.Core.Bool.{Bool, true, ◌&&◌}
use mathlib.Core.List.{List, [], ◌∷◌, map}
use Prim.Native.Nat.{ℕ, zero, suc, ◌+◌, ◌-◌, ◌≤◌, ◌<◌}
use native.Mathlib.Decide.{dec_le}
use native.Mathlib.Nat.{le_trans}
use native.Mathlib.Omega.{arith}
use borrow.Author.Tests.{leb-true, eqb-true, le-leb, lt-leb, lt-ltb, eq-eqb}
use lib.Dec.{leb, eqb}
use Rattle.places.specs.Places.{bit, count}
use Rattle.places.proofs.Count.{bit_le, count_le, count_map, count_none}
use Rattle.places.proofs.Tests.{and_told}
use Rattle.link.specs.declared.Declaration.{Declaration}
use Rattle.link.specs.Demand.{demand_one}
use Rattle.link.specs.Published.{Fits, Keeps}
use Rattle.promises_urgent.specs.Plans.{Window, due, slots_in, Overloaded}
use Rattle.guarantee.specs.Arrivals.{Arrival, declared, arrives_in, KeepsDeclaration, WithinDeclarations, window_in}
use Rattle.guarantee.proofs.Flows.{all_flows}

module _ (ds : List Declaration) (cells : List Arrival) (s b : ℕ) where
  -- a cell's window lies from slot s to slot b
  abbrev lies_in : Arrival → Bool
  lies_in a = leb s (window_in ds a).first && leb (window_in ds a).last b

  module _ (flow : ℕ) where
    told : (a : Arrival) → (eqb a.flow flow && lies_in a) ≡ true → (a.flow ≡ flow) × (s ≤ a.slot) × (a.slot + (declared ds flow).deadline - 1 ≤ b)
    told a e =
        let f : a.flow ≡ flow = eqb-true a.flow flow (and_told (eqb a.flow flow) (lies_in a) e).0 in
        let w = and_told (leb s a.slot) _ (and_told (eqb a.flow flow) (lies_in a) e).1 in
        (f, leb-true s a.slot w.0, rw f at (leb-true _ b w.1))

    one_flow : KeepsDeclaration (declared ds flow) flow cells → 1 ≤ (declared ds flow).deadline
        → count (λ (a : Arrival). eqb a.flow flow && lies_in a) cells ≤ demand_one (declared ds flow) (b + 1 - s)
    one_flow keeps some = go (dec_le (declared ds flow).deadline (b + 1 - s))
      where
        go : Dec ((declared ds flow).deadline ≤ b + 1 - s)
            → count (λ (a : Arrival). eqb a.flow flow && lies_in a) cells ≤ demand_one (declared ds flow) (b + 1 - s)
        go (yes m) =
            let k = b + 1 - s - (declared ds flow).deadline + 1 in
            let less : k - 1 ≡ b + 1 - s - (declared ds flow).deadline = omega arith in
            let most : count (λ (a : Arrival). eqb a.flow flow && lies_in a) cells ≤ count (arrives_in flow s k) cells =
            count_le (λ (a : Arrival). eqb a.flow flow && lies_in a) (arrives_in flow s k) (λ a. bit_le _ (arrives_in flow s k a)
            (λ e. let w = told a e in rw (eq-eqb a.flow flow w.0, le-leb s a.slot w.1) (lt-ltb a.slot (s + k) (omega (arith, w.2))))) cells in
            rw (le-leb (declared ds flow).deadline (b + 1 - s) m, ← less) (omega (arith, keeps s k (omega arith), most))
        go (no m) =
            rw (lt-leb (declared ds flow).deadline (b + 1 - s) (omega arith))
            (omega (arith, count_none (λ (a : Arrival). eqb a.flow flow && lies_in a) cells (record { flow = 0; slot = 0 }) (λ i e. let w = told _ e in omega (arith, w.1, w.2))))

-- no more cells are due from s to b than there are slots from s to b
pub due_most : (ds : List Declaration) → Fits ds → Keeps ds → (cells : List Arrival) → WithinDeclarations ds cells
    → (s b : ℕ) → due (map (window_in ds) cells) s b ≤ b + 1 - s
due_most ds fits enough cells w s b =
    rw (count_map (window_in ds) (λ (v : Window). leb s v.first && leb v.last b) cells)
    (le_trans (all_flows ds (lies_in ds cells s b) cells (b + 1 - s) (λ flow m. one_flow ds cells s b flow (w.keep flow m) (fits.within flow m).2.0) w.others) (enough (b + 1 - s)))

-- the slots before slot n, the newest first
unfoldable pub before : ℕ → List ℕ
before zero = []
before (suc n) = n ∷ before n

-- of them those from s to c − 1 are all there
slots_there : (n s b c : ℕ) → c ≤ n → c ≤ b + 1 → c - s ≤ slots_in (before n) s b
unfolding count before
slots_there zero s b c l m = omega arith
slots_there (suc n) s b c l m = go (dec_le c n) (dec_le s n) (slots_there n s b)
  where
    go : Dec (c ≤ n) → Dec (s ≤ n) → ((e : ℕ) → e ≤ n → e ≤ b + 1 → e - s ≤ slots_in (before n) s b) → c - s ≤ bit (leb s n && leb n b) + slots_in (before n) s b
    go (yes x) y there = omega (arith, there c x m)
    go (no x) (yes y) there = rw (le-leb s n y, le-leb n b (omega arith)) (omega (arith, there n (omega arith) (omega arith)))
    go (no x) (no y) there = omega arith

-- no window that has closed was overloaded, if every slot was open
pub not_overloaded : (ds : List Declaration) → Fits ds → Keeps ds → (cells : List Arrival) → WithinDeclarations ds cells
    → (now : ℕ) (w : Window) → w.first ≤ w.last → w.last < now → Overloaded (map (window_in ds) cells) (before now) w → ⊥
not_overloaded ds fits enough cells within now w l m (s, a, more) =
    omega (arith, more, due_most ds fits enough cells within s w.last, slots_there now s w.last (w.last + 1) (omega arith) (omega arith))
