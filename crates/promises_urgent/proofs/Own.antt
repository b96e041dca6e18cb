-- U4. Every accepted cell was accepted by now. The slots of the cells sent fall from the newest to the oldest, all before now, and no
-- cell was sent twice. Each was sent in an open slot; its flow and number stand among the accepted cells, and the first cell there that
-- has them was accepted by then and had its last slot no sooner. Each call keeps this, and it makes the sendings a plan.
use mathlib.Core.Path.{◌≡◌, refl, sym, ap, ◌∙◌}
use mathlib.Core.Logic.{inl, inr}
use mathlib.Core.Bool.{Bool, true, false, not, cond, ◌&&◌, ◌||◌, true≢false, false≢true}
use mathlib.Core.List.{List, [], ◌∷◌, map}
use Prim.Native.Nat.{ℕ, zero, suc, ◌+◌, ◌≤◌, ◌<◌}
use native.Mathlib.Nat.{not-suc-le-zero}
use native.Mathlib.Omega.{arith}
use borrow.Author.Tests.{eq-eqb}
use lib.Dec.{eqb}
use lib.ListN.{length, get_or, length-map, get_or-map}
use Rattle.units.specs.Limits.{place_count}
use Rattle.places.specs.Places.{bit, count, flow_of}
use Rattle.places.proofs.Count.{count_le, and_le}
use Rattle.urgent.specs.declared.Cell.{Cell as Place}
use Rattle.places.specs.Members.{Each}
use Rattle.places.proofs.Numbers.{is_this_lem}
use Rattle.places.proofs.Tests.{eqb_swap}
use Rattle.promises_urgent.specs.Plans.{Member, Apart, no_window, Sending, Allowed}
use Rattle.promises_urgent.specs.Cells.{Cell, its_flow, its_number, is_cell, no_cell, Gone, Cells, no_cells, was_sent, waits, window_of, windows}
use Rattle.promises_urgent.specs.Promised.{Windowed, index_of, OwnPlan}
use Rattle.places.proofs.Members.{none_passes, each_map, each_at}
use Rattle.promises_urgent.proofs.Turned.{sent_cells, end_cells}
use Rattle.promises_urgent.proofs.Steps.{with_cell, OneLess, waits_told, sent_before}

-- the accepted cell that has a flow and a number
abbrev pub cell_of : List Cell → ℕ → ℕ → Cell
cell_of cells flow number = get_or cells (index_of cells flow number) no_cell

-- a sending as it should be
abbrev pub Right : List Cell → List ℕ → Gone → Type 0
Right cells usable g =
    Member g.slot usable
    × (index_of cells g.flow g.number < length cells)
    × ((cell_of cells g.flow g.number).flow ≡ g.flow)
    × ((cell_of cells g.flow g.number).number ≡ g.number)
    × ((cell_of cells g.flow g.number).arrival ≤ g.slot)
    × (g.slot ≤ (cell_of cells g.flow g.number).last)

-- the slots fall, all before n, and no cell stands twice
abbrev pub Falling : ℕ → List Gone → Type 0
Falling n [] = Unit {0}
Falling n (g ∷ gs) = (g.slot < n) × (was_sent gs g.flow g.number ≡ false) × Falling g.slot gs

-- what each call keeps
abbrev pub Sends : Cells → Type 0
Sends h = Each (λ (a : Cell). a.arrival ≤ h.slot) h.accepted × Falling h.slot h.sent × Each (Right h.accepted h.usable) h.sent

-- before any call
pub sends_none : Sends no_cells
sends_none = (tt, tt, tt)

-- ---- a cell is accepted
module _ (h : Cells) (s : Sends h) (a : Cell) (now : a.arrival ≡ h.slot) (w : waits h a ≡ true) where
  -- it was not sent, so that the others are found behind it
  right_more : (gs : List Gone) → was_sent gs a.flow a.number ≡ false → Each (Right h.accepted h.usable) gs → Each (Right (a ∷ h.accepted) h.usable) gs
  unfolding was_sent index_of
  right_more [] u r = tt
  right_more (g ∷ gs) u r = go (eqb g.flow a.flow && eqb g.number a.number) refl u (right_more gs)
    where
      go : (t : Bool) → (eqb g.flow a.flow && eqb g.number a.number) ≡ t → (t || was_sent gs a.flow a.number) ≡ false
          → (was_sent gs a.flow a.number ≡ false → Each (Right h.accepted h.usable) gs → Each (Right (a ∷ h.accepted) h.usable) gs)
          → Each (Right (a ∷ h.accepted) h.usable) (g ∷ gs)
      go true p e more = absurd (true≢false e)
      go false p e more =
          let b : index_of (a ∷ h.accepted) g.flow g.number ≡ suc (index_of h.accepted g.flow g.number) =
          rw (eqb_swap a.flow g.flow, eqb_swap a.number g.number, p) in
          let q = r.0 in
          (rw b (q.0, omega (arith, q.1), q.2, q.3, q.4, q.5), more e r.1)

  pub sends_offer : Sends (with_cell h a)
  sends_offer = ((omega arith, s.0), s.1, right_more h.sent (waits_told h a w).0 s.2)

-- ---- a turn that sends nothing (the sum of the missed counts plays no part, so that any may stand in its place)
arrived_later : (n : ℕ) (cells : List Cell) → Each (λ (a : Cell). a.arrival ≤ n) cells → Each (λ (a : Cell). a.arrival ≤ suc n) cells
arrived_later n = each_map (λ (a : Cell). a.arrival ≤ n) _ (λ a l. omega arith)

falling_later : (n : ℕ) (gs : List Gone) → Falling n gs → Falling (suc n) gs
falling_later n [] f = tt
falling_later n (g ∷ gs) f = (omega (arith, f.0), f.1, f.2)

one_slot_more : (cells : List Cell) (slot : ℕ) (usable : List ℕ) (gs : List Gone) → Each (Right cells usable) gs → Each (Right cells (slot ∷ usable)) gs
one_slot_more cells slot usable = each_map (Right cells usable) _ (λ g r. (inr r.0, r.1, r.2, r.3, r.4, r.5))

module _ (h : Cells) (s : Sends h) where
  pub sends_lost : Sends (end_cells h h.usable h.missed)
  sends_lost = (arrived_later h.slot h.accepted s.0, falling_later h.slot h.sent s.1, s.2)

  pub sends_idle : Sends (end_cells h (h.slot ∷ h.usable) h.missed)
  sends_idle = (
    arrived_later h.slot h.accepted s.0,
    falling_later h.slot h.sent s.1,
    one_slot_more h.accepted h.slot h.usable h.sent s.2,
  )

-- ---- a turn that sends
-- a cell that is there is found
index_found : (flow number : ℕ) (cells : List Cell) → 0 < count (is_cell flow number) cells
    → (index_of cells flow number < length cells) × (is_cell flow number (cell_of cells flow number) ≡ true)
unfolding count index_of
index_found flow number [] l = absurd (not-suc-le-zero l)
index_found flow number (a ∷ cells) l = go (is_cell flow number a) refl l (index_found flow number cells)
  where
    go : (t : Bool) → is_cell flow number a ≡ t → 0 < bit t + count (is_cell flow number) cells
        → (0 < count (is_cell flow number) cells → (index_of cells flow number < length cells) × (is_cell flow number (cell_of cells flow number) ≡ true))
        → (cond t 0 (suc (index_of cells flow number)) < suc (length cells))
        × (is_cell flow number (get_or (a ∷ cells) (cond t 0 (suc (index_of cells flow number))) no_cell) ≡ true)
    go true p l r = (omega arith, p)
    go false p l r = let q = r (omega arith) in (omega (arith, q.0), q.1)

module _ (h : Cells) (s : Sends h) (place : ℕ) (c : Place) (less : OneLess h place c)
    (there : count (λ (a : Cell). is_cell (flow_of place_count place) c.number a && not (waits h a)) h.accepted ≡ 0) where
  -- the cell that is sent is there
  one : 0 < count (is_cell (flow_of place_count place) c.number) h.accepted
  one =
      let o : bit (eqb (flow_of place_count place) (flow_of place_count place) && eqb c.number c.number) ≡ 1 =
      rw (eq-eqb (flow_of place_count place) (flow_of place_count place) refl, eq-eqb c.number c.number refl) in
      omega (
        arith,
        less (λ f n l. eqb f (flow_of place_count place) && eqb n c.number),
        count_le (λ (a : Cell). is_cell (flow_of place_count place) c.number a && waits h a) (is_cell (flow_of place_count place) c.number)
            (λ a. and_le (is_cell (flow_of place_count place) c.number a) (waits h a)) h.accepted,
      )

  -- it is found, and it waits
  it : Cell
  it = cell_of h.accepted (flow_of place_count place) c.number

  found : (index_of h.accepted (flow_of place_count place) c.number < length h.accepted) × (is_cell (flow_of place_count place) c.number it ≡ true)
  unfolding it
  found = index_found (flow_of place_count place) c.number h.accepted one

  it_waits : waits h it ≡ true
  unfolding it
  it_waits =
      go (is_cell (flow_of place_count place) c.number it) (waits h it) found.1
      (each_at _ no_cell h.accepted (index_of h.accepted (flow_of place_count place) c.number) found.0 (none_passes _ h.accepted there))
    where
      go : (x y : Bool) → x ≡ true → (x && not y) ≡ false → y ≡ true
      go true true p e = refl
      go true false p e = absurd (true≢false e)
      go false y p e = absurd (false≢true p)

  pub sends_sent : Sends (end_cells (sent_cells h place c) (h.slot ∷ h.usable) h.missed)
  unfolding it
  sends_sent =
      let i = is_this_lem its_flow its_number (flow_of place_count place) c.number it found.1 in
      let w = waits_told h it it_waits in (
        arrived_later h.slot h.accepted s.0,
        (omega arith, rw (i.0, i.1) at w.0, s.1),
        (
          (inl refl, found.0, i.0, i.1, each_at _ no_cell h.accepted (index_of h.accepted (flow_of place_count place) c.number) found.0 s.0, w.1),
          one_slot_more h.accepted h.slot h.usable h.sent s.2,
        ),
      )

-- ---- the plan
-- a cell that was sent, as a sending of the plan
abbrev sending : List Cell → Gone → Sending
sending cells g = record { cell = index_of cells g.flow g.number; slot = g.slot }

-- a cell's last slot is that of its window
window_last : (cells : List Cell) → Windowed cells → (i : ℕ) → (get_or cells i no_cell).last ≡ (window_of (get_or cells i no_cell)).last
window_last [] w i = refl
window_last (a ∷ cells) w zero = w.0.0
window_last (a ∷ cells) w (suc i) = window_last cells w.1 i

-- a cell that was not sent in some sendings has another index than theirs
module _ (cells : List Cell) (usable : List ℕ) (g : Gone) (right : Right cells usable g) where
  elsewhere : (gs : List Gone) → was_sent gs g.flow g.number ≡ false → Each (Right cells usable) gs
      → Member (index_of cells g.flow g.number) (map (λ (s : Sending). s.cell) (map (sending cells) gs)) → ⊥
  unfolding was_sent
  elsewhere [] u r m = m
  elsewhere (k ∷ gs) u r (inl e) =
      let f : k.flow ≡ g.flow = sym r.0.2 ∙ ap (λ (i : ℕ). (get_or cells i no_cell).flow) (sym e) ∙ right.2 in
      let n : k.number ≡ g.number = sym r.0.3 ∙ ap (λ (i : ℕ). (get_or cells i no_cell).number) (sym e) ∙ right.3 in
      true≢false (rw (eq-eqb k.flow g.flow f, eq-eqb k.number g.number n) at u)
  elsewhere (k ∷ gs) u r (inr m) = elsewhere gs (sent_before k gs g.flow g.number u) r.1 m

-- no cell stands twice in the plan
cells_apart_lem : (cells : List Cell) (usable : List ℕ) (n : ℕ) (gs : List Gone) → Falling n gs → Each (Right cells usable) gs
    → Apart (map (λ (s : Sending). s.cell) (map (sending cells) gs))
cells_apart_lem cells usable n [] f r = tt
cells_apart_lem cells usable n (g ∷ gs) f r = (elsewhere cells usable g r.0 gs f.1 r.1, cells_apart_lem cells usable g.slot gs f.2 r.1)

-- the slots of the cells sent are all before n, so that the newest is none of the others
below : (cells : List Cell) (n : ℕ) (gs : List Gone) → Falling n gs → (t : ℕ) → Member t (map (λ (s : Sending). s.slot) (map (sending cells) gs)) → t < n
below cells n [] f t m = absurd m
below cells n (g ∷ gs) f t (inl e) = omega (arith, f.0)
below cells n (g ∷ gs) f t (inr m) = omega (arith, f.0, below cells g.slot gs f.2 t m)

-- no slot stands twice in the plan
slots_apart_lem : (cells : List Cell) (n : ℕ) (gs : List Gone) → Falling n gs → Apart (map (λ (s : Sending). s.slot) (map (sending cells) gs))
slots_apart_lem cells n [] f = tt
slots_apart_lem cells n (g ∷ gs) f = ((λ m. omega (arith, below cells g.slot gs f.2 g.slot m)), slots_apart_lem cells g.slot gs f.2)

-- each sending is allowed: a cell's window is read at the cell's index
all_allowed : (h : Cells) → Windowed h.accepted → (gs : List Gone) → Each (Right h.accepted h.usable) gs
    → Each (Allowed (windows h) h.usable) (map (sending h.accepted) gs)
all_allowed h n [] r = tt
all_allowed h n (g ∷ gs) r =
    let i = index_of h.accepted g.flow g.number in
    let w : get_or (windows h) i no_window ≡ window_of (get_or h.accepted i no_cell) = get_or-map window_of h.accepted i no_cell in (
      (
        omega (arith, r.0.1, length-map h.accepted window_of),
        r.0.0,
        rw w r.0.4,
        rw w (omega (arith, r.0.5, window_last h.accepted n i)),
      ),
      all_allowed h n gs r.1,
    )

-- U4
pub own_plan : (h : Cells) → Sends h → Windowed h.accepted → OwnPlan h
own_plan h s windowed =
    record {
      plan =
          record {
            allowed = all_allowed h windowed h.sent s.2;
            cells_apart = cells_apart_lem h.accepted h.usable h.slot h.sent s.1 s.2;
            slots_apart = slots_apart_lem h.accepted h.slot h.sent s.1;
          };
      named = each_map (Right h.accepted h.usable) _ (λ g r. (r.2, r.3)) h.sent s.2;
    }
