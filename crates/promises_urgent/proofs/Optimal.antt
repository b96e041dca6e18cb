-- No plan sends more cells than the lane. What each call keeps: for each slot e from now on, the accepted cells that a plan has used
-- before now, or whose last slot is e or later, are at most the cells sent and the waiting cells whose last slot is e or later.
use mathlib.Core.Path.{◌≡◌, refl, sym, ap, ◌∙◌}
use mathlib.Core.Logic.{inl, inr}
use mathlib.Core.Bool.{Bool, true, false, not, ◌&&◌}
use mathlib.Core.List.{List, [], ◌∷◌}
use Prim.Native.Nat.{ℕ, suc, ◌+◌, ◌≤◌, ◌<◌, zero-le}
use native.Mathlib.Decide.{dec_lt}
use native.Mathlib.Omega.{arith}
use borrow.Author.Tests.{leb-true, leb-false, le-leb, lt-leb, lt-ltb}
use lib.Dec.{leb, ltb}
use lib.ListN.{length, get_or, get_or-eq_default}
use Rattle.places.specs.Places.{bit, count}
use Rattle.places.proofs.Count.{count_same, count_cover}
use Rattle.promises_urgent.specs.Plans.{Member, Window, no_window, Allowed}
use Rattle.promises_urgent.specs.Cells.{Cell, Gone, Cells, no_cells, was_sent, waits, window_of, windows}
use Rattle.promises_urgent.specs.Promised.{NoneBetter}
use Rattle.places.proofs.Members.{each_map}
use Rattle.promises_urgent.proofs.Turned.{end_cells}
use Rattle.promises_urgent.proofs.Uses.{Use, unused, in_slot, not_used, uses, uses_length, use_told, uses_size, uses_apart}
use Rattle.promises_urgent.proofs.Counted.{counted, step_none, step_all, step_one, size_counted, counted_new, counted_none}

-- a plan that may use slots to come
pub record Valid (now : ℕ) (slots : List ℕ) (ws : List Window) (us : List Use) : Type 0 where
  pub each : length us ≡ length ws
  pub usable : (i t : ℕ) → get_or us i unused ≡ in_slot t → t < now → Member t slots
  pub arrived : (i t : ℕ) → get_or us i unused ≡ in_slot t → (get_or ws i no_window).first ≤ t
  pub intime : (i t : ℕ) → get_or us i unused ≡ in_slot t → t ≤ (get_or ws i no_window).last
  pub apart : (i j t : ℕ) → get_or us i unused ≡ in_slot t → get_or us j unused ≡ in_slot t → i ≡ j

-- the waiting cells whose last slot is e or later
abbrev pub late_ones : Cells → ℕ → ℕ
late_ones h e = count (λ (a : Cell). leb e a.last && waits h a) h.accepted

pub record Best (h : Cells) : Type 0 where
  pub past : (t : ℕ) → Member t h.usable → t < h.slot
  pub most : (us : List Use) → Valid h.slot h.usable (windows h) us → (e : ℕ) → h.slot ≤ e
      → counted h.slot e (windows h) us ≤ length h.sent + late_ones h e

pub best_none : Best no_cells
unfolding count
best_none = record { past = λ t m. absurd m; most = λ us v e b. omega (arith, counted_none 0 e us) }

-- ---- a cell is accepted
valid_tail : {now : ℕ} {slots : List ℕ} {w : Window} {ws : List Window} {x : Use} {us : List Use} → Valid now slots (w ∷ ws) (x ∷ us) → Valid now slots ws us
valid_tail v =
    record {
      each = omega (arith, v.each);
      usable = λ i. v.usable (suc i);
      arrived = λ i. v.arrived (suc i);
      intime = λ i. v.intime (suc i);
      apart = λ i j t p q. omega (arith, v.apart (suc i) (suc j) t p q);
    }

module _ (h : Cells) (k : Best h) where
  pub best_offer : (a : Cell) → a.arrival ≡ h.slot → a.last ≡ (window_of a).last → waits h a ≡ true
      → Best (record { slot = h.slot; marks = h.marks; accepted = a ∷ h.accepted; usable = h.usable; sent = h.sent; missed = h.missed })
  unfolding count
  best_offer a n l w = record { past = k.past; most = go }
    where
      now_late : (e : ℕ) → bit (leb e a.last && waits h a) ≡ bit (leb e (window_of a).last)
      now_late e = rw (w, l) (and_true (leb e (window_of a).last))
        where
          and_true : (t : Bool) → bit (t && true) ≡ bit t
          and_true true = refl
          and_true false = refl

      go : (us : List Use) → Valid h.slot h.usable (window_of a ∷ windows h) us → (e : ℕ) → h.slot ≤ e
          → counted h.slot e (window_of a ∷ windows h) us ≤ length h.sent + (bit (leb e a.last && waits h a) + late_ones h e)
      go [] v e b = absurd (omega (arith, v.each))
      go (x ∷ us) v e b =
          omega (arith, counted_new h.slot e (window_of a) (windows h) x us (λ s r. omega (arith, v.arrived 0 s r)), k.most us (valid_tail v) e b, now_late e)

-- ---- a turn: h with its sendings so far, and the slot that is open or lost
valid_lost : {now : ℕ} {slots : List ℕ} {ws : List Window} {us : List Use} → Valid (suc now) slots ws us → Valid now slots ws us
valid_lost v = record { each = v.each; usable = λ i t p b. v.usable i t p (omega arith); arrived = v.arrived; intime = v.intime; apart = v.apart }

valid_open : {now : ℕ} {slots : List ℕ} {ws : List Window} {us : List Use} → Valid (suc now) (now ∷ slots) ws us → Valid now slots ws us
valid_open {now} {slots} v =
    record { each = v.each; usable = λ i t p b. go t b (v.usable i t p (omega arith)); arrived = v.arrived; intime = v.intime; apart = v.apart }
  where
    go : (t : ℕ) → t < now → Member t (now ∷ slots) → Member t slots
    go t b (inl q) = absurd (omega arith)
    go t b (inr q) = q

-- a turn's end changes no waiting cell whose last slot comes later
late_end : (h : Cells) (usable : List ℕ) (missed e : ℕ) → h.slot < e → late_ones (end_cells h usable missed) e ≡ late_ones h e
late_end h usable missed e b =
    count_same (λ (a : Cell). leb e a.last && waits (end_cells h usable missed) a) (λ a. leb e a.last && waits h a)
    (λ a. go a.last (leb e a.last) refl (not (was_sent h.sent a.flow a.number))) h.accepted
  where
    go : (l : ℕ) (x : Bool) → leb e l ≡ x → (s : Bool) → bit (x && (s && leb (suc h.slot) l)) ≡ bit (x && (s && leb h.slot l))
    go l true p s =
        let q : e ≤ l = leb-true e l p in
        rw (le-leb (suc h.slot) l (omega arith), le-leb h.slot l (omega arith))
    go l false p s = refl

module _ (h : Cells) (k : Best h) (missed : ℕ) where
  pub best_lost : Best (end_cells h h.usable missed)
  best_lost =
      record {
        past = λ t m. omega (arith, k.past t m);
        most = λ us v e b.
            let free : (i : ℕ) → get_or us i unused ≡ in_slot h.slot → ⊥ = λ i p. omega (arith, k.past h.slot (v.usable i h.slot p (omega arith))) in
            omega (arith, step_none h.slot e (windows h) us free, k.most us (valid_lost v) e (omega arith), late_end h h.usable missed e (omega arith));
      }

  past_open : (t : ℕ) → Member t (h.slot ∷ h.usable) → t < suc h.slot
  past_open t (inl q) = omega arith
  past_open t (inr m) = omega (arith, k.past t m)

  -- an open turn where nothing waits
  pub best_idle : ((e : ℕ) → late_ones h e ≡ 0) → Best (end_cells h (h.slot ∷ h.usable) missed)
  best_idle z =
      record {
        past = past_open;
        most = λ us v e b.
            omega (arith, step_all h.slot e (windows h) us (omega arith) v.intime, k.most us (valid_open v) h.slot (omega arith), z h.slot);
      }

  -- an open turn that sends a cell with this last slot: no waiting cell has an earlier one, and that cell waits no more
  pub best_sent : (g : Gone) (last : ℕ)
      → count (λ (a : Cell). ltb a.last last && waits h a) h.accepted ≡ 0
      → ((e : ℕ) → late_ones (record { slot = h.slot; marks = h.marks; accepted = h.accepted; usable = h.usable; sent = g ∷ h.sent; missed = h.missed }) e + bit (leb e last) ≡ late_ones h e)
      → Best (end_cells (record { slot = h.slot; marks = h.marks; accepted = h.accepted; usable = h.usable; sent = g ∷ h.sent; missed = h.missed }) (h.slot ∷ h.usable) missed)
  best_sent g last first less = record { past = past_open; most = λ us v e b. go us v e b (leb e last) refl }
    where
      sent : Cells
      sent = record { slot = h.slot; marks = h.marks; accepted = h.accepted; usable = h.usable; sent = g ∷ h.sent; missed = h.missed }

      -- every waiting cell's last slot is e or later
      same : (e : ℕ) → e ≤ last → late_ones h h.slot ≤ late_ones h e
      same e q =
          omega (
            arith,
            first,
            count_cover (λ (a : Cell). leb h.slot a.last && waits h a) (λ a. leb e a.last && waits h a) (λ a. ltb a.last last && waits h a)
                (λ a. one a.last (leb h.slot a.last) (leb e a.last) refl (waits h a)) h.accepted,
          )
        where
          one : (l : ℕ) (x y : Bool) → leb e l ≡ y → (w : Bool) → bit (x && w) ≤ bit (y && w) + bit (ltb l last && w)
          one l false y p w = zero-le
          one l true true p true = omega arith
          one l true false p true =
              let b : l < e = leb-false e l p in
              rw (lt-ltb l last (omega arith)) (omega arith)
          one l true true p false = omega arith
          one l true false p false = zero-le

      go : (us : List Use) → Valid (suc h.slot) (h.slot ∷ h.usable) (windows h) us → (e : ℕ) → suc h.slot ≤ e → (t : Bool) → leb e last ≡ t
          → counted (suc h.slot) e (windows h) us ≤ suc (length h.sent) + late_ones (end_cells sent (h.slot ∷ h.usable) missed) e
      go us v e b true p =
          let o : bit (leb e last) ≡ 1 = ap bit p in
          omega (
            arith,
            o,
            less e,
            step_all h.slot e (windows h) us (omega arith) v.intime,
            k.most us (valid_open v) h.slot (omega arith),
            same e (leb-true e last p),
            late_end sent (h.slot ∷ h.usable) missed e (omega arith),
          )
      go us v e b false p =
          let o : bit (leb e last) ≡ 0 = ap bit p in
          omega (
            arith,
            o,
            less e,
            step_one h.slot e (windows h) us (λ i j. v.apart i j h.slot),
            k.most us (valid_open v) e (omega arith),
            late_end sent (h.slot ∷ h.usable) missed e (omega arith),
          )

-- ---- the law
-- a slot that no accepted cell's last slot reaches
beyond : List Cell → ℕ
beyond [] = 0
beyond (a ∷ cells) = suc a.last + beyond cells

beyond_none : (h : Cells) (cells : List Cell) (e : ℕ) → beyond cells ≤ e → count (λ (a : Cell). leb e a.last && waits h a) cells ≡ 0
unfolding beyond count
beyond_none h [] e b = refl
beyond_none h (a ∷ cells) e b = rw (lt-leb e a.last (omega arith)) (omega (arith, beyond_none h cells e (omega arith)))

pub none_better : (h : Cells) → Best h → NoneBetter h
none_better h k plan p =
    let n : ℕ = length (windows h) in
    let us = uses n plan in
    let e = h.slot + beyond h.accepted in
    let told : (i t : ℕ) → get_or us i unused ≡ in_slot t → (i < n) × Allowed (windows h) h.usable (record { cell = i; slot = t }) = λ i t q. allowed i t q (dec_lt i n) in
    let v : Valid h.slot h.usable (windows h) us =
    record {
      each = uses_length n plan;
      usable = λ i t q b. (told i t q).1.1;
      arrived = λ i t q. (told i t q).1.2;
      intime = λ i t q. (told i t q).1.3;
      apart = λ i j t q r. uses_apart n plan p.slots_apart i j t (told i t q).0 (told j t r).0 q r;
    } in
    omega (
      arith,
      uses_size n plan (each_map (Allowed (windows h) h.usable) (λ s. s.cell < n) (λ s a. a.0) plan p.allowed) p.cells_apart,
      size_counted h.slot e (windows h) us (uses_length n plan) (λ i t q. k.past t (told i t q).1.1),
      k.most us v e (omega arith),
      beyond_none h h.accepted e (omega arith),
    )
  where
    allowed : (i t : ℕ) → get_or (uses (length (windows h)) plan) i unused ≡ in_slot t → Dec (i < length (windows h))
        → (i < length (windows h)) × Allowed (windows h) h.usable (record { cell = i; slot = t })
    allowed i t q (yes l) = (l, use_told (length (windows h)) plan (Allowed (windows h) h.usable) p.allowed i t l q)
    allowed i t q (no l) =
        absurd (not_used t (sym (get_or-eq_default (uses (length (windows h)) plan) unused (omega (arith, uses_length (length (windows h)) plan))) ∙ q))
