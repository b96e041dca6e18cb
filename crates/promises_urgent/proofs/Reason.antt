-- U6. For each slot b from the next one on there is a slot s such that no cell that waits to go by b was accepted before s, and the
-- open slots from s on and the cells that wait to go by b are together at most the cells accepted from s on that have to go by b.
-- Each call keeps this; a turn's end reads off it, at its own slot, the reason of each cell that it misses.
use mathlib.Core.Path.{◌≡◌, refl}
use mathlib.Core.Bool.{Bool, true, false, not, ◌&&◌, true≢false, false≢true}
use mathlib.Core.List.{List, [], ◌∷◌}
use Prim.Native.Nat.{ℕ, suc, ◌+◌, ◌≤◌, ◌<◌, zero-le}
use native.Mathlib.Nat.{le_refl}
use native.Mathlib.Omega.{arith}
use borrow.Author.Tests.{leb-true, leb-false, ltb-true, ltb-false, lt-ltb, le-ltb, le-leb, lt-leb}
use lib.Dec.{leb, ltb}
use Rattle.places.specs.Places.{bit, count}
use Rattle.places.proofs.Count.{count_le, count_and_le, and_le, bit_le_one}
use Rattle.urgent.specs.declared.Cell.{Cell as Place}
use Rattle.places.specs.Members.{Each}
use Rattle.promises_urgent.specs.Plans.{due, slots_in, Overloaded}
use Rattle.promises_urgent.specs.Cells.{Cell, Gone, Cells, no_cells, was_sent, waits, is_missed, window_of, windows}
use Rattle.promises_urgent.specs.Notes.{slot_of}
use Rattle.promises_urgent.specs.Promised.{Question, Windowed, Explained}
use Rattle.places.proofs.Members.{none_passes, each_map}
use Rattle.promises_urgent.proofs.Steps.{with_cell, OneLess, waits_told, sent_before, fewer_wait}
use Rattle.promises_urgent.proofs.Turned.{gone_from, sent_cells, end_cells}

-- the open slots from s on
abbrev pub slots_from : List ℕ → ℕ → ℕ
slots_from slots s = count (λ (t : ℕ). leb s t) slots

-- the cells that wait to go by b, and those of them that were accepted before s
abbrev pub pending : Cells → ℕ → ℕ
pending h b = count (λ (a : Cell). leb a.last b && waits h a) h.accepted

abbrev pub older : Cells → ℕ → ℕ → ℕ
older h s b = count (λ (a : Cell). (leb a.last b && ltb a.arrival s) && waits h a) h.accepted

-- from some slot on, at most a given one, the open slots went to cells that had to go by b
abbrev pub Busy : ℕ → Cells → ℕ → Type 0
Busy most h b = (s : ℕ) × (s ≤ most) × (older h s b ≡ 0) × (slots_from h.usable s + pending h b ≤ due (windows h) s b)

-- what each call keeps: no open slot is to come, the lane was busy, and each missed cell has its reason
abbrev pub Reasons : Cells → Type 0
Reasons h = (slots_from h.usable h.slot ≡ 0) × ((b : ℕ) → h.slot ≤ b → Busy h.slot h b) × Explained h

-- U6
pub explained : (h : Cells) → Reasons h → Explained h
explained h r = r.2

-- before any call
pub reasons_none : Reasons no_cells
unfolding count
reasons_none = (refl, (λ b l. (0, zero-le, refl, zero-le)), tt)

-- ---- a cell is accepted
module _ (h : Cells) (r : Reasons h) (a : Cell) (now : a.arrival ≡ h.slot) (last : a.last ≡ (window_of a).last) (w : waits h a ≡ true) where
  -- it arrives now, so it counts among the cells from any such slot on
  busy_more : (b : ℕ) → Busy h.slot h b → Busy h.slot (with_cell h a) b
  unfolding count
  busy_more b m =
      let f : ltb a.arrival m.0 ≡ false = le-ltb a.arrival m.0 (omega (arith, m.1)) in
      let o : bit ((leb a.last b && ltb a.arrival m.0) && waits h a) ≡ 0 = rw f (none (leb a.last b) (waits h a)) in
      let d : bit (leb m.0 a.arrival && leb (window_of a).last b) ≡ bit (leb a.last b) =
      rw (le-leb m.0 a.arrival (omega (arith, m.1)), ← last) in
      (m.0, m.1, omega (arith, m.2), omega (arith, m.3, and_le (leb a.last b) (waits h a)))
    where
      none : (x y : Bool) → bit ((x && false) && y) ≡ 0
      none true y = refl
      none false y = refl

  -- a cell that waits is not missed
  not_missed : is_missed h a ≡ true → ⊥
  not_missed m = let t = waits_told h a w in false≢true (rw (t.0, le-ltb a.last h.slot t.1) at m)

  pub reasons_offer : Reasons (with_cell h a)
  unfolding count
  reasons_offer = (
    r.0,
    (λ b l. busy_more b (r.1 b l)),
    (
      (λ m. absurd (not_missed m)),
      each_map (λ (x : Cell). is_missed h x ≡ true → Overloaded (windows h) h.usable (window_of x)) _ (λ x t m. let o = t m in (o.0, o.1, omega (arith, o.2)))
          h.accepted r.2,
    ),
  )

-- ---- a turn's end (the sum of the missed counts plays no part, so that any may stand in its place)
-- the history after what the turn has sent
abbrev midway : Cells → Bool → List Gone → Cells
midway h usable sent =
    record { slot = h.slot; marks = h.marks; accepted = h.accepted; usable = slot_of usable h.slot h.usable; sent = sent; missed = h.missed }

-- no open slot is to come after the turn
past_turn : (h : Cells) (usable : Bool) → slots_from h.usable h.slot ≡ 0 → slots_from (slot_of usable h.slot h.usable) (suc h.slot) ≡ 0
unfolding count
past_turn h usable z = go usable
  where
    fewer : slots_from h.usable (suc h.slot) ≤ slots_from h.usable h.slot
    fewer = count_le (λ t. leb (suc h.slot) t) (λ t. leb h.slot t) (λ t. one t (leb (suc h.slot) t) refl) h.usable
      where
        one : (t : ℕ) (x : Bool) → leb (suc h.slot) t ≡ x → bit x ≤ bit (leb h.slot t)
        one t true p = rw (le-leb h.slot t (omega (arith, leb-true (suc h.slot) t p))) (le_refl 1)
        one t false p = zero-le

    go : (usable : Bool) → slots_from (slot_of usable h.slot h.usable) (suc h.slot) ≡ 0
    go true =
        let y : bit (leb (suc h.slot) h.slot) ≡ 0 = rw (lt-leb (suc h.slot) h.slot (omega arith)) in
        omega (arith, fewer)
    go false = omega (arith, fewer)

-- the turn's own slot is not among the slots up to one before it
same_slots : (h : Cells) (usable : Bool) (s b : ℕ) → b < h.slot → slots_in (slot_of usable h.slot h.usable) s b ≤ slots_in h.usable s b
unfolding count
same_slots h true s b l =
    let z : bit (leb s h.slot && leb h.slot b) ≡ 0 = rw (lt-leb h.slot b l) (go (leb s h.slot)) in
    omega arith
  where
    go : (x : Bool) → bit (x && false) ≡ 0
    go true = refl
    go false = refl
same_slots h false s b l = le_refl (slots_in h.usable s b)

-- from there to the turn's end
module _ (h : Cells) (r : Reasons h) (windowed : Windowed h.accepted) (usable : Bool) (sent : List Gone)
    (fewer : (f n : ℕ) → was_sent sent f n ≡ false → was_sent h.sent f n ≡ false)
    (busy : (b : ℕ) → h.slot ≤ b → Busy (suc h.slot) (midway h usable sent) b) where
  later : Cells
  later = end_cells (midway h usable sent) (slot_of usable h.slot h.usable) h.missed

  -- fewer wait, so the lane was still busy
  busy_end : (b : ℕ) → suc h.slot ≤ b → Busy (suc h.slot) later b
  unfolding later
  busy_end b l =
      let m = busy b (omega arith) in (
        m.0,
        m.1,
        omega (arith, m.2, fewer_wait (midway h usable sent) later (omega arith) (λ f n e. e) (λ (a : Cell). leb a.last b && ltb a.arrival m.0) h.accepted),
        omega (arith, m.3, fewer_wait (midway h usable sent) later (omega arith) (λ f n e. e) (λ (a : Cell). leb a.last b) h.accepted),
      )

  -- up to now are all open slots there are
  all_open : (s : ℕ) → slots_in (slot_of usable h.slot h.usable) s h.slot ≤ slots_from (slot_of usable h.slot h.usable) s
  all_open s =
      count_le (λ (t : ℕ). leb s t && leb t h.slot) (λ (t : ℕ). leb s t) (λ t. and_le (leb s t) (leb t h.slot)) (slot_of usable h.slot h.usable)

  -- a cell that the end misses has its last slot now, so that the slots from s on were too few; the others were missed before
  reason : (a : Cell) → a.last ≡ (window_of a).last
      → ((leb a.last h.slot && ltb a.arrival (busy h.slot (le_refl h.slot)).0) && waits (midway h usable sent) a) ≡ false
      → (is_missed h a ≡ true → Overloaded (windows h) h.usable (window_of a))
      → bit (leb a.last h.slot && waits (midway h usable sent) a) ≤ pending (midway h usable sent) h.slot
      → is_missed later a ≡ true → Overloaded (windows h) (slot_of usable h.slot h.usable) (window_of a)
  unfolding later
  reason a last young told one =
      go (was_sent sent a.flow a.number) refl (ltb a.last (suc h.slot)) refl (ltb a.last h.slot) refl
    where
      full : Busy (suc h.slot) (midway h usable sent) h.slot
      full = busy h.slot (le_refl h.slot)

      since : (x : Bool) → ltb a.arrival full.0 ≡ x → (x && true) ≡ false → full.0 ≤ a.arrival
      since true p e = absurd (true≢false e)
      since false p e = ltb-false a.arrival full.0 p

      go : (s : Bool) → was_sent sent a.flow a.number ≡ s → (x : Bool) → ltb a.last (suc h.slot) ≡ x → (y : Bool) → ltb a.last h.slot ≡ y
          → (not s && x) ≡ true → Overloaded (windows h) (slot_of usable h.slot h.usable) (window_of a)
      go true p x q y t e = absurd (false≢true e)
      go false p true q true t e =
          let o = told (rw (fewer a.flow a.number p, t)) in
          (o.0, o.1, omega (arith, o.2, same_slots h usable o.0 (window_of a).last (omega (arith, ltb-true a.last h.slot t))))
      go false p true q false t e =
          let l : a.last ≡ h.slot = omega (arith, ltb-true a.last (suc h.slot) q, ltb-false a.last h.slot t) in
          let w : waits (midway h usable sent) a ≡ true = rw (p, le-leb h.slot a.last (omega arith)) in
          let o : bit (leb a.last h.slot && waits (midway h usable sent) a) ≡ 1 = rw (le-leb a.last h.slot (omega arith), w) in
          (full.0, since _ refl (rw (le-leb a.last h.slot (omega arith), w) at young), rw (← last, l) (omega (arith, full.3, all_open full.0)))
      go false p false q y t e = absurd (false≢true e)

  -- each missed cell of a list
  reasons : (cells : List Cell) → Windowed cells
      → Each (λ (a : Cell). ((leb a.last h.slot && ltb a.arrival (busy h.slot (le_refl h.slot)).0) && waits (midway h usable sent) a) ≡ false) cells
      → Each (λ (a : Cell). is_missed h a ≡ true → Overloaded (windows h) h.usable (window_of a)) cells
      → count (λ (a : Cell). leb a.last h.slot && waits (midway h usable sent) a) cells ≤ pending (midway h usable sent) h.slot
      → Each (λ (a : Cell). is_missed later a ≡ true → Overloaded (windows h) (slot_of usable h.slot h.usable) (window_of a)) cells
  unfolding count
  reasons [] w y t p = tt
  reasons (a ∷ cells) w y t p = (reason a w.0.0 y.0 t.0 (omega arith), reasons cells w.1 y.1 t.1 (omega arith))

  reasons_end : Reasons later
  unfolding later
  reasons_end = (
    past_turn h usable r.0,
    busy_end,
    reasons h.accepted windowed (none_passes _ h.accepted (busy h.slot (le_refl h.slot)).2) r.2 (le_refl (pending (midway h usable sent) h.slot)),
  )

-- ---- a turn that sends nothing
pub reasons_lost : (h : Cells) → Reasons h → Windowed h.accepted → Reasons (end_cells h h.usable h.missed)
unfolding later
reasons_lost h r windowed =
    reasons_end h r windowed false h.sent (λ f n e. e) (λ b l. let m = r.1 b l in (m.0, omega (arith, m.1), m.2, m.3))

-- where no cell waits to go by b, the count starts anew after an open turn
anew : (h : Cells) (sent : List Gone) → slots_from h.usable h.slot ≡ 0 → (b : ℕ) → pending (midway h true sent) b ≡ 0 → Busy (suc h.slot) (midway h true sent) b
anew h sent past b z = (
  suc h.slot,
  le_refl (suc h.slot),
  omega (
    arith,
    count_and_le (λ (a : Cell). leb a.last b && ltb a.arrival (suc h.slot)) (waits (midway h true sent)) (λ (a : Cell). leb a.last b) (waits (midway h true sent))
        (λ a. and_le (leb a.last b) (ltb a.arrival (suc h.slot))) (λ a. le_refl (bit (waits (midway h true sent) a))) h.accepted,
  ),
  omega (arith, past_turn h true past),
)

pub reasons_idle : (h : Cells) → Reasons h → Windowed h.accepted
    → ((ask : Question) → count (λ (a : Cell). ask a.flow a.number a.last && waits h a) h.accepted ≡ 0)
    → Reasons (end_cells h (h.slot ∷ h.usable) h.missed)
unfolding later
reasons_idle h r windowed none =
    reasons_end h r windowed true h.sent (λ f n e. e) (λ b l. anew h h.sent r.0 b (none (λ f n last. leb last b)))

-- ---- a turn that sends
module _ (h : Cells) (r : Reasons h) (windowed : Windowed h.accepted) (place : ℕ) (c : Place)
    (less : OneLess h place c)
    (first : count (λ (a : Cell). ltb a.last c.last.0 && waits h a) h.accepted ≡ 0) where
  -- the turn's slot goes to the cell that is sent, or nothing waits to go by b
  busy_sent : (b : ℕ) → h.slot ≤ b → Busy (suc h.slot) (midway h true (gone_from h place c ∷ h.sent)) b
  unfolding count
  busy_sent b l = go (leb c.last.0 b) refl
    where
      sooner : (a : Cell) → leb c.last.0 b ≡ false → (t : Bool) → leb a.last b ≡ t → bit t ≤ bit (ltb a.last c.last.0)
      sooner a p true q =
          rw (lt-ltb a.last c.last.0 (omega (arith, leb-true a.last b q, leb-false c.last.0 b p))) (le_refl 1)
      sooner a p false q = zero-le

      go : (t : Bool) → leb c.last.0 b ≡ t → Busy (suc h.slot) (midway h true (gone_from h place c ∷ h.sent)) b
      go true p =
          let m = r.1 b l in
          let o : bit (leb c.last.0 b) ≡ 1 = rw p in
          let y = fewer_wait h (sent_cells h place c) (le_refl h.slot) (sent_before (gone_from h place c) h.sent) (λ (a : Cell). leb a.last b && ltb a.arrival m.0) h.accepted in
          (m.0, omega (arith, m.1), omega (arith, m.2), omega (arith, m.3, less (λ f n last. leb last b), bit_le_one (leb m.0 h.slot)))
      go false p =
          anew h (gone_from h place c ∷ h.sent) r.0 b
          (omega (
            arith,
            first,
            less (λ f n last. leb last b),
            count_and_le (λ (a : Cell). leb a.last b) (waits h) (λ (a : Cell). ltb a.last c.last.0) (waits h)
                (λ a. sooner a p (leb a.last b) refl) (λ a. le_refl (bit (waits h a))) h.accepted,
          ))

  pub reasons_sent : Reasons (end_cells (sent_cells h place c) (h.slot ∷ h.usable) h.missed)
  unfolding later
  reasons_sent = reasons_end h r windowed true (gone_from h place c ∷ h.sent) (sent_before (gone_from h place c) h.sent) busy_sent
