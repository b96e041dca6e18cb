-- What every call keeps: the lane is what the calls and answers tell. Time, flows and numbers agree; the held places are the
-- waiting cells; and the cells sent are accepted cells. Here: an opening, a closing and an accepted offer keep it.
use mathlib.Core.Path.{◌≡◌, refl, sym, ap, ◌∙◌}
use mathlib.Core.Bool.{Bool, true, false, ◌&&◌, ◌||◌, true≢false}
use mathlib.Core.List.{List, [], ◌∷◌}
use Prim.Native.Nat.{ℕ, ◌+◌, ◌-◌, ◌*◌, ◌%◌, ◌^◌, ◌≤◌, ◌<◌}
use native.Mathlib.Omega.{arith}
use borrow.Author.Tests.{eq-eqb, ne_eqb, le-leb}
use lib.Dec.{leb, eqb}
use lib.ListN.{length, get_or, set, length-set}
use Rattle.units.specs.Limits.{place_count, slot_limit, outside_of}
use Rattle.units.proofs.Limits.{inside}
use Rattle.places.specs.Places.{bit, count, count_at, flow_of, first_free, places_of}
use Rattle.places.specs.Marks.{Mark, opens, closes, open_in}
use Rattle.places.proofs.Count.{count_le, count_le_length, and_le}
use Rattle.places.proofs.CountAt.{own_places}
use Rattle.places.proofs.Free.{part_length}
use Rattle.places.proofs.Tests.{and_holds}
use Rattle.places.proofs.Numbers.{none_above}
use Rattle.places.proofs.Waiting.{Tied}
use Rattle.places.proofs.Coming.{tied_come}
use Rattle.places.proofs.Marks.{AsMarked, marked_opened, marked_closed}
use Rattle.places.proofs.Stores.{set_cases, set_keeps}
use Rattle.urgent.specs.declared.Cell.{Cell as Place}
use Rattle.urgent.specs.declared.Flow.{Flow}
use Rattle.urgent.specs.declared.Urgent.{Urgent}
use Rattle.urgent.specs.Lane.{free_cell, is_held, shut_flow, flow_at, waiting_of}
use Rattle.urgent.specs.Calls.{with_flow, opened, closed, accepted, last_slot}
use Rattle.promises_urgent.specs.Cells.{Cell, its_flow, its_number, is_cell, Gone, Cells, deadline_in, was_sent, waits}
use Rattle.promises_urgent.specs.Notes.{marked, note_offer}
use Rattle.promises_urgent.specs.Promised.{Question, holds, accepted_of, waiting_in, CellsNumbered, Windowed}

pub record Kept (u : Urgent) (h : Cells) : Type 0 where
  pub sixteen : length u.flows ≡ 16
  pub long : length u.cells ≡ 256
  pub time : u.now.0 ≡ h.slot
  pub within : h.slot ≤ slot_limit
  pub open_flows : (f : ℕ) → f < 16 → (flow_at u f).opened ≡ open_in h.marks f
  pub deadlines : (f : ℕ) → f < 16 → (flow_at u f).deadline ≡ deadline_in h f
  pub next : (f : ℕ) → f < 16 → (flow_at u f).next ≡ accepted_of h f
  pub numbered : CellsNumbered h.accepted
  pub windowed : Windowed h.accepted
  pub tied : (ask : Question) → count_at (holds ask) 0 u.cells ≡ count (λ (a : Cell). ask a.flow a.number a.last && waits h a) h.accepted
  pub gone : (ask : ℕ → ℕ → Bool)
      → count (λ (a : Cell). ask a.flow a.number && was_sent h.sent a.flow a.number) h.accepted
      ≡ count (λ (g : Gone). ask g.flow g.number) h.sent

-- what can be asked of a cell: of one that holds a place, and of one that was accepted
abbrev pub Facts : Type 0
Facts = ℕ × ℕ × ℕ

abbrev pub place_facts : ℕ → Place → Facts
place_facts place c = (flow_of place_count place, c.number, c.last.0)

abbrev pub cell_facts : Cell → Facts
cell_facts a = (a.flow, a.number, a.last)

abbrev pub asking : Question → Facts → Bool
asking ask x = ask x.0 x.1 x.2

-- so the waiting cells are tied to the held places
pub cells_tied : (u : Urgent) (h : Cells) → Kept u h → Tied is_held place_facts cell_facts u.cells h.accepted (waits h)
cells_tied u h k ask = k.tied (λ f n l. ask (f, n, l))

-- a flow's cells that wait no more left in turns, at most sixteen in each
abbrev pub Few : Cells → Type 0
Few h = (f : ℕ) → f < 16 → accepted_of h f ≤ 16 * h.slot + waiting_in h f

-- the places that a flow holds are its waiting cells
pub waiting_told : (u : Urgent) (h : Cells) → Kept u h → (flow : ℕ) → flow < 16 → waiting_of u flow ≡ waiting_in h flow
waiting_told u h k flow l = sym (own_places is_held 16 flow u.cells (omega arith) (omega (arith, k.long))) ∙ k.tied (λ f n last. eqb f flow)

pub waiting_most : (u : Urgent) (h : Cells) → Kept u h → (flow : ℕ) → flow < 16 → waiting_in h flow ≤ 16
waiting_most u h k flow l =
    omega (
      arith,
      sym (waiting_told u h k flow l),
      count_le_length is_held (places_of 16 flow u.cells),
      part_length is_held free_cell u.cells (flow * 16) 16 (omega (arith, k.long)),
    )

-- ---- a flow is opened, or closed: its record is x then and has the new mark, and its numbers go on
module _ (u : Urgent) (h : Cells) (k : Kept u h) (flow : ℕ) (l : flow ≤ 15) where
  low : flow < length u.flows
  low = omega (arith, k.sixteen)

  abbrev FlowsAsMarked : List Flow → List Mark → Type 0
  FlowsAsMarked = AsMarked (λ (x : Flow). x.opened) (λ (x : Flow). x.deadline) shut_flow 16

  as_marked : FlowsAsMarked u.flows h.marks
  as_marked f b = (k.open_flows f b, k.deadlines f b)

  kept_marked : (x : Flow) (mark : Mark) → x.next ≡ (flow_at u flow).next → FlowsAsMarked (set u.flows flow x) (mark ∷ h.marks)
      → Kept (with_flow u flow x) (marked h mark)
  kept_marked x mark next t =
      record {
        sixteen = length-set u.flows flow x ∙ k.sixteen;
        long = k.long;
        time = k.time;
        within = k.within;
        open_flows = λ f b. (t f b).0;
        deadlines = λ f b. (t f b).1;
        next = λ f b. set_keeps u.flows flow x shut_flow low (λ (y : Flow). y.next) next f ∙ k.next f b;
        numbered = k.numbered;
        windowed = k.windowed;
        tied = k.tied;
        gone = k.gone;
      }

  pub kept_open : (deadline : ℕ) → Kept (opened u flow deadline).lane (marked h (opens flow deadline))
  kept_open deadline =
      kept_marked _ (opens flow deadline) refl
      (marked_opened (λ (x : Flow). x.opened) (λ (x : Flow). x.deadline) shut_flow 16 u.flows h.marks as_marked flow _ low refl)

  pub kept_close : Kept (closed u flow).lane (marked h (closes flow))
  kept_close =
      kept_marked _ (closes flow) refl
      (marked_closed (λ (x : Flow). x.opened) (λ (x : Flow). x.deadline) shut_flow 16 u.flows h.marks as_marked flow _ low refl (k.deadlines flow (omega arith)))

-- ---- a cell is accepted
-- as the history has it
abbrev pub offered_cell : Urgent → Cells → ℕ → ℕ → Cell
offered_cell u h flow deadline =
    record { flow = flow; number = (flow_at u flow).next; last = last_slot u deadline; arrival = h.slot; deadline = deadline; full = deadline_in h flow }

module _ (u : Urgent) (h : Cells) (k : Kept u h) (few : Few h) (flow deadline : ℕ) (l : flow ≤ 15) (o : (flow_at u flow).opened ≡ true)
    (d : outside_of deadline (flow_at u flow).deadline ≡ false) (room : waiting_of u flow < 16) where
  place : ℕ
  place = flow * place_count + first_free is_held (places_of place_count flow u.cells)

  number : ℕ
  number = (flow_at u flow).next

  last : ℕ
  last = last_slot u deadline

  is_open : open_in h.marks flow ≡ true
  is_open = sym (k.open_flows flow (omega arith)) ∙ o

  -- the cell has a slot at least, and no more than its flow allows
  within_flow : (1 ≤ deadline) × (deadline ≤ deadline_in h flow)
  within_flow = let b = inside deadline (flow_at u flow).deadline d in (b.0, omega (arith, b.1, k.deadlines flow (omega arith)))

  -- the number is new, so it was not sent
  unsent : (gs : List Gone) → count (λ (g : Gone). eqb g.flow flow && eqb g.number number) gs ≡ 0 → was_sent gs flow number ≡ false
  unfolding count was_sent
  unsent [] z = refl
  unsent (g ∷ gs) z = go (eqb g.flow flow && eqb g.number number) z (unsent gs)
    where
      go : (t : Bool) → bit t + count (λ (g : Gone). eqb g.flow flow && eqb g.number number) gs ≡ 0
          → (count (λ (g : Gone). eqb g.flow flow && eqb g.number number) gs ≡ 0 → was_sent gs flow number ≡ false)
          → (t || was_sent gs flow number) ≡ false
      go true y r = absurd (omega arith)
      go false y r = r (omega arith)

  new_unsent : was_sent h.sent flow number ≡ false
  unfolding number
  new_unsent =
      unsent h.sent
      (omega (
        arith,
        k.gone (λ f n. eqb f flow && eqb n number),
        count_le (λ (a : Cell). (eqb a.flow flow && eqb a.number number) && was_sent h.sent a.flow a.number) (is_cell flow number)
            (λ a. and_le (eqb a.flow flow && eqb a.number number) (was_sent h.sent a.flow a.number)) h.accepted,
        none_above its_flow its_number flow number h.accepted k.numbered (omega (arith, k.next flow (omega arith))),
      ))

  in_window : leb h.slot last ≡ true
  unfolding last
  in_window = le-leb h.slot last (omega (arith, k.time, within_flow.0))

  new_place : Place
  new_place = record { held = true; number = number; last = record { 0 = last } }

  new_cell : Cell
  new_cell = record { flow = flow; number = number; last = last; arrival = h.slot; deadline = deadline; full = deadline_in h flow }

  new_waits : waits h new_cell ≡ true
  unfolding new_cell
  new_waits = rw (new_unsent, in_window)

  and-false : (t s : Bool) → s ≡ false → bit (t && s) ≡ 0
  and-false true true e = absurd (true≢false e)
  and-false true false e = refl
  and-false false s e = refl

  fits : (number + 1) % 2 ^ 64 ≡ number + 1
  unfolding number
  fits = omega (arith, k.next flow (omega arith), few flow (omega arith), k.within, sym (waiting_told u h k flow (omega arith)))

  after_offer : Flow
  after_offer = record { opened = true; deadline = (flow_at u flow).deadline; next = (number + 1) % 2 ^ 64 }

  offer_flow : (f : ℕ) → f < 16
      → ((get_or (set u.flows flow after_offer) f shut_flow).opened ≡ open_in h.marks f)
      × ((get_or (set u.flows flow after_offer) f shut_flow).deadline ≡ deadline_in h f)
      × ((get_or (set u.flows flow after_offer) f shut_flow).next ≡ bit (eqb flow f) + accepted_of h f)
  unfolding after_offer number
  offer_flow f b =
      set_cases u.flows flow after_offer shut_flow (omega (arith, k.sixteen)) f
      (λ x. (x.opened ≡ open_in h.marks f) × (x.deadline ≡ deadline_in h f) × (x.next ≡ bit (eqb flow f) + accepted_of h f))
      (λ e. rw (eq-eqb flow f (sym e), e) (sym is_open, k.deadlines flow (omega arith), fits ∙ omega (arith, k.next flow (omega arith))))
      (λ n. rw (ne_eqb flow f (λ q. n (sym q))) (k.open_flows f b, k.deadlines f b, omega (arith, k.next f b)))

  pub kept_offer : Kept (accepted u flow deadline).lane (note_offer h flow deadline (accepted u flow deadline).answer)
  unfolding count number last place new_place new_cell after_offer
  kept_offer =
      record {
        sixteen = length-set u.flows flow after_offer ∙ k.sixteen;
        long = length-set u.cells place new_place ∙ k.long;
        time = k.time;
        within = k.within;
        open_flows = λ f b. (offer_flow f b).0;
        deadlines = λ f b. (offer_flow f b).1;
        next = λ f b. (offer_flow f b).2;
        numbered = (k.next flow (omega arith), k.numbered);
        windowed = ((omega (arith, k.time), within_flow.0, within_flow.1), k.windowed);
        tied = λ ask.
            tied_come is_held place_facts cell_facts free_cell u.cells h.accepted (waits h) (cells_tied u h k) place_count flow (omega (arith, k.long)) room
            new_place new_cell refl new_waits (λ place e. ap (λ (f : ℕ). (f, number, last)) e) (asking ask);
        gone = λ ask. omega (arith, k.gone ask, and-false (ask flow number) (was_sent h.sent flow number) new_unsent);
      }

  pub few_offer : Few (note_offer h flow deadline (accepted u flow deadline).answer)
  unfolding count number last new_cell
  few_offer f b = omega (arith, few f b, ap bit (and_holds (eqb flow f) (waits h new_cell) new_waits))

  -- the accepted cell waits, in the window that the rules give it
  pub offer_waits : waits h (offered_cell u h flow deadline) ≡ true
  unfolding new_cell number last
  offer_waits = new_waits

  pub offer_window : last_slot u deadline ≡ h.slot + deadline - 1
  offer_window = omega (arith, k.time)

  -- and its own deadline is no longer than its flow's
  pub offer_within : deadline ≤ deadline_in h flow
  offer_within = within_flow.1
