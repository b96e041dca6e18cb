-- What the kept invariant says of the account: U1 and S4, and what an open turn's choice is among the waiting cells (U2).
use mathlib.Core.Path.{◌≡◌, refl, sym, ap, ◌∙◌}
use mathlib.Core.Bool.{Bool, true, false, not, cond, ◌&&◌}
use mathlib.Core.List.{[], ◌∷◌}
use Rattle.std.proofs.Common.{None, Some}
use Prim.Native.Nat.{ℕ, ◌+◌, ◌<◌}
use native.Mathlib.Omega.{arith}
use borrow.Author.Tests.{eqb-true, leb-true, leb-false, lt-ltb, le-ltb}
use lib.Dec.{leb, ltb, eqb}
use lib.ListN.{set}
use Rattle.units.specs.Limits.{place_count, slot_limit}
use Rattle.units.specs.Refusals.{first_of, unless}
use Rattle.units.proofs.Refusals.{after_flow, none_is_none}
use Rattle.units.specs.declared.Refusal.TheVariants.{SlotsUsedUp}
use Rattle.places.specs.Places.{bit, count, flow_of}
use Rattle.places.specs.Choice.{Key, Choice, nothing, at, least_held}
use Rattle.places.proofs.Count.{count_add, bit_split}
use Rattle.places.proofs.Least.{leads}
use Rattle.places.proofs.Leading.{none_waits, it_is_first}
use Rattle.places.proofs.Tests.{and_told, eqb_self}
use Rattle.urgent.specs.declared.Cell.{Cell as Place}
use Rattle.urgent.specs.declared.Urgent.{Urgent}
use Rattle.urgent.specs.declared.Answer.TheVariants.{Sent}
use Rattle.urgent.specs.Lane.{free_cell, is_held, key_of, last_is, waiting_of}
use Rattle.urgent.specs.Answers.{told, refusal_in}
use Rattle.urgent.proofs.Cases.{offer_cases}
use Rattle.urgent.specs.Calls.{refused, offer_of, chosen, turned, turn_of}
use Rattle.urgent.proofs.Laws.{refused_first}
use Rattle.promises_urgent.specs.Cells.{Cell, Cells, was_sent, waits, is_missed}
use Rattle.promises_urgent.specs.Promised.{Question, accepted_of, last_in, sent_of, missed_of, Earliest, FewNumbers}
use Rattle.promises_urgent.specs.Refused.{RefusedAsNoted}
use Rattle.places.proofs.Members.{none_passes, some_map}
use Rattle.promises_urgent.proofs.Kept.{Kept, Facts, place_facts, cell_facts, asking, cells_tied, Few, waiting_told, waiting_most}

-- ---- U1
module _ (u : Urgent) (h : Cells) (k : Kept u h) where
  late : (l : ℕ) → ltb l h.slot ≡ not (leb h.slot l)
  late l = go (leb h.slot l) refl
    where
      go : (t : Bool) → leb h.slot l ≡ t → ltb l h.slot ≡ not t
      go true p = le-ltb l h.slot (leb-true h.slot l p)
      go false p = lt-ltb l h.slot (leb-false h.slot l p)

  rest : (x s l : Bool) → bit (x && not s) ≡ bit (x && (not s && not l)) + bit (x && (not s && l))
  rest false s l = refl
  rest true true l = refl
  rest true false true = refl
  rest true false false = refl

  pub conserved : (flow : ℕ) → flow < 16 → accepted_of h flow ≡ sent_of h flow + missed_of h flow + waiting_of u flow
  conserved flow b =
      let f : Cell → Bool = λ a. eqb a.flow flow in
      let s : Cell → Bool = λ a. was_sent h.sent a.flow a.number in
      omega (
        arith,
        count_add f (λ a. f a && s a) (λ a. f a && not (s a)) (λ a. bit_split (f a) (s a)) h.accepted,
        count_add (λ a. f a && not (s a)) (λ a. f a && is_missed h a) (λ a. f a && waits h a) (λ a. rw (late a.last) (rest (f a) (s a) (leb h.slot a.last))) h.accepted,
        k.gone (λ f n. eqb f flow),
        waiting_told u h k flow b,
      )

  pub few_numbers : Few h → FewNumbers u
  few_numbers few flow b = omega (arith, few flow b, k.next flow b, k.within, waiting_most u h k flow b)

-- ---- S4
pub refused_as_noted : (u : Urgent) (h : Cells) → Kept u h → RefusedAsNoted u h
refused_as_noted u h k =
    record {
      opening = λ flow deadline. (refused_first u).opening flow deadline ∙ after_flow flow _ _ (λ l. rw (k.open_flows flow (omega arith)));
      closing = λ flow.
          (refused_first u).closing flow
          ∙ after_flow flow _ _ (λ l. rw (k.open_flows flow (omega arith), waiting_told u h k flow (omega arith)));
      offering = λ flow deadline.
          (refused_first u).offering flow deadline
          ∙ after_flow flow _ _ (λ l. rw (k.open_flows flow (omega arith), waiting_told u h k flow (omega arith), k.time, k.deadlines flow (omega arith)));
      turning = λ usable. (refused_first u).turning usable ∙ rw k.time;
    }

-- ---- U3: what an accepted offer is told
pub offer_told : (u : Urgent) (h : Cells) → Kept u h → (flow deadline : ℕ) → refusal_in (offer_of u flow deadline).answer ≡ None
    → (told (offer_of u flow deadline).answer).values ≡ accepted_of h flow ∷ last_in h deadline ∷ []
offer_told u h k flow deadline =
    offer_cases u (λ d. refusal_in d.answer ≡ None → (told d.answer).values ≡ accepted_of h flow ∷ last_in h deadline ∷ [])
    (λ r e. absurd (none_is_none r (sym e))) flow deadline
    (λ l o d w e. rw (k.next flow (omega arith), k.time))

-- ---- U2: what an open turn finds among the waiting cells
abbrev pub facts_key : Facts → Key
facts_key x = record { rank = x.2; flow = x.0; number = x.1 }

-- two cells are alike in flow, number and last slot
abbrev alike : Facts → Facts → Bool
alike x y = eqb x.0 y.0 && (eqb x.1 y.1 && eqb x.2 y.2)

alike_self : (x : Facts) → alike x x ≡ true
alike_self x = rw (eqb_self x.0, eqb_self x.1, eqb_self x.2)

alike_told : (x y : Facts) → alike x y ≡ true → x ≡ y
alike_told x y e =
    let f = and_told (eqb x.0 y.0) _ e in
    let n = and_told (eqb x.1 y.1) _ f.1 in
    λ i. (eqb-true x.0 y.0 f.0 i, eqb-true x.1 y.1 n.0 i, eqb-true x.2 y.2 n.1 i)

module _ (u : Urgent) (h : Cells) (k : Kept u h) where
  -- where no place is held, no cell waits
  pub none_wait : chosen u true ≡ nothing → (ask : Question) → count (λ (a : Cell). ask a.flow a.number a.last && waits h a) h.accepted ≡ 0
  none_wait e ask =
      none_waits is_held place_facts cell_facts facts_key free_cell u.cells h.accepted (waits h) (cells_tied u h k)
      (rw e at (leads is_held key_of free_cell refl u.cells)) (asking ask)

  -- the cell that is sent is one that waits, and goes first
  sent_first : (place : ℕ) (c : Place) → chosen u true ≡ at place c → (missed : ℕ) → Earliest h (Sent (flow_of place_count place) c.number missed)
  sent_first place c e missed =
      some_map _ _ (λ a t. (t.0, ap (λ (x : Facts). x.0) t.1, ap (λ (x : Facts). x.1) t.1, t.2)) h.accepted
      (it_is_first is_held place_facts cell_facts facts_key free_cell u.cells h.accepted (waits h) (cells_tied u h k) place c
      (rw e at (leads is_held key_of free_cell refl u.cells)) alike alike_self alike_told)

pub sends_earliest : (u : Urgent) (h : Cells) → Kept u h → Earliest h (turn_of u true).answer
unfolding turn_of first_of
sends_earliest u h k = go (leb slot_limit u.now.0) refl (least_held is_held key_of u.cells) refl
  where
    go : (t : Bool) → leb slot_limit u.now.0 ≡ t → (x : Choice Place) → chosen u true ≡ x
        → Earliest h (unless (refused u) (cond t (Some SlotsUsedUp) None) (turned u x)).answer
    go true p x e = omega (arith, k.time, leb-true slot_limit u.now.0 p)
    go false p nothing e = none_passes (waits h) h.accepted (none_wait u h k e (λ f n l. true))
    go false p (at place c) e = sent_first u h k place c e (count (last_is u.now) (set u.cells place free_cell))
