-- What every list of calls keeps, call by call: a call adds nothing, a mark, an accepted cell or a turn to what is noted. So where no turn was lost
-- every slot was open; the missed counts never fall; each accepted cell came to a flow with the deadline of one of its openings, and has not arrived after now.
use mathlib.Core.Path.{◌≡◌, refl, sym, ap, ◌∙◌}
use mathlib.Core.Logic.{inr, ◌≢◌}
use mathlib.Core.Bool.{Bool, true, false, true≢false}
use mathlib.Core.List.{List, [], ◌∷◌, ◌++◌, append_assoc, append-nil}
use Rattle.std.proofs.Common.{None}
use Prim.Native.Nat.{ℕ, suc, ◌+◌, ◌≤◌}
use native.Mathlib.Nat.{le_refl, le_trans}
use native.Mathlib.Omega.{arith}
use borrow.Author.Tests.{not-false}
use Rattle.units.proofs.Refusals.{none_holds}
use Rattle.places.specs.Members.{Each, Any}
use Rattle.places.specs.Marks.{Mark, opens, closes, open_in}
use Rattle.places.proofs.Members.{each_map, each_first, each_last, some_gives, some_both}
use Rattle.places.proofs.Marks.{force_told}
use Rattle.urgent.specs.declared.Answer.{Answer}
use Rattle.urgent.specs.declared.Answer.TheVariants.{Refused, Opened, Closed, Accepted, Sent, Idle}
use Rattle.station.specs.declared.Reply.{Reply}
use Rattle.station.specs.declared.Reply.TheVariants.{Urgent, Fair}
use Rattle.station.specs.declared.Call.{Call}
use Rattle.station.specs.declared.Call.TheVariants.{OpenUrgent, OpenFair, CloseUrgent, CloseFair, OfferCell, OfferPacket, OpenTurn, LostTurn, Begin, End}
use Rattle.station.specs.Answers.{refusal_in}
use Rattle.promises_urgent.specs.Cells.{Cell, Gone, Cells, deadline_in}
use Rattle.promises_urgent.specs.Notes.{marked, note_opening, note_closing, note_offer, slot_of, note_turn}
use Rattle.promises_urgent.proofs.Steps.{with_cell}
use Rattle.promises.specs.Run.{note_cells, run, run_from, reply_to}
use Rattle.promises.specs.Promises.{grounds_noted}
use Rattle.promises.proofs.Promises.{promises}
use Rattle.guarantee.specs.Conditions.{NoneLost}
use Rattle.guarantee.proofs.Kept.{before}

-- ---- what a call can add to what is noted of the cells
-- an accepted cell arrives in the slot that is next, while its flow's deadline is the one in force
abbrev InForce : Cells → Cell → Type 0
InForce h a = (a.arrival ≡ h.slot) × (a.full ≡ deadline_in h a.flow)

-- the history after a turn
abbrev turned_to : Cells → Bool → List Gone → ℕ → Cells
turned_to h usable sent missed =
    record {
      slot = suc h.slot;
      marks = h.marks;
      accepted = h.accepted;
      usable = slot_of usable h.slot h.usable;
      sent = sent;
      missed = h.missed + missed;
    }

data Step (h : Cells) (call : Call) (reply : Reply) : Cells → Type 0 where
  nothing : Step h call reply h
  mark : (m : Mark) → Step h call reply (marked h m)
  cell : (a : Cell) → call ≡ OfferCell a.flow a.deadline → refusal_in reply ≡ None → InForce h a → Step h call reply (with_cell h a)
  turn : (usable : Bool) (sent : List Gone) (missed : ℕ) → (usable ≡ false → call ≡ LostTurn) → Step h call reply (turned_to h usable sent missed)

module _ (h : Cells) where
  opening : (flow deadline : ℕ) (answer : Answer) → Step h (OpenUrgent flow deadline) (Urgent answer) (note_opening h flow deadline answer)
  opening flow deadline Opened = mark (opens flow deadline)
  opening flow deadline Closed = nothing
  opening flow deadline (Refused r) = nothing
  opening flow deadline (Accepted number last) = nothing
  opening flow deadline (Sent f n m) = nothing
  opening flow deadline (Idle m) = nothing

  closing : (flow : ℕ) (answer : Answer) → Step h (CloseUrgent flow) (Urgent answer) (note_closing h flow answer)
  closing flow Closed = mark (closes flow)
  closing flow Opened = nothing
  closing flow (Refused r) = nothing
  closing flow (Accepted number last) = nothing
  closing flow (Sent f n m) = nothing
  closing flow (Idle m) = nothing

  offering : (flow deadline : ℕ) (answer : Answer) → Step h (OfferCell flow deadline) (Urgent answer) (note_offer h flow deadline answer)
  offering flow deadline (Accepted number last) = cell _ refl refl (refl, refl)
  offering flow deadline (Refused r) = nothing
  offering flow deadline Opened = nothing
  offering flow deadline Closed = nothing
  offering flow deadline (Sent f n m) = nothing
  offering flow deadline (Idle m) = nothing

  turning : (call : Call) (usable : Bool) → (usable ≡ false → call ≡ LostTurn) → (answer : Answer) → Step h call (Urgent answer) (note_turn h usable answer)
  turning call usable lost (Sent f n m) = turn usable _ m lost
  turning call usable lost (Idle m) = turn usable _ m lost
  turning call usable lost (Refused r) = nothing
  turning call usable lost Opened = nothing
  turning call usable lost Closed = nothing
  turning call usable lost (Accepted number last) = nothing

  step : (call : Call) (reply : Reply) → Step h call reply (note_cells h call reply)
  step call (Fair answer) = nothing
  step (OpenUrgent flow deadline) (Urgent answer) = opening flow deadline answer
  step (CloseUrgent flow) (Urgent answer) = closing flow answer
  step (OfferCell flow deadline) (Urgent answer) = offering flow deadline answer
  step OpenTurn (Urgent answer) = turning OpenTurn true (λ e. absurd (true≢false e)) answer
  step LostTurn (Urgent answer) = turning LostTurn false (λ e. refl) answer
  step (OpenFair flow weight) (Urgent answer) = nothing
  step (CloseFair flow) (Urgent answer) = nothing
  step (OfferPacket flow length) (Urgent answer) = nothing
  step Begin (Urgent answer) = nothing
  step End (Urgent answer) = nothing

-- what holds of no calls and goes on with one call more holds of all calls
by_calls : (P : List Call → Type 0) → P [] → ((xs : List Call) (call : Call) → P xs → P (xs ++ call ∷ [])) → (calls : List Call) → P calls
by_calls P start more calls = from [] calls start
  where
    from : (xs ys : List Call) → P xs → P (xs ++ ys)
    from xs [] p = rw (append-nil xs) p
    from xs (call ∷ ys) p = rw (append_assoc xs (call ∷ []) ys) at (from (xs ++ call ∷ []) ys (more xs call p))

-- the history with one call more
one_more_lem : (xs : List Call) (call : Call) → Step (run xs).cells call (reply_to xs call) (run (xs ++ call ∷ [])).cells
unfolding run_from
one_more_lem xs call = rw (promises.run_on xs (call ∷ [])) (step (run xs).cells call (reply_to xs call))

-- ---- no turn lost: every slot was open
abbrev pub EverySlot : Cells → Type 0
EverySlot h = h.usable ≡ before h.slot

every_step : {h later : Cells} {call : Call} {reply : Reply} → Step h call reply later → call ≢ LostTurn → EverySlot h → EverySlot later
unfolding before
every_step nothing n e = e
every_step (mark m) n e = e
every_step (cell a o r d) n e = e
every_step {h = h} (turn true sent missed lost) n e = ap (λ (xs : List ℕ). h.slot ∷ xs) e
every_step (turn false sent missed lost) n e = absurd (n (lost refl))

pub every_slot : (calls : List Call) → NoneLost calls → EverySlot (run calls).cells
unfolding run_from before
every_slot =
    by_calls (λ xs. NoneLost xs → EverySlot (run xs).cells) (λ n. refl)
    (λ xs call earlier n. every_step (one_more_lem xs call) (each_last (λ (c : Call). c ≢ LostTurn) xs call n) (earlier (each_first (λ (c : Call). c ≢ LostTurn) xs (call ∷ []) n)))

-- ---- the missed counts never fall
fewer : {h later : Cells} {call : Call} {reply : Reply} → Step h call reply later → h.missed ≤ later.missed
fewer {h = h} nothing = le_refl h.missed
fewer {h = h} (mark m) = le_refl h.missed
fewer {h = h} (cell a o r d) = le_refl h.missed
fewer (turn usable sent missed lost) = omega arith

pub missed_more : (xs ys : List Call) → (run xs).cells.missed ≤ (run (xs ++ ys)).cells.missed
missed_more xs =
    by_calls (λ ys. (run xs).cells.missed ≤ (run (xs ++ ys)).cells.missed) (rw (append-nil xs) (le_refl (run xs).cells.missed))
    (λ ys call earlier. rw (append_assoc xs ys (call ∷ [])) at (le_trans earlier (fewer (one_more_lem (xs ++ ys) call))))

-- ---- the deadline of an accepted cell's flow is that of an opening of it
abbrev pub OfOpening : List Mark → Cell → Type 0
OfOpening marks a = Any (λ (m : Mark). m ≡ opens a.flow a.full) marks

-- a cell is offered with success to an open flow only
open_then : (xs : List Call) (flow deadline : ℕ) → refusal_in (reply_to xs (OfferCell flow deadline)) ≡ None → open_in (run xs).cells.marks flow ≡ true
open_then xs flow deadline r =
    not-false (open_in (run xs).cells.marks flow)
    (none_holds (grounds_noted (run xs) (OfferCell flow deadline)) (sym (promises.S4 xs (OfferCell flow deadline)) ∙ r)).1.0

opening_step : (xs : List Call) (call : Call) {later : Cells} → Step (run xs).cells call (reply_to xs call) later
    → Each (OfOpening (run xs).cells.marks) (run xs).cells.accepted → Each (OfOpening later.marks) later.accepted
opening_step xs call nothing e = e
opening_step xs call (mark m) e = each_map (OfOpening (run xs).cells.marks) (OfOpening (m ∷ (run xs).cells.marks)) (λ a s. inr s) (run xs).cells.accepted e
opening_step xs call (cell a o r d) e = (rw (sym d.1) at (force_told (run xs).cells.marks a.flow (open_then xs a.flow a.deadline (rw o at r))), e)
opening_step xs call (turn usable sent missed lost) e = e

pub openings : (calls : List Call) → Each (OfOpening (run calls).cells.marks) (run calls).cells.accepted
unfolding run_from
openings = by_calls (λ xs. Each (OfOpening (run xs).cells.marks) (run xs).cells.accepted) tt (λ xs call earlier. opening_step xs call (one_more_lem xs call) earlier)

-- so what holds of every opening and closing holds of an opening with the cell's flow and its flow's deadline
pub of_opening : (Q : Mark → Type 0) (marks : List Mark) → Each Q marks → (a : Cell) → OfOpening marks a → Q (opens a.flow a.full)
of_opening Q marks each a o =
    some_gives (λ (m : Mark). (m ≡ opens a.flow a.full) × Q m) (Q (opens a.flow a.full)) (λ m w. rw w.0 at w.1) marks
    (some_both (λ (m : Mark). m ≡ opens a.flow a.full) Q marks o each)

-- ---- no cell arrives after the slot that is next
abbrev pub Arrived : Cells → Type 0
Arrived h = Each (λ (a : Cell). a.arrival ≤ h.slot) h.accepted

arrived_step : {h later : Cells} {call : Call} {reply : Reply} → Step h call reply later → Arrived h → Arrived later
arrived_step nothing e = e
arrived_step (mark m) e = e
arrived_step (cell a o r d) e = (omega (arith, d.0), e)
arrived_step {h = h} (turn usable sent missed lost) e = each_map (λ (a : Cell). a.arrival ≤ h.slot) (λ (a : Cell). a.arrival ≤ suc h.slot) (λ a l. omega arith) h.accepted e

pub arrived : (calls : List Call) → Arrived (run calls).cells
unfolding run_from
arrived = by_calls (λ xs. Arrived (run xs).cells) tt (λ xs call earlier. arrived_step (one_more_lem xs call) earlier)
