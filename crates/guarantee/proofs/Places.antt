-- G1-places: a cell of a flow that waits arrived within the deadline before now, so that with one cell more as many arrive in those slots as wait, and
-- one. Where its declaration allows no more than sixteen there, fewer than sixteen wait.
use mathlib.Core.Path.{◌≡◌, sym, ap, ◌∙◌}
use mathlib.Core.Logic.{◌≢◌}
use mathlib.Core.Bool.{Bool, true, ◌&&◌}
use mathlib.Core.List.{List, ◌∷◌, map}
use Rattle.std.proofs.Common.{Some}
use Prim.Native.Nat.{ℕ, suc, ◌+◌, ◌-◌, ◌≤◌, ◌<◌}
use native.Mathlib.Omega.{arith}
use borrow.Author.Tests.{eqb-true, eq-eqb, le-leb, lt-leb, lt-ltb}
use lib.Dec.{eqb}
use Rattle.units.specs.Refusals.{number_of}
use Rattle.units.specs.declared.Refusal.{Refusal}
use Rattle.units.specs.declared.Refusal.TheVariants.{NoSuchFlow, NotOpen, PlacesFull, SlotsUsedUp, BadDeadline}
use Rattle.units.proofs.Refusals.{Unheld, not_given}
use Rattle.places.specs.Places.{count}
use Rattle.places.specs.Members.{Each}
use Rattle.places.proofs.Count.{count_map}
use Rattle.places.proofs.Members.{each_map, each_both, each_counts}
use Rattle.places.proofs.Tests.{and_told, eqb_self}
use Rattle.link.specs.declared.Declaration.{Declaration}
use Rattle.link.specs.Published.{Within}
use Rattle.station.specs.declared.Call.{Call}
use Rattle.station.specs.declared.Call.TheVariants.{OfferCell}
use Rattle.station.specs.Answers.{refusal_in}
use Rattle.promises_urgent.specs.Cells.{Cell, Cells, waits, window_of}
use Rattle.promises_urgent.specs.Promised.{waiting_in}
use Rattle.promises_urgent.proofs.Steps.{waits_told}
use Rattle.promises.specs.Promises.{grounds_noted}
use Rattle.promises.specs.Run.{run, reply_to}
use Rattle.promises.proofs.Promises.{promises}
use Rattle.guarantee.specs.Arrivals.{Arrival, arrives_in, KeepsDeclaration}
use Rattle.guarantee.specs.Conditions.{arrival_of, arrivals, OpenedWith, with_one, HaveRoom}
use Rattle.guarantee.proofs.Calls.{arrived, OfOpening, openings, of_opening}

-- what is known of an accepted cell, if its flow is one with deadline D: its own is no longer
abbrev Known : Cells → ℕ → ℕ → Cell → Type 0
Known h flow D a = (a.arrival ≤ h.slot) × (a.flow ≡ flow → a.full ≡ D) × (a.last ≡ (window_of a).last) × (a.deadline ≤ a.full)

module _ (h : Cells) (flow D : ℕ) (long : 1 ≤ D) where
  -- a cell arrives in the D slots up to now
  abbrev recent : Arrival → Bool
  recent a = arrives_in flow (h.slot + 1 - D) D a

  waits_recent : (a : Cell) → Known h flow D a → (eqb a.flow flow && waits h a) ≡ true → recent (arrival_of a) ≡ true
  waits_recent a w e =
      let own = and_told (eqb a.flow flow) (waits h a) e in
      let f : a.flow ≡ flow = eqb-true a.flow flow own.0 in
      rw (eq-eqb a.flow flow f, le-leb (h.slot + 1 - D) a.arrival (omega (arith, (waits_told h a own.1).1, w.1 f, w.2, w.3)))
      (lt-ltb a.arrival (h.slot + 1 - D + D) (omega (arith, w.0)))

  few_wait : Each (Known h flow D) h.accepted → waiting_in h flow ≤ count recent (map arrival_of h.accepted)
  few_wait known =
      rw (count_map arrival_of recent h.accepted)
      (each_counts (λ (a : Cell). eqb a.flow flow && waits h a) (λ (a : Cell). recent (arrival_of a)) h.accepted
      (each_map (Known h flow D) _ waits_recent h.accepted known))

  -- so does a cell that is offered now
  one_more_lem : (cells : List Arrival) → count recent (record { flow = flow; slot = h.slot } ∷ cells) ≡ suc (count recent cells)
  unfolding count
  one_more_lem cells =
      rw (eqb_self flow, le-leb (h.slot + 1 - D) h.slot (omega arith), lt-ltb h.slot (h.slot + 1 - D + D) (omega arith)) (omega arith)

module _ (d : Declaration) (flow : ℕ) (calls : List Call) (opened : Each (OpenedWith flow d.deadline) (run calls).cells.marks) where
  all_known : Each (Known (run calls).cells flow d.deadline) (run calls).cells.accepted
  all_known =
      each_map _ (Known (run calls).cells flow d.deadline) (λ a w. (w.0, of_opening (OpenedWith flow d.deadline) (run calls).cells.marks opened a w.1.0, w.1.1.0, w.1.1.2)) (run calls).cells.accepted
      (each_both (λ (a : Cell). a.arrival ≤ (run calls).cells.slot) _ (run calls).cells.accepted (arrived calls)
      (each_both (OfOpening (run calls).cells.marks) (λ (a : Cell). (a.last ≡ (window_of a).last) × (1 ≤ a.deadline) × (a.deadline ≤ a.full)) (run calls).cells.accepted (openings calls)
      (promises.U3-windows calls)))

  fewer_wait : 1 ≤ d.deadline → KeepsDeclaration d flow (with_one calls flow) → HaveRoom d → waiting_in (run calls).cells flow < 16
  fewer_wait long keeps room =
      omega (
        arith,
        few_wait (run calls).cells flow d.deadline long all_known,
        one_more_lem (run calls).cells flow d.deadline long (arrivals calls),
        keeps ((run calls).cells.slot + 1 - d.deadline) d.deadline long,
        room,
      )

-- a refusal of another number is not 5
other : (r : Refusal) → (number_of r ≡ 5 → ⊥) → r ≡ PlacesFull → ⊥
other r n q = n (ap number_of q)

pub G1-places : (d : Declaration) (flow deadline : ℕ) (calls : List Call) → Within d → Each (OpenedWith flow d.deadline) (run calls).cells.marks
    → KeepsDeclaration d flow (with_one calls flow) → HaveRoom d
    → refusal_in (reply_to calls (OfferCell flow deadline)) ≢ Some PlacesFull
G1-places d flow deadline calls good opened keeps room e =
    let free = lt-leb 16 (waiting_in (run calls).cells flow) (fewer_wait d flow calls opened good.2.0 keeps room) in
    let unheld : Unheld PlacesFull (grounds_noted (run calls) (OfferCell flow deadline)) = (
      (λ q. absurd (other NoSuchFlow (omega arith) q)),
      (
        (λ q. absurd (other NotOpen (omega arith) q)),
        ((λ q. absurd (other BadDeadline (omega arith) q)), ((λ q. free), ((λ q. absurd (other SlotsUsedUp (omega arith) q)), tt))),
      ),
    )
    in
    not_given PlacesFull (grounds_noted (run calls) (OfferCell flow deadline)) unheld (sym (promises.S4 calls (OfferCell flow deadline)) ∙ e)
