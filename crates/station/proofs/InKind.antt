-- Every call is answered in kind: case by case, from the lanes.
use mathlib.Core.Path.{refl}
use mathlib.Core.Logic.{inl, inr}
use mathlib.Core.Bool.{true, false}
use Rattle.places.specs.Choice.{Choice, nothing, at}
use Rattle.urgent.specs.declared.Cell.{Cell}
use Rattle.urgent.specs.declared.Urgent.{Urgent as UrgentLane}
use Rattle.urgent.specs.Calls.{turned, chosen}
use Rattle.urgent.proofs.Cases.{turn_cases}
use Rattle.urgent.proofs.Cases.{open_cases as urgent_open, close_cases as urgent-close, offer_cases as cell-cases}
use Rattle.fair.proofs.Cases.{begin_cases, end_cases}
use Rattle.fair.proofs.Cases.{open_cases as fair_open, close_cases as fair-close, offer_cases as packet-cases}
use Rattle.station.specs.declared.Call.TheVariants.{OpenUrgent, OpenFair, CloseUrgent, CloseFair, OfferCell, OfferPacket, OpenTurn, LostTurn, Begin, End}
use Rattle.station.specs.declared.Reply.TheVariants.{Urgent, Fair}
use Rattle.station.specs.Calls.{call_of}
use Rattle.station.specs.InKind.{InKind, AnsweredInKind}

open_turned : (u : UrgentLane) (x : Choice Cell) → InKind OpenTurn (Urgent (turned u x).answer)
open_turned u nothing = inr (inr (_, refl))
open_turned u (at place c) = inr (inl (_, _, _, refl))

pub answered_in_kind : AnsweredInKind
unfolding call_of
answered_in_kind s (OpenUrgent flow deadline) =
    urgent_open s.urgent (λ d. InKind (OpenUrgent flow deadline) (Urgent d.answer)) (λ r. inl (r, refl)) flow deadline (λ l o b. inr refl)
answered_in_kind s (OpenFair flow weight) =
    fair_open s.fair (λ d. InKind (OpenFair flow weight) (Fair d.answer)) (λ r. inl (r, refl)) flow weight (λ l o b. inr refl)
answered_in_kind s (CloseUrgent flow) =
    urgent-close s.urgent (λ d. InKind (CloseUrgent flow) (Urgent d.answer)) (λ r. inl (r, refl)) flow (λ l w. inr refl)
answered_in_kind s (CloseFair flow) =
    fair-close s.fair (λ d. InKind (CloseFair flow) (Fair d.answer)) (λ r. inl (r, refl)) flow (λ l w s. inr refl)
answered_in_kind s (OfferCell flow deadline) =
    cell-cases s.urgent (λ d. InKind (OfferCell flow deadline) (Urgent d.answer)) (λ r. inl (r, refl)) flow deadline
    (λ l o b w. inr (_, _, refl))
answered_in_kind s (OfferPacket flow length) =
    packet-cases s.fair (λ d. InKind (OfferPacket flow length) (Fair d.answer)) (λ r. inl (r, refl)) flow length
    (λ l o b w f n. inr (_, _, _, refl))
answered_in_kind s OpenTurn =
    turn_cases s.urgent (λ d. InKind OpenTurn (Urgent d.answer)) (λ r. inl (r, refl)) true (λ l. open_turned s.urgent (chosen s.urgent true))
answered_in_kind s LostTurn =
    turn_cases s.urgent (λ d. InKind LostTurn (Urgent d.answer)) (λ r. inl (r, refl)) false (λ l. inr (_, refl))
answered_in_kind s Begin =
    begin_cases s.fair (λ d. InKind Begin (Fair d.answer)) (λ r. inl (r, refl)) (λ b place p e. inr (_, _, _, _, refl))
answered_in_kind s End = end_cases s.fair (λ d. InKind End (Fair d.answer)) (λ r. inl (r, refl)) (λ b. inr (_, _, _, refl))
