-- What kind of reply each call gets: its own lane's, and what such a call is answered, or a refusal.
use Rattle.std.specs.Prelude.{◌≡◌, ◌⊎◌, ℕ}
use Rattle.units.specs.declared.Refusal.{Refusal}
use Rattle.units.specs.declared.Slot.{Slot}
use Rattle.units.specs.declared.Tag.{Tag}
use Rattle.urgent.specs.declared.Answer.TheVariants.{Refused, Opened, Closed, Accepted, Sent, Idle}
use Rattle.packets.specs.declared.Answer.TheVariants.{Refused as FairRefused, Opened as FairOpened, Closed as FairClosed, Accepted as FairAccepted, Begun, Ended}
use Rattle.station.specs.declared.Station.{Station}
use Rattle.station.specs.declared.Reply.{Reply}
use Rattle.station.specs.declared.Reply.TheVariants.{Urgent, Fair}
use Rattle.station.specs.declared.Call.{Call}
use Rattle.station.specs.declared.Call.TheVariants.{OpenUrgent, OpenFair, CloseUrgent, CloseFair, OfferCell, OfferPacket, OpenTurn, LostTurn, Begin, End}
use Rattle.station.specs.Calls.{call_of}

-- a refusal of either lane
abbrev pub UrgentNo : Reply → Type 0
UrgentNo reply = (r : Refusal) × (reply ≡ Urgent (Refused r))

abbrev pub FairNo : Reply → Type 0
FairNo reply = (r : Refusal) × (reply ≡ Fair (FairRefused r))

-- an idle turn
abbrev pub IsIdle : Reply → Type 0
IsIdle reply = (missed : ℕ) × (reply ≡ Urgent (Idle missed))

abbrev pub InKind : Call → Reply → Type 0
InKind (OpenUrgent flow deadline) reply = UrgentNo reply ⊎ (reply ≡ Urgent Opened)
InKind (OpenFair flow weight) reply = FairNo reply ⊎ (reply ≡ Fair FairOpened)
InKind (CloseUrgent flow) reply = UrgentNo reply ⊎ (reply ≡ Urgent Closed)
InKind (CloseFair flow) reply = FairNo reply ⊎ (reply ≡ Fair FairClosed)
InKind (OfferCell flow deadline) reply = UrgentNo reply ⊎ ((number : ℕ) × (last : Slot) × (reply ≡ Urgent (Accepted number last)))
InKind (OfferPacket flow length) reply =
    FairNo reply ⊎ ((number : ℕ) × (start : Tag) × (finish : Tag) × (reply ≡ Fair (FairAccepted number start finish)))
InKind OpenTurn reply = UrgentNo reply ⊎ ((flow number missed : ℕ) × (reply ≡ Urgent (Sent flow number missed))) ⊎ IsIdle reply
InKind LostTurn reply = UrgentNo reply ⊎ IsIdle reply
InKind Begin reply = FairNo reply ⊎ ((flow number length : ℕ) × (start : Tag) × (reply ≡ Fair (Begun flow number length start)))
InKind End reply = FairNo reply ⊎ ((flow number length : ℕ) × (reply ≡ Fair (Ended flow number length)))

-- Every call is answered in kind, in every state.
abbrev pub AnsweredInKind : Type 0
AnsweredInKind = (s : Station) (call : Call) → InKind call (call_of s call).reply
