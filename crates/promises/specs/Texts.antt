-- How a session's lines are spelled: every command and every reply beside the rules' own letters and words.
use Rattle.std.specs.Prelude.{◌≡◌, List, [], ◌∷◌, ◌++◌, ℕ}
use Rattle.text.specs.Spelled.{bytes_of, field, spelled}
use Rattle.units.specs.Refusals.{number_of}
use Rattle.units.specs.declared.Refusal.{Refusal}
use Rattle.units.specs.declared.Slot.{Slot}
use Rattle.units.specs.declared.Tag.{Tag}
use Rattle.urgent.specs.declared.Answer.TheVariants.{Refused, Opened, Closed, Accepted, Sent, Idle}
use Rattle.packets.specs.declared.Answer.TheVariants.{Refused as FairRefused, Opened as FairOpened, Closed as FairClosed, Accepted as FairAccepted, Begun, Ended}
use Rattle.station.specs.declared.Call.TheVariants.{OpenUrgent, OpenFair, CloseUrgent, CloseFair, OfferCell, OfferPacket, OpenTurn, LostTurn, Begin, End}
use Rattle.station.specs.declared.Reply.{Reply}
use Rattle.station.specs.declared.Reply.TheVariants.{Urgent, Fair}
use Rattle.station.specs.Answers.{told}
use Rattle.lines.specs.Grammar.{text_of}
use Rattle.replies.specs.Printing.{no_command_line, line_of}

-- Each call's text: its letter, and its numbers in their order.
pub record CommandsSpelled : Type 0 where
  pub open_urgent : (flow deadline : ℕ) → text_of (OpenUrgent flow deadline) ≡ bytes_of "U" ++ field flow ++ field deadline
  pub open_fair : (flow weight : ℕ) → text_of (OpenFair flow weight) ≡ bytes_of "F" ++ field flow ++ field weight
  pub close_urgent : (flow : ℕ) → text_of (CloseUrgent flow) ≡ bytes_of "C" ++ field flow
  pub close_fair : (flow : ℕ) → text_of (CloseFair flow) ≡ bytes_of "c" ++ field flow
  pub offer_cell : (flow deadline : ℕ) → text_of (OfferCell flow deadline) ≡ bytes_of "u" ++ field flow ++ field deadline
  pub offer_packet : (flow length : ℕ) → text_of (OfferPacket flow length) ≡ bytes_of "f" ++ field flow ++ field length
  pub open_turn : text_of OpenTurn ≡ bytes_of "t"
  pub lost_turn : text_of LostTurn ≡ bytes_of "x"
  pub begin : text_of Begin ≡ bytes_of "b"
  pub end : text_of End ≡ bytes_of "e"

-- a reply that is no refusal tells these values, and is written as this line
pub record Says (reply : Reply) (values : List ℕ) (pieces : List (List ℕ)) : Type 0 where
  pub tells : told reply ≡ record { number = 0; values = values }
  pub written : line_of reply ≡ spelled pieces

-- a refusal tells its number and no value, and is written as `no` and the number
pub record SaysNo (reply : Reply) (refusal : Refusal) : Type 0 where
  pub tells : told reply ≡ record { number = number_of refusal; values = [] }
  pub written : line_of reply ≡ spelled (bytes_of "no" ∷ field (number_of refusal) ∷ [])

-- Each reply's line: its word, and what it tells, in the rules' order.
pub record RepliesSpelled : Type 0 where
  -- a flow opened or closed
  pub opened : Says (Urgent Opened) [] (bytes_of "ok" ∷ [])
  pub closed : Says (Urgent Closed) [] (bytes_of "ok" ∷ [])
  pub fair_opened : Says (Fair FairOpened) [] (bytes_of "ok" ∷ [])
  pub fair_closed : Says (Fair FairClosed) [] (bytes_of "ok" ∷ [])
  -- a cell accepted: its number and its last slot
  pub cell :
      (number : ℕ) (last : Slot)
      → Says (Urgent (Accepted number last)) (number ∷ last.0 ∷ []) (bytes_of "ok" ∷ field number ∷ field last.0 ∷ [])
  -- a cell sent: its flow and its number, and the cells missed in that turn
  pub sent :
      (flow number missed : ℕ)
      → Says (Urgent (Sent flow number missed)) (flow ∷ number ∷ missed ∷ [])
      (bytes_of "sent" ∷ field flow ∷ field number ∷ bytes_of " missed" ∷ field missed ∷ [])
  -- a turn that sent none, open or lost: the cells missed in it
  pub idle : (missed : ℕ) → Says (Urgent (Idle missed)) (missed ∷ []) (bytes_of "idle missed" ∷ field missed ∷ [])
  -- a packet accepted: its number, its start tag and its finish tag
  pub packet :
      (number : ℕ) (start finish : Tag)
      → Says (Fair (FairAccepted number start finish)) (number ∷ start.0 ∷ finish.0 ∷ [])
      (bytes_of "ok" ∷ field number ∷ field start.0 ∷ field finish.0 ∷ [])
  -- a packet begun: its flow, its number and its start tag; its length is told and not written
  pub begun :
      (flow number length : ℕ) (start : Tag)
      → Says (Fair (Begun flow number length start)) (flow ∷ number ∷ length ∷ start.0 ∷ [])
      (bytes_of "ok" ∷ field flow ∷ field number ∷ field start.0 ∷ [])
  -- a packet ended: its flow and its number; its length is told and not written
  pub ended :
      (flow number length : ℕ)
      → Says (Fair (Ended flow number length)) (flow ∷ number ∷ length ∷ []) (bytes_of "ok" ∷ field flow ∷ field number ∷ [])
  -- a refusal of either lane, and a line that is no command
  pub refused : (refusal : Refusal) → SaysNo (Urgent (Refused refusal)) refusal
  pub fair_refused : (refusal : Refusal) → SaysNo (Fair (FairRefused refusal)) refusal
  pub no_command : no_command_line ≡ spelled (bytes_of "no" ∷ field 11 ∷ [])
