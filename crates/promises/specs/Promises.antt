-- The promises, each a field of one record, over every list of calls from a fresh station unless it says otherwise.
use Rattle.std.specs.Prelude.{◌≡◌, Bool, not, List, [], ◌∷◌, ◌++◌, ℕ, ◌+◌, ◌%◌, ◌≤◌, ◌<◌, None}
use Rattle.units.specs.Refusals.{Ground, number_of, first_of}
use Rattle.units.specs.declared.Refusal.{Refusal}
use Rattle.units.specs.Charges.{ProductRule}
use Rattle.units.specs.Radio.{slots_passed}
use Rattle.link.specs.Published.{Published, OthersFail}
use Rattle.promises_urgent.specs.Promised.{OnTime, accepted_of, Accounted, Earliest, last_in, CellsNumbered, Windowed, FewNumbers, OwnPlan, NoneBetter, Explained, TermsStand}
use Rattle.promises_urgent.specs.Refused.{opening_noted as urgent_opening, closing_noted as urgent_closing, offering_noted as cell_offering, turn_noted}
use Rattle.promises_queue.specs.Promised.{accepted_of as packets_of, LastBegun, TermsStand as FairTermsStand}
use Rattle.promises_queue.specs.Refused.{opening_noted as fair_opening, closing_noted as fair_closing, begin_noted, end_noted}
use Rattle.promises_fair.specs.Times.{virtual_time}
use Rattle.promises_fair.specs.Promised.{start_in, finish_tag, First, ServedInOrder, NumbersGoOn}
use Rattle.promises_fair.specs.Refused.{offering_noted as packet_offering}
use Rattle.station.specs.declared.Call.{Call}
use Rattle.station.specs.declared.Call.TheVariants.{OpenUrgent, OpenFair, CloseUrgent, CloseFair, OfferCell, OfferPacket, OpenTurn, LostTurn, Begin, End}
use Rattle.station.specs.Calls.{fresh_station}
use Rattle.station.specs.Answers.{told, refusal_in}
use Rattle.station.specs.InKind.{AnsweredInKind}
use Rattle.station.specs.Laws.{RefusedFirst, NumberTold, GroundsInOrder, RefusedSame, is_urgent}
use Rattle.lines.specs.Reading.{ReadsOneText}
use Rattle.session.specs.Laws.{FedInPieces, TakesOn}
use Rattle.promises.specs.Numbers.{RefusalsNumbered, LimitsSaid}
use Rattle.promises.specs.Order.{OrderSaid}
use Rattle.promises.specs.Bytes.{DecimalsSpelled, LinesCut}
use Rattle.promises.specs.Sessions.{CallsAnswered, OthersAnswered}
use Rattle.promises.specs.Texts.{CommandsSpelled, RepliesSpelled}
use Rattle.promises.specs.Run.{Run, run, run_from, reply_to, on_urgent, on_fair, replies, replies_to, only}

-- calls of the fair lane
abbrev pub is_fair : Call → Bool
is_fair call = not (is_urgent call)

-- what a call is refused for, read off the calls and replies so far: open is opened and not closed since; waiting is accepted, not sent
-- and not gone by, or accepted and not begun; in service is a begin answered and no end since; the slot is U0's and the tags are F1's
abbrev pub grounds_noted : Run → Call → List Ground
grounds_noted r (OpenUrgent flow deadline) = urgent_opening r.cells flow deadline
grounds_noted r (OpenFair flow weight) = fair_opening r.packets flow weight
grounds_noted r (CloseUrgent flow) = urgent_closing r.cells flow
grounds_noted r (CloseFair flow) = fair_closing r.packets flow
grounds_noted r (OfferCell flow deadline) = cell_offering r.cells flow deadline
grounds_noted r (OfferPacket flow length) = packet_offering r.packets flow length
grounds_noted r OpenTurn = turn_noted r.cells
grounds_noted r LostTurn = turn_noted r.cells
grounds_noted r Begin = begin_noted r.packets
grounds_noted r End = end_noted r.packets

pub record Promises : Type 0 where
  -- a list of calls goes on where a shorter one left off
  pub run_on : (xs ys : List Call) → run (xs ++ ys) ≡ run_from (run xs) ys
  -- S0: every call is answered by its own lane, and by what such a call is answered or a refusal, in every state
  pub S0 : AnsweredInKind
  -- S1: a refused call leaves the station as it was, in every state
  pub S1 : RefusedSame
  -- S2: a call is refused exactly for the first of its grounds that holds, in the order that the rules give, in every state
  pub S2 : RefusedFirst
  pub S2-number : NumberTold
  pub S2-order : GroundsInOrder
  -- and the refusals have the rules' numbers, of which 4 is none, and their conditions the rules' limits
  pub S2-numbers : RefusalsNumbered
  pub S2-never4 : (refusal : Refusal) → number_of refusal ≡ 4 → ⊥
  pub S2-limits : LimitsSaid
  -- S3: the lanes share nothing: the replies to one lane's calls are the replies to those calls alone
  pub S3-urgent : (calls : List Call) → replies_to is_urgent fresh_station calls ≡ replies fresh_station (only is_urgent calls)
  pub S3-fair : (calls : List Call) → replies_to is_fair fresh_station calls ≡ replies fresh_station (only is_fair calls)
  -- S4: a call is refused exactly as the calls and replies so far tell; with S0, one that no condition refuses is accepted
  pub S4 : (calls : List Call) (call : Call) → refusal_in (reply_to calls call) ≡ first_of (grounds_noted (run calls) call)
  -- U0: time is the calls': the slot number is the number of turns answered and not refused
  pub U0 : (calls : List Call) → OnTime (run calls).station.urgent (run calls).cells
  -- U1: accepted = sent + missed + waiting, and the places held are the waiting cells
  pub U1 : (calls : List Call) → Accounted (run calls).station.urgent (run calls).cells
  -- U2: of the cells that wait, an open turn sends the one whose last slot comes first, ties to the lowest flow and then the lowest number;
  -- that no other cell leaves by sending is U1 after the turn
  pub U2 : (calls : List Call) → on_urgent (Earliest (run calls).cells) (reply_to calls OpenTurn)
  -- and what comes before what is just that, here by last slot and in F2 by start tag
  pub U2-ties : OrderSaid
  -- U3: an accepted cell is told how many of its flow were accepted before it, and the last slot of its window by its own deadline; no number wraps
  pub U3 :
      (calls : List Call) (flow deadline : ℕ) → refusal_in (reply_to calls (OfferCell flow deadline)) ≡ None
      → (told (reply_to calls (OfferCell flow deadline))).values ≡ accepted_of (run calls).cells flow ∷ last_in (run calls).cells deadline ∷ []
  pub U3-numbers : (calls : List Call) → CellsNumbered (run calls).cells.accepted
  pub U3-windows : (calls : List Call) → Windowed (run calls).cells.accepted
  pub U3-few : (calls : List Call) → FewNumbers (run calls).station.urgent
  -- U4: the lane's own sendings are a plan: each cell once, in an open slot, inside its window
  pub U4 : (calls : List Call) → OwnPlan (run calls).cells
  -- U5: demand 3: no plan, even one drawn up in hindsight, could have sent more
  pub U5 : (calls : List Call) → NoneBetter (run calls).cells
  -- U6: every missed cell has a reason
  pub U6 : (calls : List Call) → Explained (run calls).cells
  -- U7: a cell that waits is of an open flow, whose deadline is still that of the cell's acceptance; the cell's own is at most that
  pub U7 : (calls : List Call) → TermsStand (run calls).cells
  -- F1: virtual time is the published one, and an accepted packet is told the published tags
  pub F1-time : (calls : List Call) → (run calls).station.fair.time.0 ≡ virtual_time (run calls).packets.moments
  pub F1 :
      (calls : List Call) (flow length : ℕ) → refusal_in (reply_to calls (OfferPacket flow length)) ≡ None
      → (told (reply_to calls (OfferPacket flow length))).values
      ≡ packets_of (run calls).packets flow ∷ start_in (run calls).packets flow ∷ finish_tag (run calls).packets flow length ∷ []
  -- F2: begin takes the waiting packet with the smallest start tag, ties to the lowest flow; a flow's packets are begun in the order of their
  -- numbers; the places held are the waiting packets
  pub F2 : (calls : List Call) → on_fair (First (run calls).packets) (reply_to calls Begin)
  pub F2-order : (calls : List Call) → ServedInOrder (run calls).station.fair (run calls).packets
  -- F3: end answers the packet last begun; packets are numbered from 0 in each flow, and no number wraps
  pub F3 : (calls : List Call) → on_fair (LastBegun (run calls).packets.moments) (reply_to calls End)
  pub F3-numbers : (calls : List Call) → NumbersGoOn (run calls).station.fair (run calls).packets
  -- F4: virtual time never falls, and every charge times its weight is 720,720
  pub F4 : (xs ys : List Call) → virtual_time (run xs).packets.moments ≤ virtual_time (run (xs ++ ys)).packets.moments
  pub F4-charges : ProductRule
  -- F5: a packet that waits or is in service is of an open flow, and its charge is that of the weight still in force
  pub F5 : (calls : List Call) → FairTermsStand (run calls).packets
  -- A1: admission is the published link test over every t; admitted, rate, the smallest t that fails and each refusal are told exactly where the rules say
  pub A1 : Published
  -- A2: a list within its limits that is not admitted fails at some t, which is given
  pub A2 : OthersFail
  -- R1: slots passed are below 65,536 and lead from the earlier count to the later; equal counts give 0
  pub R1 :
      (earlier later : ℕ) → earlier < 65536 → later < 65536
      → (slots_passed earlier later < 65536)
      × ((earlier + slots_passed earlier later) % 65536 ≡ later)
      × (slots_passed earlier earlier ≡ 0)
  -- P1: a line is read as a call exactly when it is the call's one text and its numbers are at most 4,294,967,295; every other line is
  -- answered `no 11`, once, and leaves the station as it was
  pub P1 : ReadsOneText
  pub P1-others : OthersAnswered
  -- and each call's text is spelled as the rules spell it, every number in decimal
  pub P1-commands : CommandsSpelled
  pub P1-decimals : DecimalsSpelled
  -- P2: the text of a call with such numbers is answered by exactly the line of its reply
  pub P2 : CallsAnswered
  -- and each reply's line is spelled as the rules spell it, a refusal's by its number
  pub P2-lines : RepliesSpelled
  -- P3: a whole session is one definition, bytes to bytes, and fed in any pieces the program's steps write it; its lines are cut at line feeds
  pub P3 : FedInPieces
  pub P3-lines : LinesCut
  -- and with room for a line, no piece is left waiting
  pub P3-takes : TakesOn
