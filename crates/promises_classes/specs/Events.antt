-- What has happened in the class lane, read off the calls and their answers alone: one list, the newest first, since a class sees offers, begins
-- and ends in the order in which they came.
use Rattle.std.specs.Prelude.{List, [], ◌∷◌, ℕ}
use Rattle.units.specs.declared.Tag.{Tag}
use Rattle.places.specs.Marks.{opens, closes}
use Rattle.packets.specs.declared.Answer.{Answer as QueueAnswer}
use Rattle.packets.specs.declared.Answer.TheVariants.{Accepted, Refused as RefusedIn, Opened as OpenedIn, Closed as ClosedIn, Begun as BegunIn, Ended as EndedIn}
use Rattle.tree.specs.Tree.{no_tag}
use Rattle.classes.specs.declared.Call.{Call}
use Rattle.classes.specs.declared.Call.TheVariants.{Open, Close, Offer, Begin, End}
use Rattle.classes.specs.declared.Answer.{Answer}
use Rattle.classes.specs.declared.Answer.TheVariants.{Refused, Opened, Closed, Taken, Begun, Ended}
use Rattle.promises_queue.specs.Packets.{Packets, no_packets}
use Rattle.promises_queue.specs.Notes.{marked, note_offer, note_service}

-- what a call that was not refused has brought about
pub data Event : Type 0 where
  -- a flow was opened with a weight, or closed
  opened : (flow weight : ℕ) → Event
  closed : (flow : ℕ) → Event
  -- a packet was accepted: its flow, its number as answered, and its length
  accepted : (flow number length : ℕ) → Event
  -- a packet was begun, or ended, as answered
  began : (flow number length : ℕ) (start : Tag) → Event
  ceased : (flow number length : ℕ) → Event

-- all that has happened
abbrev pub History : Type 0
History = List Event

-- an opening that was answered ok
abbrev pub note_opened : History → Call → History
note_opened h (Open flow weight) = opened flow weight ∷ h
note_opened h (Close flow) = h
note_opened h (Offer flow length) = h
note_opened h Begin = h
note_opened h End = h

-- a closing that was
abbrev pub note_closed : History → Call → History
note_closed h (Open flow weight) = h
note_closed h (Close flow) = closed flow ∷ h
note_closed h (Offer flow length) = h
note_closed h Begin = h
note_closed h End = h

-- an offer that was answered a number
abbrev pub note_taken : History → Call → ℕ → History
note_taken h (Open flow weight) number = h
note_taken h (Close flow) number = h
note_taken h (Offer flow length) number = accepted flow number length ∷ h
note_taken h Begin number = h
note_taken h End number = h

-- a call and its answer; one that is refused adds nothing
abbrev pub note : History → Call → Answer → History
note h call (Refused r) = h
note h call Opened = note_opened h call
note h call Closed = note_closed h call
note h call (Taken number) = note_taken h call number
note h call (Begun flow number length start) = began flow number length start ∷ h
note h call (Ended flow number length) = ceased flow number length ∷ h

-- What the events tell of the packets, as of any queue's. A packet of a class has no tags of its own, so its tags there are 0; and since refused
-- calls are no events, a position is one among the events. No promise reads either.
unfoldable pub packets_in : History → Packets
packets_in [] = no_packets
packets_in (opened flow weight ∷ h) = marked (packets_in h) (opens flow weight)
packets_in (closed flow ∷ h) = marked (packets_in h) (closes flow)
packets_in (accepted flow number length ∷ h) = note_offer (packets_in h) flow length (Accepted number no_tag no_tag)
packets_in (began flow number length start ∷ h) = note_service (packets_in h) (BegunIn flow number length start)
packets_in (ceased flow number length ∷ h) = note_service (packets_in h) (EndedIn flow number length)

-- an answer as any queue's
abbrev pub as_queue : Answer → QueueAnswer
as_queue (Refused r) = RefusedIn r
as_queue Opened = OpenedIn
as_queue Closed = ClosedIn
as_queue (Taken number) = Accepted number no_tag no_tag
as_queue (Begun flow number length start) = BegunIn flow number length start
as_queue (Ended flow number length) = EndedIn flow number length
