-- What each call of the fair lane gives, over every state: what the queue gives, and what becomes of virtual time.
use Rattle.std.specs.Prelude.{cond, ℕ, eqb}
use Rattle.units.specs.Refusals.{unless}
use Rattle.units.specs.declared.Refusal.{Refusal}
use Rattle.units.specs.declared.Tag.{Tag}
use Rattle.packets.specs.Kept.{Kept, Flows}
use Rattle.packets.specs.declared.Answer.TheVariants.{Refused}
use Rattle.packets.specs.Answers.{refusal_in, start_told}
use Rattle.packets.specs.Queue.{flow_at, waiting, by_start}
use Rattle.packets.specs.Quotes.{quote_of}
use Rattle.packets.specs.Calls.{queue_with, open_of as open_in, close_of as close_in, put_of, begin_by, end_of as end_in}
use Rattle.fair.specs.declared.Fair.{Fair}
use Rattle.fair.specs.declared.Done.{Done}
use Rattle.fair.specs.Lane.{largest_ended}

-- what the queue refuses is refused, and the lane is as it was
abbrev pub refused : Fair → Refusal → Done
refused u r = record { lane = u; answer = Refused r }

-- the lane with the flows that the queue gave, and its answer
abbrev pub with_flows : Fair → Flows → Done
with_flows u d =
    record { lane = record { time = u.time; largest = u.largest; queue = queue_with u.queue d }; answer = d.answer }

-- what a call gives that can change the flows alone
abbrev pub by_flows : Fair → Flows → Done
by_flows u d = unless (refused u) (refusal_in d.answer) (with_flows u d)

-- the lane with the queue that a call gave, at this virtual time and with this largest finish tag of all packets ended, and the answer
abbrev pub with_queue : Tag → Tag → Kept → Done
with_queue time largest d = record { lane = record { time = time; largest = largest; queue = d.queue }; answer = d.answer }

-- what a call gives that can change the queue; these times are those after it, where it is not refused
abbrev pub by_queue : Fair → Tag → Tag → Kept → Done
by_queue u time largest d = unless (refused u) (refusal_in d.answer) (with_queue time largest d)

-- what opening a flow with a weight gives
unfoldable pub open_of : Fair → ℕ → ℕ → Done
open_of u flow weight = by_flows u (open_in u.queue flow weight)

-- what closing a flow gives
unfoldable pub close_of : Fair → ℕ → Done
close_of u flow = by_flows u (close_in u.queue flow)

-- a packet is put with the tags that virtual time gives it
abbrev pub stamped : Fair → ℕ → ℕ → Kept
stamped u flow length = put_of u.queue flow length (quote_of (flow_at u.queue flow) u.time length)

-- what offering a packet of a length gives; virtual time stays
unfoldable pub offer_of : Fair → ℕ → ℕ → Done
offer_of u flow length = by_queue u u.time u.largest (stamped u flow length)

-- begin: virtual time becomes the start tag of the packet that goes into service
abbrev pub begun : Fair → Kept → Done
begun u d = by_queue u (start_told u.time d.answer) u.largest d

-- what begin gives
unfoldable pub begin_of : Fair → Done
begin_of u = begun u (begin_by by_start u.queue)

-- virtual time after an end: where none waits, the largest finish tag of all packets ended
abbrev pub time_left : Fair → Tag
time_left u = cond (eqb (waiting u.queue) 0) (largest_ended u) u.time

-- what end gives
unfoldable pub end_of : Fair → Done
end_of u = by_queue u (time_left u) (largest_ended u) (end_in u.queue)
