-- The promises of the fair lane, each as a statement about a lane, what the calls and answers so far tell of its packets, or both. What is
-- promised of any queue, F3's LastBegun and F5's TermsStand among it, is in promises_queue.
use Rattle.std.specs.Prelude.{ℕ, suc, ◌+◌, ◌*◌, ◌≤◌, ◌<◌, max}
use Rattle.units.specs.Limits.{tag_limit}
use Rattle.units.specs.Charges.{charge_of}
use Rattle.packets.specs.declared.Answer.{Answer}
use Rattle.packets.specs.Queue.{flow_at}
use Rattle.fair.specs.declared.Fair.{Fair}
use Rattle.fair.specs.Calls.{begin_of, end_of}
use Rattle.promises_queue.specs.Packets.{Packets, weight_in}
use Rattle.promises_queue.specs.Notes.{note_service}
use Rattle.promises_queue.specs.Promised.{FirstBy, PlacesInOrder, PacketsNumbered}
use Rattle.promises_fair.specs.Times.{last_finish, virtual_time}

-- a packet offered now: its start tag is the larger of virtual time and the finish of its flow's packet before it, 0 at first
abbrev pub start_in : Packets → ℕ → ℕ
start_in h flow = max (virtual_time h.moments) (last_finish h.accepted flow)

-- and its finish tag is that and its length times the charge in force
abbrev pub finish_tag : Packets → ℕ → ℕ → ℕ
finish_tag h flow length = start_in h flow + length * charge_of (weight_in h flow)

-- F2: a begin that is not refused answers flow, number, length and start tag of a packet accepted and not begun, and no such packet
-- comes before it by start tag, flow and number.
abbrev pub First : Packets → Answer → Type 0
First = FirstBy (λ start finish. start)

-- F2: each flow's packets were begun in the order of their numbers; and the places held are, packet for packet, those accepted and not
-- begun: whatever is asked of a packet's flow, number, length and tags, as many places as waiting packets answer to it.
abbrev pub ServedInOrder : Fair → Packets → Type 0
ServedInOrder u h = PlacesInOrder u.queue h

-- F3: each accepted packet's number, as answered, is how many of its flow were accepted before it; and no flow's next number comes near
-- the end of its type, since no number passes the largest tag.
pub record NumbersGoOn (u : Fair) (h : Packets) : Type 0 where
  pub numbered : PacketsNumbered h.accepted
  pub few_numbers : (flow : ℕ) → flow < 16 → (flow_at u.queue flow).next ≤ suc tag_limit

-- F4, one step of it: neither the next begin nor the next end takes virtual time back.
pub record NeverFalls (u : Fair) (h : Packets) : Type 0 where
  pub begins : virtual_time h.moments ≤ virtual_time (note_service h (begin_of u).answer).moments
  pub ends : virtual_time h.moments ≤ virtual_time (note_service h (end_of u).answer).moments
