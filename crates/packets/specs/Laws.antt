-- What holds of a queue's definitions in every state.
use Rattle.std.specs.Prelude.{◌≡◌, Option, true, false, ℕ, ◌<◌, length}
use Rattle.units.specs.Limits.{place_count}
use Rattle.units.specs.Refusals.{first_of}
use Rattle.units.specs.declared.Tag.{Tag}
use Rattle.places.specs.Places.{flow_of}
use Rattle.places.specs.Choice.{at, comes_before}
use Rattle.tags.specs.Tags.{is_held}
use Rattle.tags.specs.Grounds.{opening_grounds, closing_grounds}
use Rattle.packets.specs.declared.Queue.{Queue}
use Rattle.packets.specs.declared.Quote.{Quote}
use Rattle.packets.specs.declared.Answer.TheVariants.{Begun}
use Rattle.packets.specs.Queue.{flow_at, packet_at, waiting_of, busy_with, Rank, key_by, begin_grounds, end_grounds}
use Rattle.packets.specs.Calls.{open_of, close_of, put_grounds, put_of, begun, begin_by, end_of}
use Rattle.packets.specs.Answers.{refusal_in}

-- the packet that a begin answers waited in some place, no waiting packet comes before it by rank, flow and number, and the begin is of just
-- that place: it is freed, and its packet goes into service
pub record BegunFirst (rank : Rank) (q : Queue) (flow number bytes : ℕ) (start : Tag) : Type 0 where
  pub place : ℕ
  pub within : place < length q.packets
  pub waited : is_held (packet_at q place) ≡ true
  pub flow_told : flow ≡ flow_of place_count place
  pub number_told : number ≡ (packet_at q place).number
  pub length_told : bytes ≡ (packet_at q place).length
  pub start_told : start ≡ (packet_at q place).start
  pub goes_first :
      (other : ℕ) → is_held (packet_at q other) ≡ true
      → comes_before (key_by rank other (packet_at q other)) (key_by rank place (packet_at q place)) ≡ false
  pub whole : begin_by rank q ≡ begun q (at place (packet_at q place))

-- Every begin that is not refused begins the packet that goes first, whatever the rank.
abbrev pub BeginsFirst : Type 0
BeginsFirst =
    (rank : Rank) (q : Queue) (flow number bytes : ℕ) (start : Tag)
    → (begin_by rank q).answer ≡ Begun flow number bytes start → BegunFirst rank q flow number bytes start

-- Each call is refused exactly for the first of its grounds that holds.
pub record RefusedFirst (q : Queue) : Type 0 where
  pub opening : (flow weight : ℕ) → refusal_in (open_of q flow weight).answer ≡ first_of (opening_grounds flow weight (flow_at q flow))
  pub closing :
      (flow : ℕ)
      → refusal_in (close_of q flow).answer ≡ first_of (closing_grounds flow (flow_at q flow) (waiting_of q flow) (busy_with q.service flow))
  pub putting : (flow length : ℕ) (quote : Option Quote) → refusal_in (put_of q flow length quote).answer ≡ first_of (put_grounds q flow length quote)
  pub beginning : (rank : Rank) → refusal_in (begin_by rank q).answer ≡ first_of (begin_grounds q)
  pub ending : refusal_in (end_of q).answer ≡ first_of (end_grounds q)
