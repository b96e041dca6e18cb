-- What holds of the lane's definitions in every state.
use Rattle.std.specs.Prelude.{◌≡◌, ℕ, Some}
use Rattle.units.specs.Refusals.{first_of}
use Rattle.units.specs.declared.Refusal.{Refusal}
use Rattle.units.specs.declared.Tag.{Tag}
use Rattle.tags.specs.Grounds.{opening_grounds, closing_grounds, offering_grounds}
use Rattle.packets.specs.Answers.{refusal_in}
use Rattle.packets.specs.Queue.{flow_at, waiting_of, busy_with, by_start, begin_grounds, end_grounds}
use Rattle.packets.specs.Laws.{BegunFirst}
use Rattle.fair.specs.declared.Fair.{Fair}
use Rattle.fair.specs.Lane.{start_of}
use Rattle.fair.specs.Calls.{open_of, close_of, offer_of, begin_of, end_of}

-- Each call is refused exactly for the first of its grounds that holds.
pub record RefusedFirst (u : Fair) : Type 0 where
  pub opening : (flow weight : ℕ) → refusal_in (open_of u flow weight).answer ≡ first_of (opening_grounds flow weight (flow_at u.queue flow))
  pub closing :
      (flow : ℕ)
      → refusal_in (close_of u flow).answer
      ≡ first_of (closing_grounds flow (flow_at u.queue flow) (waiting_of u.queue flow) (busy_with u.queue.service flow))
  pub offering :
      (flow length : ℕ)
      → refusal_in (offer_of u flow length).answer
      ≡ first_of (offering_grounds flow (flow_at u.queue flow) (waiting_of u.queue flow) (start_of u flow) length)
  pub beginning : refusal_in (begin_of u).answer ≡ first_of (begin_grounds u.queue)
  pub ending : refusal_in (end_of u).answer ≡ first_of (end_grounds u.queue)

-- A refused call leaves the lane as it was.
pub record RefusedSame (u : Fair) (r : Refusal) : Type 0 where
  pub opening : (flow weight : ℕ) → refusal_in (open_of u flow weight).answer ≡ Some r → (open_of u flow weight).lane ≡ u
  pub closing : (flow : ℕ) → refusal_in (close_of u flow).answer ≡ Some r → (close_of u flow).lane ≡ u
  pub offering : (flow length : ℕ) → refusal_in (offer_of u flow length).answer ≡ Some r → (offer_of u flow length).lane ≡ u
  pub beginning : refusal_in (begin_of u).answer ≡ Some r → (begin_of u).lane ≡ u
  pub ending : refusal_in (end_of u).answer ≡ Some r → (end_of u).lane ≡ u

-- A begin that is not refused is of the packet that goes first by start tag, and virtual time is that start tag then.
pub record BeginsFirst (u : Fair) (flow number bytes : ℕ) (start : Tag) : Type 0 where
  pub first : BegunFirst by_start u.queue flow number bytes start
  pub time : (begin_of u).lane.time ≡ start
