-- What each call gives, by what the queue gave: what it refuses leaves the lane as it was, so that in any case the lane has what it gave, and
-- only a begin and an end that go through move virtual time.
use Rattle.std.proofs.Common.{◌≡◌, ℕ, ◌<◌, refl, ap, arith, eq-eqb, ne_eqb}
use Rattle.units.specs.declared.Tag.{Tag}
use Rattle.packets.specs.Kept.{Kept, Flows}
use Rattle.packets.specs.declared.Answer.TheVariants.{Begun, Ended}
use Rattle.packets.specs.Queue.{flow_at, waiting, by_start}
use Rattle.packets.specs.Quotes.{quote_of}
use Rattle.packets.specs.Calls.{open_of as open_in, close_of as close_in, begin_by, begun as begun_in, end_of as end_in}
use Rattle.places.specs.Choice.{at}
use Rattle.packets.proofs.Cases.{open_cases, close_cases, put_cases, begin_cases, end_cases}
use Rattle.fair.specs.declared.Fair.{Fair}
use Rattle.fair.specs.Lane.{largest_ended}
use Rattle.fair.specs.Calls.{with_flows, by_flows, with_queue, by_queue, open_of, close_of, stamped, offer_of, begun, begin_of, time_left, end_of}

module _ (u : Fair) where
  -- what the queue refuses leaves the lane as it was: in any case it has the flows that the queue gave
  pub opens : (flow weight : ℕ) → open_of u flow weight ≡ with_flows u (open_in u.queue flow weight)
  unfolding open_of
  opens flow weight = open_cases u.queue (λ (d : Flows). by_flows u d ≡ with_flows u d) (λ r. refl) flow weight (λ l o b. refl)

  pub closes : (flow : ℕ) → close_of u flow ≡ with_flows u (close_in u.queue flow)
  unfolding close_of
  closes flow = close_cases u.queue (λ (d : Flows). by_flows u d ≡ with_flows u d) (λ r. refl) flow (λ l w s. refl)

  -- and the queue that it gave
  pub offers : (flow length : ℕ) → offer_of u flow length ≡ with_queue u.time u.largest (stamped u flow length)
  unfolding offer_of
  offers flow length =
      put_cases u.queue (λ (d : Kept). by_queue u u.time u.largest d ≡ with_queue u.time u.largest d) (λ r. refl) flow length
      (quote_of (flow_at u.queue flow) u.time length) (λ l o b w x f. refl)

  -- virtual time is the start that a begin is answered, and stays where it is refused
  pub begins : (flow number length : ℕ) (start : Tag) → (begin_by by_start u.queue).answer ≡ Begun flow number length start
      → begin_of u ≡ with_queue start u.largest (begin_by by_start u.queue)
  unfolding begin_of
  begins flow number length start o =
      begin_cases u.queue
      (λ (d : Kept). d.answer ≡ Begun flow number length start → begun u d ≡ with_queue start u.largest d)
      (λ r k. absurd (let z : ◌≡◌ {A = ℕ} 0 1 = cc in omega arith))
      by_start (λ i place p c k. ap (λ (t : Tag). with_queue t u.largest (begun_in u.queue (at place p))) (let z : p.start ≡ start = cc in z)) o

  pub begins_not : ((flow number length : ℕ) (start : Tag) → (begin_by by_start u.queue).answer ≡ Begun flow number length start → ⊥)
      → begin_of u ≡ with_queue u.time u.largest (begin_by by_start u.queue)
  unfolding begin_of
  begins_not =
      begin_cases u.queue
      (λ (d : Kept). ((flow number length : ℕ) (start : Tag) → d.answer ≡ Begun flow number length start → ⊥) → begun u d ≡ with_queue u.time u.largest d)
      (λ r k. refl) by_start (λ i place p c k. absurd (k _ _ _ _ refl))

  -- an end that is refused changes neither time
  pub ends_not : ((flow number length : ℕ) → (end_in u.queue).answer ≡ Ended flow number length → ⊥) → end_of u ≡ with_queue u.time u.largest (end_in u.queue)
  unfolding end_of
  ends_not =
      end_cases u.queue
      (λ (d : Kept). ((flow number length : ℕ) → d.answer ≡ Ended flow number length → ⊥) → by_queue u (time_left u) (largest_ended u) d ≡ with_queue u.time u.largest d)
      (λ r k. refl) (λ b k. absurd (k _ _ _ refl))

  -- any other takes the packet's finish into both
  pub ends : (flow number length : ℕ) → (end_in u.queue).answer ≡ Ended flow number length
      → (end_of u ≡ with_queue (time_left u) (largest_ended u) (end_in u.queue)) × (waiting (end_in u.queue).queue ≡ waiting u.queue)
  unfolding end_of
  ends flow number length =
      end_cases u.queue
      (λ (d : Kept). d.answer ≡ Ended flow number length
      → (by_queue u (time_left u) (largest_ended u) d ≡ with_queue (time_left u) (largest_ended u) d) × (waiting d.queue ≡ waiting u.queue))
      (λ r k. absurd (let z : ◌≡◌ {A = ℕ} 0 1 = cc in omega arith)) (λ b k. (refl, refl))

  -- virtual time after an end, where none waits and where some do
  pub drained : waiting u.queue ≡ 0 → time_left u ≡ largest_ended u
  drained w = rw (eq-eqb (waiting u.queue) 0 w)

  pub left : 0 < waiting u.queue → time_left u ≡ u.time
  left w = rw (ne_eqb (waiting u.queue) 0 (λ z. omega arith))
