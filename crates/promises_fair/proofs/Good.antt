-- All that the calls keep of the fair lane, in one record: what they keep of its queue, of its times, and that its tags keep pace. It holds of
-- a fresh lane, and each call of the lane keeps it.
use mathlib.Core.Path.{refl, ap}
use Prim.Native.Nat.{ℕ, zero-le}
use lib.ListN.{get_or-replicate}
use Rattle.places.specs.Places.{count}
use Rattle.tags.specs.declared.Flow.{Flow}
use Rattle.tags.specs.Tags.{shut_flow}
use Rattle.fair.specs.declared.Fair.{Fair}
use Rattle.fair.specs.Lane.{fresh_lane}
use Rattle.fair.specs.Calls.{open_of, close_of, offer_of, begin_of, end_of}
use Rattle.fair.proofs.Cases.{open_cases, close_cases, offer_cases, begin_cases, end_cases}
use Rattle.promises_queue.specs.Packets.{Packets, no_packets}
use Rattle.promises_queue.specs.Notes.{note_other, note_opening, note_closing, note_offer, note_service}
use Rattle.promises_queue.specs.Promised.{TermsStand}
use Rattle.promises_queue.proofs.Kept.{Ordered}
use Rattle.promises_queue.proofs.Chosen.{chosen_held}
use Rattle.promises_queue.proofs.Good.{QueueGood, queue_fresh, queue_open, queue_close, queue_put, queue_begin, queue_end}
use Rattle.packets.specs.Queue.{by_start}
use Rattle.promises_fair.specs.Times.{last_finish, largest_ended, virtual_time}
use Rattle.promises_fair.proofs.Kept.{FairKept, Paced, kept_open, kept_close}
use Rattle.promises_fair.proofs.Offered.{stamp, kept_offer, paced_offer}
use Rattle.promises_fair.proofs.Began.{begins_next, kept_begin, paced_begin}
use Rattle.promises_fair.proofs.Ceased.{kept_end, paced_end}

-- what the calls keep of the fair lane
pub record Good (u : Fair) (h : Packets) : Type 0 where
  pub kept : FairKept u h.marks h.accepted h.moments
  pub ordered : Ordered h.accepted h.moments
  pub paced : Paced h.accepted h.moments
  pub terms : TermsStand h

-- what they keep of its queue
pub queue_good : (u : Fair) (h : Packets) → Good u h → QueueGood u.queue h
queue_good u h g = record { kept = g.kept.queue; ordered = g.ordered; terms = g.terms }

-- it holds before any call
pub good_fresh : Good fresh_lane no_packets
unfolding count last_finish largest_ended virtual_time
good_fresh =
    record {
      kept =
          record {
            queue = queue_fresh.kept;
            finishes = λ f b. ap (λ (x : Flow). x.finish.0) (get_or-replicate 16 f shut_flow shut_flow b);
            time = refl;
            largest = refl;
          };
      ordered = queue_fresh.ordered;
      paced = record { few = λ f. zero-le; rising = tt; in_hand = tt; on_time = refl };
      terms = tt;
    }

module _ (u : Fair) (h : Packets) (g : Good u h) where
  -- a call of another lane, or a refused one, is counted
  pub good_other : Good u (note_other h)
  good_other = record { kept = g.kept; ordered = g.ordered; paced = g.paced; terms = g.terms }

  -- an opening keeps it
  pub good_open : (flow weight : ℕ) → Good (open_of u flow weight).lane (note_opening h flow weight (open_of u flow weight).answer)
  good_open flow weight =
      open_cases u (λ d. Good d.lane (note_opening h flow weight d.answer)) (λ r. good_other) flow weight
      (λ low o good.
      let x = queue_open (queue_good u h g) flow weight low o good in
      record { kept = kept_open g.kept flow low weight good; ordered = x.ordered; paced = g.paced; terms = x.terms })

  -- a closing keeps it
  pub good_close : (flow : ℕ) → Good (close_of u flow).lane (note_closing h flow (close_of u flow).answer)
  good_close flow =
      close_cases u (λ d. Good d.lane (note_closing h flow d.answer)) (λ r. good_other) flow
      (λ low none idle.
      let x = queue_close (queue_good u h g) flow low none idle in
      record { kept = kept_close g.kept flow low; ordered = x.ordered; paced = g.paced; terms = x.terms })

  -- an offer keeps it
  pub good_offer : (flow length : ℕ) → Good (offer_of u flow length).lane (note_offer h flow length (offer_of u flow length).answer)
  good_offer flow length =
      offer_cases u (λ d. Good d.lane (note_offer h flow length d.answer)) (λ r. good_other) flow length
      (λ low o good room fits few.
      let x = queue_put (queue_good u h g) flow length (stamp u flow length) low o room few in
      record {
        kept = kept_offer g.kept g.ordered flow length low o few h.calls room;
        ordered = x.ordered;
        paced = paced_offer g.kept g.ordered flow length low o few h.calls g.paced good;
        terms = x.terms;
      })

  -- a begin keeps it
  pub good_begin : Good (begin_of u).lane (note_service h (begin_of u).answer)
  good_begin =
      begin_cases u (λ d. Good d.lane (note_service h d.answer)) (λ r. good_other)
      (λ b place p e.
      let x = queue_begin (queue_good u h g) place p (chosen_held g.kept.queue place p by_start e) (begins_next g.kept g.ordered g.paced place p e) in
      record {
        kept = kept_begin g.kept g.ordered g.paced place p e h.calls;
        ordered = x.ordered;
        paced = paced_begin g.kept g.ordered g.paced place p e h.calls;
        terms = x.terms;
      })

  -- an end keeps it
  pub good_end : Good (end_of u).lane (note_service h (end_of u).answer)
  good_end =
      end_cases u (λ d. Good d.lane (note_service h d.answer)) (λ r. good_other)
      (λ b.
      let x = queue_end (queue_good u h g) in
      record {
        kept = kept_end g.kept g.paced b h.calls;
        ordered = x.ordered;
        paced = paced_end g.kept g.paced b h.calls;
        terms = x.terms;
      })
