-- All that the calls keep of a queue, in one record: it is what the calls and answers tell, what they tell is in order, and what waits or is
-- in service keeps its terms. It holds of a fresh queue, and each call that is not refused keeps it.
use mathlib.Core.Path.{◌≡◌, refl, sym, ap, ◌∙◌}
use mathlib.Core.Bool.{true, false, false≢true}
use Prim.Native.Nat.{ℕ, ◌≤◌, ◌<◌, zero-le}
use native.Mathlib.Omega.{arith}
use lib.ListN.{get_or-replicate}
use Rattle.units.specs.Limits.{tag_limit, bad_weight}
use Rattle.units.specs.declared.Tag.{Tag}
use Rattle.places.specs.Places.{count}
use Rattle.places.specs.Choice.{at}
use Rattle.places.specs.Marks.{opens, closes, open_in, in_force}
use Rattle.places.proofs.CountAt.{at_replicate}
use Rattle.tags.specs.declared.Flow.{Flow}
use Rattle.tags.specs.declared.Packet.{Packet as Place}
use Rattle.tags.specs.Tags.{free_packet, shut_flow}
use Rattle.packets.specs.declared.Queue.{Queue}
use Rattle.packets.specs.declared.Quote.{Quote}
use Rattle.packets.specs.declared.Answer.TheVariants.{Begun}
use Rattle.packets.specs.Queue.{fresh_queue, flow_at, waiting_of, busy_with}
use Rattle.packets.specs.Calls.{queue_with, opened, closed, placed, begun, ended}
use Rattle.promises_queue.specs.Packets.{Packets, no_packets, was_begun}
use Rattle.promises_queue.specs.Notes.{marked, note_offer, note_service}
use Rattle.promises_queue.specs.Promised.{holds, begun_of, TermsStand}
use Rattle.promises_queue.proofs.Kept.{QueueKept, Ordered, serving_told, waiting_told}
use Rattle.promises_queue.proofs.Flows.{kept_open, kept_close}
use Rattle.promises_queue.proofs.Put.{kept_put, ordered_put}
use Rattle.promises_queue.proofs.Chosen.{place_flow, Holds, unbegun}
use Rattle.promises_queue.proofs.Began.{kept_begin, ordered_begin}
use Rattle.promises_queue.proofs.Ceased.{kept_end, ordered_end}
use Rattle.promises_queue.proofs.Terms.{terms_opened, terms_closed, terms_begin, terms_end}

-- what the calls keep of a queue
pub record QueueGood (q : Queue) (h : Packets) : Type 0 where
  pub kept : QueueKept q h.marks h.accepted h.moments
  pub ordered : Ordered h.accepted h.moments
  pub terms : TermsStand h

-- it holds before any call
pub queue_fresh : QueueGood fresh_queue no_packets
unfolding count open_in in_force begun_of
queue_fresh =
    record {
      kept =
          record {
            sixteen = refl;
            long = refl;
            open_flows = λ f b. ap (λ (x : Flow). x.opened) (get_or-replicate 16 f shut_flow shut_flow b);
            weights = λ f b. ap (λ (x : Flow). x.weight) (get_or-replicate 16 f shut_flow shut_flow b);
            fit = λ f o. absurd (false≢true o);
            next = λ f b. ap (λ (x : Flow). x.next) (get_or-replicate 16 f shut_flow shut_flow b);
            tied = λ ask. at_replicate (holds ask) free_packet (λ k. refl) 0 256;
            service = refl;
          };
      ordered = record { numbered = tt; in_order = tt; begun = λ f. zero-le; known = tt };
      terms = tt;
    }

module _ {q : Queue} {h : Packets} (g : QueueGood q h) where
  -- a flow is opened
  pub queue_open : (flow weight : ℕ) → flow ≤ 15 → (flow_at q flow).opened ≡ false → bad_weight weight ≡ false
      → QueueGood (queue_with q (opened q flow weight)) (marked h (opens flow weight))
  queue_open flow weight low o good =
      record {
        kept = kept_open g.kept flow low weight good;
        ordered = g.ordered;
        terms = terms_opened h g.terms flow weight (sym (g.kept.open_flows flow (omega arith)) ∙ o);
      }

  -- a flow is closed
  pub queue_close : (flow : ℕ) → flow ≤ 15 → waiting_of q flow ≤ 0 → busy_with q.service flow ≡ false
      → QueueGood (queue_with q (closed q flow)) (marked h (closes flow))
  queue_close flow low none idle =
      record {
        kept = kept_close g.kept flow low;
        ordered = g.ordered;
        terms =
            terms_closed h g.terms flow (omega (arith, sym (waiting_told g.kept flow (omega arith))))
            (sym (serving_told q.service h.accepted h.moments g.kept.service flow) ∙ idle);
      }

  -- a packet is put, with any tags
  pub queue_put : (flow bytes : ℕ) (quote : Quote) → flow ≤ 15 → (flow_at q flow).opened ≡ true → waiting_of q flow < 16 → (flow_at q flow).next ≤ tag_limit
      → QueueGood (placed q flow bytes quote).queue (note_offer h flow bytes (placed q flow bytes quote).answer)
  queue_put flow bytes quote low o room few =
      record {
        kept = kept_put g.kept g.ordered flow low bytes quote h.calls o room few;
        ordered = ordered_put g.kept g.ordered flow low bytes quote h.calls;
        terms = (λ w. (sym (g.kept.open_flows flow (omega arith)) ∙ o, refl), g.terms);
      }

  -- the packet at a held place is begun, the next of its flow
  pub queue_begin : (place : ℕ) (p : Place) → Holds q place p → p.number ≡ begun_of h.moments (place_flow place)
      → QueueGood (begun q (at place p)).queue (note_service h (begun q (at place p)).answer)
  queue_begin place p held next =
      record {
        kept = kept_begin g.kept g.ordered place p held h.calls;
        ordered = ordered_begin g.kept g.ordered place p held h.calls next;
        terms = terms_begin h g.terms _ _ _ _ _ (unbegun g.kept place p held);
      }

  -- the packet in service is ended
  pub queue_end : QueueGood (ended q).queue (note_service h (ended q).answer)
  queue_end =
      record {
        kept = kept_end g.kept h.calls;
        ordered = ordered_end q.service g.ordered h.calls;
        terms = terms_end h g.terms _ _ _ _ _ _;
      }

-- what is kept does not depend on the start tag that a begin is noted with
pub queue_start : {q : Queue} {h : Packets} (f n l : ℕ) (s z : Tag) → QueueGood q (note_service h (Begun f n l s)) → QueueGood q (note_service h (Begun f n l z))
unfolding was_begun begun_of
queue_start f n l s z g =
    let k = g.kept in
    record {
      kept =
          record {
            sixteen = k.sixteen;
            long = k.long;
            open_flows = k.open_flows;
            weights = k.weights;
            fit = k.fit;
            next = k.next;
            tied = k.tied;
            service = k.service;
          };
      ordered = record { numbered = g.ordered.numbered; in_order = g.ordered.in_order; begun = g.ordered.begun; known = g.ordered.known };
      terms = g.terms;
    }
