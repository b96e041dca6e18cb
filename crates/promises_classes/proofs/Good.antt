-- All that the calls keep of the class lane, in one record: what they keep of its tree, of its queue and of the times, that every flow keeps
-- pace, and that every accepted packet is of a flow that there is and of a good length. It holds of a fresh lane, and each call keeps it.
use mathlib.Core.Path.{◌≡◌, refl, sym, ◌∙◌, ap}
use mathlib.Core.Bool.{true, false, false≢true}
use mathlib.Core.List.{List, [], ◌∷◌}
use Prim.Native.Nat.{ℕ, ◌≤◌, ◌<◌}
use native.Mathlib.Omega.{arith}
use borrow.Author.Tests.{eqb-true}
use Rattle.units.specs.Limits.{tag_limit, bad_weight, bad_length}
use Rattle.units.proofs.Limits.{inside}
use Rattle.places.specs.Members.{Each, Any}
use Rattle.places.specs.Choice.{at}
use Rattle.places.proofs.Members.{some_gives, some_both}
use Rattle.places.proofs.Numbers.{some_below}
use Rattle.places.proofs.Tests.{eqb_self}
use Rattle.tags.specs.declared.Packet.{Packet as Place}
use Rattle.packets.specs.Queue.{flow_at, waiting_of, busy_with}
use Rattle.plans.specs.declared.Plan.{Plan}
use Rattle.plans.specs.Plans.{Fits}
use Rattle.tree.specs.Tree.{node_of, node_at}
use Rattle.descent.specs.Descent.{flow_met}
use Rattle.ascent.specs.Ascent.{passes_for}
use Rattle.classes.specs.declared.Classes.{Classes}
use Rattle.classes.specs.Lane.{lane_of, chosen}
use Rattle.classes.specs.Calls.{opened, closed, taken, begun, ended, untagged}
use Rattle.promises_queue.specs.Packets.{Packet, Moment, its_flow, its_number, began as was_begun, ceased as was_ended, in_service, serving, weight_in}
use Rattle.promises_queue.specs.Promised.{begun_of, PacketsNumbered}
use Rattle.promises_queue.proofs.Kept.{Known, busy_told, serving_told}
use Rattle.promises_queue.proofs.Chosen.{place_flow, AtPlace, held_there, unbegun}
use Rattle.promises_queue.proofs.Good.{QueueGood, queue_fresh, queue_open, queue_close, queue_put, queue_begin, queue_start, queue_end}
use Rattle.promises_classes.specs.Events.{History, opened as was_opened, closed as was_closed, accepted, began, ceased, packets_in}
use Rattle.promises_classes.specs.Views.{way_to}
use Rattle.promises_classes.specs.Promised.{GoesFirst}
use Rattle.promises_classes.proofs.Kept.{TreeKept}
use Rattle.promises_classes.proofs.Fresh.{tree_fresh}
use Rattle.promises_classes.proofs.Flows.{open_kept, close_kept}
use Rattle.promises_classes.proofs.Offered.{offer_kept}
use Rattle.promises_classes.proofs.Begun.{begin_kept}
use Rattle.promises_classes.proofs.Ended.{end_kept}
use Rattle.promises_classes.proofs.Descents.{met_first}
use Rattle.promises_classes.proofs.Times.{TimesKept, times_fresh, open_times, close_times, offer_times, begin_times, end_times}
use Rattle.promises_classes.proofs.Lowest.{Lowest, lowest_is, lowest_next}
use Rattle.promises_classes.proofs.Paces.{Paced, fresh_paced, open_paced, close_paced, offer_paced, begin_paced, end_paced}
use Rattle.promises_classes.proofs.Fitting.{fits_flow}
use Rattle.promises_classes.proofs.Waits.{few, next_few, offer_more, offer_others, begin_less, begin_others}

-- an accepted packet is of a flow that there is and of a good length
abbrev pub Proper : Packet → Type 0
Proper a = (a.flow < 16) × (bad_length a.length ≡ false)

-- what the calls keep of the class lane
pub record LaneGood (p : Plan) (u : Classes) (h : History) : Type 0 where
  pub tree : TreeKept p u h
  pub queue : QueueGood u.queue (packets_in h)
  pub times : TimesKept p h
  pub paced : (f : ℕ) → f < 16 → Paced p h f
  pub proper : Each Proper (packets_in h).accepted

-- it holds before any call
pub good_fresh : (p : Plan) → Fits p → LaneGood p (lane_of p) []
unfolding packets_in
good_fresh p ok =
    record { tree = tree_fresh p ok; queue = queue_fresh; times = times_fresh p; paced = λ f l. fresh_paced p f; proper = tt }

-- a packet in service is of a flow that there is
served_known : (ps : List Packet) (ms : List Moment) → PacketsNumbered ps → Known ps ms → Each Proper ps → (f : ℕ) → serving ms f ≡ true → f < 16
served_known ps [] k n e f s = absurd (false≢true s)
served_known ps (was_begun i m l b q ∷ ms) k n e f s =
    some_gives _ _ (λ a t. let x = t.0.0 in let y = t.1.0 in let z = eqb-true i f s in omega (arith, x, y, z)) ps
    (some_both _ _ ps (some_below its_flow its_number i m ps k n) e)
served_known ps (was_ended i m l q d w ∷ ms) k n e f s = absurd (false≢true s)

module _ (p : Plan) (ok : Fits p) (u : Classes) (h : History) (g : LaneGood p u h) where
  -- a flow is opened
  pub good_open : (flow weight : ℕ) → flow ≤ 15 → (flow_at u.queue flow).opened ≡ false → bad_weight weight ≡ false
      → LaneGood p (opened u flow weight).lane (was_opened flow weight ∷ h)
  unfolding packets_in
  good_open flow weight low o good =
      record {
        tree = open_kept p ok u h g.tree flow weight (omega (arith, low));
        queue = queue_open g.queue flow weight low o good;
        times = open_times p h g.times flow weight;
        paced = λ f l. open_paced p h flow weight f (g.paced f l);
        proper = g.proper;
      }

  -- a flow is closed
  pub good_close : (flow : ℕ) → flow ≤ 15 → waiting_of u.queue flow ≤ 0 → busy_with u.queue.service flow ≡ false
      → LaneGood p (closed u flow).lane (was_closed flow ∷ h)
  unfolding packets_in
  good_close flow low none idle =
      record {
        tree = close_kept p u h g.tree flow;
        queue = queue_close g.queue flow low none idle;
        times = close_times p h g.times flow;
        paced = λ f l. close_paced p h flow f (g.paced f l);
        proper = g.proper;
      }

  -- a flow's next number is far from the end of its type, since each begin moves the flow's finish on
  pub next_low : (flow : ℕ) → flow < 16 → (flow_at u.queue flow).next ≤ tag_limit
  next_low flow l =
      let a = next_few u.queue h g.queue flow l in
      let k = g.paced flow l in
      omega (arith, a, k.reach, k.low)

  -- a packet is offered
  module _ (flow bytes : ℕ) (low : flow ≤ 15) (o : (flow_at u.queue flow).opened ≡ true) (good : bad_length bytes ≡ false) (room : waiting_of u.queue flow < 16) where
    -- an offer keeps it
    pub good_offer : LaneGood p (taken u flow bytes).lane (accepted flow (flow_at u.queue flow).next bytes ∷ h)
    unfolding packets_in
    good_offer =
        let l : flow < 16 = omega (arith, low) in
        let more = offer_more u.queue h g.queue flow bytes l in
        let others = offer_others u.queue h g.queue flow bytes l in
        record {
          tree = offer_kept p ok u h g.tree flow (flow_at u.queue flow).next bytes l (few u.queue h g.queue) more others;
          queue = queue_put g.queue flow bytes untagged low o room (next_low flow l);
          times = offer_times p ok h g.times flow (flow_at u.queue flow).next bytes l more others;
          paced = offer_paced p ok h flow (flow_at u.queue flow).next bytes l g.paced others;
          proper = ((l, good), g.proper);
        }

  -- the packet that a begin takes
  module _ (place : ℕ) (x : Place) (e : chosen u ≡ at place x) where
    -- it is the flow's of least number
    pub begin_lowest : Lowest u.queue (flow_met u.tree) place x
    begin_lowest = lowest_is u.queue g.queue.kept.long (flow_met u.tree) place x e

    -- of a flow that there is
    pub begin_known : place_flow place < 16
    begin_known = rw begin_lowest.own begin_lowest.known

    -- every child on whose way goes first
    pub begin_way : Each (GoesFirst p h) (way_to p (place_flow place))
    begin_way = met_first p ok u h g.tree (place_flow place) begin_known (sym begin_lowest.own)

    -- its number is how many of the flow were begun
    pub begin_next : x.number ≡ begun_of (packets_in h).moments (place_flow place)
    begin_next = rw begin_lowest.own (lowest_next g.queue begin_lowest)

    -- it was accepted
    pub begin_there : Any (AtPlace place x) (packets_in h).accepted
    begin_there = held_there g.queue.kept place x begin_lowest.held

    -- with a good length
    pub begin_length : bad_length x.length ≡ false
    begin_length =
        some_gives _ _ (λ a t. ap bad_length (sym t.0.2) ∙ t.1.1) (packets_in h).accepted
        (some_both _ _ (packets_in h).accepted begin_there g.proper)

    -- and its flow is open, so has a weight
    begin_weight : bad_weight (weight_in (packets_in h) (place_flow place)) ≡ false
    begin_weight =
        some_gives _ _
        (λ a t.
        let z = unbegun g.queue.kept place x begin_lowest.held in
        g.queue.kept.fit (place_flow place) (rw t.0.0 at (t.1 (rw (t.0.0, t.0.1, z) refl)).0))
        (packets_in h).accepted (some_both _ _ (packets_in h).accepted begin_there g.queue.terms)

    -- with nothing in service
    module _ (idle : u.queue.service.busy ≡ false) where
      -- nothing is, as the moments tell
      pub begin_free : in_service (packets_in h).moments ≡ false
      begin_free = sym (busy_told u.queue.service (packets_in h).accepted (packets_in h).moments g.queue.kept.service) ∙ idle

      -- a begin of it keeps that, where it fits
      pub good_begin : passes_for u.tree (place_flow place) x.length ≡ false → LaneGood p (begun u (at place x)).lane
          (began (place_flow place) x.number x.length (node_at u.tree (node_of (place_flow place))).start ∷ h)
      unfolding packets_in
      good_begin fits =
          let start = (node_at u.tree (node_of (place_flow place))).start in
          let less = begin_less u.queue h g.queue place x begin_lowest.held start in
          let others = begin_others u.queue h g.queue place x begin_lowest.held start in
          record {
            tree = begin_kept p ok u h g.tree place x.number x start begin_known fits less others;
            queue =
                queue_start (place_flow place) x.number x.length x.start start
                (queue_begin g.queue place x begin_lowest.held begin_next);
            times = begin_times p ok h g.times (place_flow place) x.number x.length begin_known start begin_free less others begin_way;
            paced =
                begin_paced p ok h (place_flow place) x.number x.length begin_known g.paced start
                (λ f. sym (serving_told u.queue.service (packets_in h).accepted (packets_in h).moments g.queue.kept.service f) ∙ rw idle refl)
                (omega (arith, less)) others (inside x.length 1500 begin_length).0 begin_weight
                (fits_flow p ok u h g.tree x.length begin_length (place_flow place) begin_known fits);
            proper = g.proper;
          }

  -- the packet in service is ended
  module _ (busy : u.queue.service.busy ≡ true) where
    -- the flow in service
    abbrev flow : ℕ
    flow = u.queue.service.flow

    -- it is served as the moments tell
    pub end_serves : serving (packets_in h).moments u.queue.service.flow ≡ true
    end_serves =
        sym (serving_told u.queue.service (packets_in h).accepted (packets_in h).moments g.queue.kept.service flow)
        ∙ rw (busy, eqb_self u.queue.service.flow) refl

    -- and is one that there is
    pub end_known : u.queue.service.flow < 16
    end_known =
        served_known (packets_in h).accepted (packets_in h).moments g.queue.ordered.numbered g.queue.ordered.known g.proper flow end_serves

    -- an end keeps it
    pub good_end : LaneGood p (ended u).lane (ceased u.queue.service.flow u.queue.service.number u.queue.service.length ∷ h)
    unfolding packets_in
    good_end =
        let n = u.queue.service.number in
        let l = u.queue.service.length in
        record {
          tree = end_kept p ok u h g.tree flow n l end_known refl;
          queue = queue_end g.queue;
          times = end_times p ok h g.times flow n l end_known end_serves;
          paced = end_paced p ok h flow n l end_known g.paced end_serves;
          proper = g.proper;
        }
