-- What the calls keep of the class lane says of the promises, field by field; T3 as it is noted is in Noted.
use mathlib.Core.Path.{refl}
use mathlib.Core.List.{List, ◌++◌}
use Prim.Native.Nat.{ℕ, ◌≤◌, ◌<◌}
use native.Mathlib.Omega.{arith}
use Rattle.units.specs.Limits.{tag_limit}
use Rattle.places.proofs.Members.{some_map}
use Rattle.packets.specs.Queue.{flow_at}
use Rattle.plans.specs.declared.Plan.{Plan}
use Rattle.plans.specs.Plans.{Fits}
use Rattle.classes.specs.declared.Classes.{Classes}
use Rattle.classes.specs.declared.Call.{Call}
use Rattle.classes.specs.declared.Call.TheVariants.{Offer, Begin, End}
use Rattle.classes.specs.Calls.{call_of}
use Rattle.classes.proofs.Cases.{offer_cases, begin_cases, end_cases}
use Rattle.promises_queue.specs.Packets.{Moment}
use Rattle.promises_queue.specs.Promised.{PlacesInOrder, PacketsNumbered, LastBegun, TermsStand}
use Rattle.promises_queue.proofs.Chosen.{place_flow, unbegun}
use Rattle.promises_queue.proofs.Account.{places_in_order, served_last}
use Rattle.promises_classes.specs.Events.{History, packets_in, as_queue}
use Rattle.promises_classes.specs.Rules.{virtual_time}
use Rattle.promises_classes.specs.Views.{seen}
use Rattle.promises_classes.specs.Promised.{RunsFair, BeginSettled, Counts, OfferNumbered}
use Rattle.promises_classes.specs.Run.{run, answer_to}
use Rattle.promises_classes.proofs.Kept.{counted}
use Rattle.promises_classes.proofs.Descents.{start_told_lem}
use Rattle.promises_classes.proofs.Good.{LaneGood, next_low, begin_lowest, begin_known, begin_way, begin_next, begin_there}
use Rattle.promises_classes.proofs.Runs.{run_good, run_rises}

module _ (p : Plan) (ok : Fits p) (u : Classes) (h : History) (g : LaneGood p u h) where
  -- a begin is settled
  begin_settled : BeginSettled p h (call_of u Begin).answer
  begin_settled =
      begin_cases u (λ d. BeginSettled p h d.answer) (λ r. tt)
      (λ idle place x e fits.
      let held = (begin_lowest p ok u h g place x e).held in
      let known = begin_known p ok u h g place x e in
      record {
        known = known;
        way = begin_way p ok u h g place x e;
        packet =
            some_map _ _ (λ a t. (rw (t.0, t.1, unbegun g.queue.kept place x held) refl, t.0, t.1, t.2)) (packets_in h).accepted
            (begin_there p ok u h g place x e);
        lowest = begin_next p ok u h g place x e;
        start_told = start_told_lem p ok u h g.tree (place_flow place) known;
      })

  -- an offer answers how many of the flow were accepted before
  offer_numbered : (flow length : ℕ) → OfferNumbered h flow (call_of u (Offer flow length)).answer
  offer_numbered flow length =
      offer_cases u (λ d. OfferNumbered h flow d.answer) (λ r. tt) flow length (λ low o good room. g.queue.kept.next flow (omega (arith, low)))

  -- an end answers the packet last begun
  end_last : LastBegun (packets_in h).moments (as_queue (call_of u End).answer)
  end_last =
      end_cases u (λ d. LastBegun (packets_in h).moments (as_queue d.answer)) (λ r. refusal (packets_in h).moments) (λ busy. served_last g.queue busy)
    where
      refusal : (ms : List Moment) → Unit {0}
      refusal ms = tt

-- T2: each class runs the fair rules among its children, by its own virtual time
pub t2_tags : (p : Plan) → Fits p → (calls : List Call) (c : ℕ) → c < p.count → RunsFair p (run p calls).lane (run p calls).history c
t2_tags p ok calls = (run_good p ok calls).tree.fair

-- T2: a begin is settled by going from a class to the child that goes first
pub t2_begin : (p : Plan) → Fits p → (calls : List Call) → BeginSettled p (run p calls).history (answer_to p calls Begin)
t2_begin p ok calls = begin_settled p ok (run p calls).lane (run p calls).history (run_good p ok calls)

-- T4: the places held are the packets that wait, and a flow's are begun in order
pub t4_places : (p : Plan) → Fits p → (calls : List Call) → PlacesInOrder (run p calls).lane.queue (packets_in (run p calls).history)
t4_places p ok calls = places_in_order (run_good p ok calls).queue

-- T4: each class and each flow counts what waits below it
pub t4_counts : (p : Plan) → Fits p → (calls : List Call) → Counts p (run p calls).lane (run p calls).history
t4_counts p ok calls = counted p (run p calls).lane (run p calls).history (run_good p ok calls).tree

-- T5: an offer answers how many of the flow were accepted before
pub t5_offers : (p : Plan) → Fits p → (calls : List Call) (flow length : ℕ) → OfferNumbered (run p calls).history flow (answer_to p calls (Offer flow length))
t5_offers p ok calls = offer_numbered p ok (run p calls).lane (run p calls).history (run_good p ok calls)

-- T5: packets are numbered in order
pub t5_numbers : (p : Plan) → Fits p → (calls : List Call) → PacketsNumbered (packets_in (run p calls).history).accepted
t5_numbers p ok calls = (run_good p ok calls).queue.ordered.numbered

-- T5: no flow's next number comes near the end of its type
pub t5_few : (p : Plan) → Fits p → (calls : List Call) (flow : ℕ) → flow < 16 → (flow_at (run p calls).lane.queue flow).next ≤ tag_limit
t5_few p ok calls = next_low p ok (run p calls).lane (run p calls).history (run_good p ok calls)

-- T5: an end answers the packet last begun
pub t5_ends : (p : Plan) → Fits p → (calls : List Call) → LastBegun (packets_in (run p calls).history).moments (as_queue (answer_to p calls End))
t5_ends p ok calls = end_last p ok (run p calls).lane (run p calls).history (run_good p ok calls)

-- T5: terms stand
pub t5_terms : (p : Plan) → Fits p → (calls : List Call) → TermsStand (packets_in (run p calls).history)
t5_terms p ok calls = (run_good p ok calls).queue.terms

-- T5: no class's virtual time ever falls
pub t5_time : (p : Plan) → Fits p → (xs ys : List Call) (c : ℕ) → c < p.count
    → virtual_time (seen p c (run p xs).history) ≤ virtual_time (seen p c (run p (xs ++ ys)).history)
t5_time p ok xs ys c l = run_rises p ok xs ys c
