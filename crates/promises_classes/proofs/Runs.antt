-- What holds of a fresh lane and is kept by each call holds after every list of calls; and no class's virtual time falls.
use mathlib.Core.Path.{◌≡◌, refl}
use mathlib.Core.List.{List, [], ◌∷◌, ◌++◌}
use Prim.Native.Nat.{ℕ, ◌≤◌}
use native.Mathlib.Nat.{le_refl, le_trans}
use native.Mathlib.Omega.{arith}
use Rattle.packets.specs.Queue.{flow_at}
use Rattle.plans.specs.declared.Plan.{Plan}
use Rattle.plans.specs.Plans.{Fits}
use Rattle.tree.specs.Tree.{node_of, node_at}
use Rattle.classes.specs.declared.Classes.{Classes}
use Rattle.classes.specs.declared.Done.{Done}
use Rattle.classes.specs.declared.Call.{Call}
use Rattle.classes.specs.declared.Call.TheVariants.{Open, Close, Offer, Begin, End}
use Rattle.classes.specs.Lane.{lane_of}
use Rattle.classes.specs.Calls.{call_of}
use Rattle.classes.proofs.Cases.{open_cases, close_cases, offer_cases, begin_cases, end_cases}
use Rattle.promises_queue.proofs.Chosen.{place_flow}
use Rattle.promises_classes.specs.Events.{History, note}
use Rattle.promises_classes.specs.Rules.{virtual_time}
use Rattle.promises_classes.specs.Views.{seen}
use Rattle.promises_classes.specs.Run.{Run, after, run_from, run}
use Rattle.promises_classes.proofs.Times.{open_rises, close_rises, offer_rises, begin_rises, end_rises}
use Rattle.promises_classes.proofs.Waits.{offer_more, offer_others, begin_less, begin_others}
use Rattle.promises_classes.proofs.Good.{LaneGood, good_fresh, good_open, good_close, good_offer, begin_lowest, begin_known, begin_way, begin_free, good_begin, end_serves, end_known, good_end}

-- more calls go on from where the first ones have come to
run_on : (r : Run) (xs ys : List Call) → run_from r (xs ++ ys) ≡ run_from (run_from r xs) ys
unfolding run_from
run_on r [] ys = refl
run_on r (call ∷ xs) ys = run_on (after r call) xs ys

module _ (p : Plan) (ok : Fits p) where
  -- no class's virtual time falls from one history to another
  abbrev Rises : History → History → Type 0
  Rises h k = (c : ℕ) → virtual_time (seen p c h) ≤ virtual_time (seen p c k)

  module _ (u : Classes) (h : History) (g : LaneGood p u h) where
    -- what a call gives is good, and takes no virtual time back
    abbrev Goes : Call → Done → Type 0
    Goes call d = LaneGood p d.lane (note h call d.answer) × Rises h (note h call d.answer)

    -- a refused call does
    stays : LaneGood p u h × Rises h h
    stays = (g, λ c. le_refl (virtual_time (seen p c h)))

    -- each call does
    call_goes : (call : Call) → Goes call (call_of u call)
    call_goes (Open flow weight) =
        open_cases u (Goes (Open flow weight)) (λ r. stays) flow weight
        (λ low o good. (good_open p ok u h g flow weight low o good, open_rises p h flow weight))
    call_goes (Close flow) =
        close_cases u (Goes (Close flow)) (λ r. stays) flow (λ low none idle. (good_close p ok u h g flow low none idle, close_rises p h flow))
    call_goes (Offer flow bytes) =
        offer_cases u (Goes (Offer flow bytes)) (λ r. stays) flow bytes
        (λ low o good room. (
          good_offer p ok u h g flow bytes low o good room,
          offer_rises p ok h g.times flow (flow_at u.queue flow).next bytes (omega (arith, low))
              (offer_more u.queue h g.queue flow bytes (omega (arith, low)))
              (offer_others u.queue h g.queue flow bytes (omega (arith, low))),
        ))
    call_goes Begin =
        begin_cases u (Goes Begin) (λ r. stays)
        (λ idle place x e fits.
        let start = (node_at u.tree (node_of (place_flow place))).start in
        let held = (begin_lowest p ok u h g place x e).held in (
          good_begin p ok u h g place x e idle fits,
          begin_rises p ok h g.times (place_flow place) x.number x.length (begin_known p ok u h g place x e) start
              (begin_free p ok u h g place x e idle)
              (begin_less u.queue h g.queue place x held start)
              (begin_others u.queue h g.queue place x held start)
              (begin_way p ok u h g place x e),
        ))
    call_goes End =
        end_cases u (Goes End) (λ r. stays)
        (λ busy. (
          good_end p ok u h g busy,
          end_rises p ok h g.times u.queue.service.flow u.queue.service.number u.queue.service.length
              (end_known p ok u h g busy) (end_serves p ok u h g busy),
        ))

  -- so a call keeps a lane good
  pub call_good : (u : Classes) (h : History) → LaneGood p u h → (call : Call) → LaneGood p (call_of u call).lane (note h call (call_of u call).answer)
  call_good u h g call = (call_goes u h g call).0

  -- a run is good, and takes no virtual time back
  run_goes : (r : Run) → LaneGood p r.lane r.history → (calls : List Call)
      → LaneGood p (run_from r calls).lane (run_from r calls).history × Rises r.history (run_from r calls).history
  unfolding run_from
  run_goes r g [] = stays r.lane r.history g
  run_goes r g (call ∷ calls) =
      let a = call_goes r.lane r.history g call in
      let b = run_goes (after r call) a.0 calls in
      (b.0, λ c. le_trans (a.1 c) (b.1 c))

  -- so is every lane after a list of calls
  pub run_good : (calls : List Call) → LaneGood p (run p calls).lane (run p calls).history
  run_good calls = (run_goes (record { lane = lane_of p; history = [] }) (good_fresh p ok) calls).0

  -- and with more calls no virtual time falls
  pub run_rises : (xs ys : List Call) (c : ℕ) → virtual_time (seen p c (run p xs).history) ≤ virtual_time (seen p c (run p (xs ++ ys)).history)
  run_rises xs ys c =
      rw (run_on (record { lane = lane_of p; history = [] }) xs ys) ((run_goes (run p xs) (run_good xs) ys).1 c)
