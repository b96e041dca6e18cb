-- The class lane by its parts, so that another lane can differ from it in one of them.
use Rattle.std.specs.Prelude.{◌≡◌, Bool, List, [], ◌∷◌, ℕ}
use Rattle.units.specs.Limits.{place_count}
use Rattle.units.specs.Refusals.{first_of, unless}
use Rattle.units.specs.declared.Refusal.TheVariants.{NothingWaits}
use Rattle.places.specs.Places.{flow_of}
use Rattle.places.specs.Choice.{Choice, nothing, at}
use Rattle.tags.specs.declared.Packet.{Packet}
use Rattle.packets.specs.Queue.{flow_at, end_grounds}
use Rattle.packets.specs.Calls.{placed}
use Rattle.packets.specs.Calls.{begun as begun_in, ended as ended_in}
use Rattle.plans.specs.declared.Plan.{Plan}
use Rattle.tree.specs.declared.Tree.{Tree}
use Rattle.tree.specs.Tree.{node_of, node_at}
use Rattle.descent.specs.Descent.{flow_met}
use Rattle.ascent.specs.Ascent.{climb, way_up, offer_step, offer_top, begin_step, begin_top, end_step, end_top}
use Rattle.taking.specs.Taking.{lowest_of}
use Rattle.classes.specs.declared.Classes.{Classes}
use Rattle.classes.specs.declared.Done.{Done}
use Rattle.classes.specs.declared.Call.{Call}
use Rattle.classes.specs.declared.Call.TheVariants.{Open, Close, Offer, Begin, End}
use Rattle.classes.specs.declared.Answer.{Answer}
use Rattle.classes.specs.declared.Answer.TheVariants.{Taken, Begun, Ended}
use Rattle.classes.specs.Lane.{lane_of, begin_grounds}
use Rattle.classes.specs.Calls.{refused, done, open_of, close_of, offer_grounds, untagged, call_of}
use Rattle.promises_classes.specs.Events.{note}
use Rattle.promises_classes.specs.Run.{Run}

-- what a lane does at each child on the way up, at an offer, told whether a packet is in service, at a begin of a length, and at an end; and the flow
-- that its way down meets
pub record Parts : Type 0 where
  pub at_offer : Bool → Tree → ℕ → ℕ → Tree
  pub at_begin : ℕ → Tree → ℕ → ℕ → Tree
  pub at_end : Tree → ℕ → ℕ → Tree
  pub down : Tree → ℕ

-- those of the class lane
abbrev pub right : Parts
right = record { at_offer = λ busy. offer_step; at_begin = begin_step; at_end = end_step; down = flow_met }

-- an offer, a begin and an end, that go through
abbrev pub taken_by : Parts → Classes → ℕ → ℕ → Done
taken_by w u flow length =
    done (climb (w.at_offer u.queue.service.busy) offer_top way_up u.tree (node_of flow)) (placed u.queue flow length untagged).queue
    (Taken (flow_at u.queue flow).next)

abbrev pub begun_by : Parts → Classes → Choice Packet → Done
begun_by w u nothing = refused u NothingWaits
begun_by w u (at place p) =
    done (climb (w.at_begin p.length) begin_top way_up u.tree (node_of (flow_of place_count place))) (begun_in u.queue (at place p)).queue
    (Begun (flow_of place_count place) p.number p.length (node_at u.tree (node_of (flow_of place_count place))).start)

abbrev pub ended_by : Parts → Classes → Done
ended_by w u =
    done (climb w.at_end end_top way_up u.tree (node_of u.queue.service.flow)) (ended_in u.queue).queue
    (Ended u.queue.service.flow u.queue.service.number u.queue.service.length)

-- each call, refused as by the class lane
abbrev pub call_by : Parts → Classes → Call → Done
call_by w u (Open flow weight) = open_of u flow weight
call_by w u (Close flow) = close_of u flow
call_by w u (Offer flow length) = unless (refused u) (first_of (offer_grounds u flow length)) (taken_by w u flow length)
call_by w u Begin = unless (refused u) (first_of (begin_grounds u)) (begun_by w u (lowest_of u.queue (w.down u.tree)))
call_by w u End = unless (refused u) (first_of (end_grounds u.queue)) (ended_by w u)

-- one call more, and all calls of a list
abbrev pub after_by : Parts → Run → Call → Run
after_by w r call = record { lane = (call_by w r.lane call).lane; history = note r.history call (call_by w r.lane call).answer }

unfoldable pub run_by : Parts → Run → List Call → Run
run_by w r [] = r
run_by w r (call ∷ calls) = run_by w (after_by w r call) calls

abbrev pub ran_by : Parts → Plan → List Call → Run
ran_by w p calls = run_by w (record { lane = lane_of p; history = [] }) calls

-- the answer to a begin after all calls of a list
abbrev pub begin_by : Parts → Plan → List Call → Answer
begin_by w p calls = (call_by w (ran_by w p calls).lane Begin).answer

-- The parts of the class lane make the class lane.
abbrev pub RightIsRight : Type 0
RightIsRight = (u : Classes) (call : Call) → call_by right u call ≡ call_of u call
