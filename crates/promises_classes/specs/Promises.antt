-- The promises of the class lane, over every tree that keeps the rules and every list of calls, unless it says otherwise.
use Rattle.std.specs.Prelude.{◌≡◌, List, [], ◌++◌, ℕ, ◌<◌, ◌≤◌}
use Rattle.units.specs.Limits.{tag_limit}
use Rattle.units.specs.Refusals.{first_of}
use Rattle.packets.specs.Queue.{flow_at}
use Rattle.plans.specs.declared.Plan.{Plan}
use Rattle.plans.specs.Plans.{Fits}
use Rattle.classes.specs.declared.Call.{Call}
use Rattle.classes.specs.declared.Call.TheVariants.{Offer, Begin, End}
use Rattle.classes.specs.Lane.{lane_of}
use Rattle.classes.specs.Calls.{answers}
use Rattle.classes.specs.Answers.{refusal_in}
use Rattle.classes.specs.Laws.{AnsweredInKind, RefusedSame, RefusedFirst, GroundsInOrder}
use Rattle.planting.specs.Laws.{SetsUpRightly}
use Rattle.promises_queue.specs.Promised.{PlacesInOrder, PacketsNumbered, LastBegun, TermsStand}
use Rattle.promises_classes.specs.Events.{packets_in, as_queue}
use Rattle.promises_classes.specs.Rules.{virtual_time}
use Rattle.promises_classes.specs.Views.{seen}
use Rattle.promises_classes.specs.Promised.{RunsFair, BeginSettled, Counts, OfferNumbered}
use Rattle.promises_classes.specs.Refused.{grounds_noted}
use Rattle.promises_classes.specs.Answering.{answers_noted}
use Rattle.promises_classes.specs.Run.{run, answer_to}
use Rattle.one_class.specs.OneClass.{OneClassFair}

-- All that is promised.
pub record ClassPromises : Type 0 where
  -- T0: a tree is set up exactly where it keeps the rules; else it is refused with 27, and nothing is set up
  pub T0 : SetsUpRightly
  -- T1: a tree of one class is the fair lane
  pub T1 : OneClassFair
  -- T2: each class runs the fair rules among its children, by its own virtual time
  pub T2-tags : (p : Plan) → Fits p → (calls : List Call) (c : ℕ) → c < p.count → RunsFair p (run p calls).lane (run p calls).history c
  -- T2: and a begin is settled by going from a class to the child that goes first, until a flow is met
  pub T2-begin : (p : Plan) → Fits p → (calls : List Call) → BeginSettled p (run p calls).history (answer_to p calls Begin)
  -- T2: so the rules alone settle every answer: it is worked out from the tree, and from the calls and answers before it, and from no lane
  pub T2-answers : (p : Plan) → Fits p → (calls : List Call) → answers (lane_of p) calls ≡ answers_noted p [] calls
  -- T3, in every state: answered in kind; refused exactly for the first ground that holds, in the rules' order; a refusal changes nothing
  pub T3-kind : AnsweredInKind
  pub T3-same : RefusedSame
  pub T3-first : RefusedFirst
  pub T3-order : GroundsInOrder
  -- T3: and refused exactly as the calls and answers so far tell
  pub T3-noted :
      (p : Plan) → Fits p → (calls : List Call) (call : Call)
      → refusal_in (answer_to p calls call) ≡ first_of (grounds_noted p (run p calls).history call)
  -- T4: no packet is lost and none is made up: the places held are, packet for packet, those accepted and not begun; a flow's are begun in order
  pub T4-places : (p : Plan) → Fits p → (calls : List Call) → PlacesInOrder (run p calls).lane.queue (packets_in (run p calls).history)
  -- T4: and each class and each flow counts what waits below it
  pub T4-counts : (p : Plan) → Fits p → (calls : List Call) → Counts p (run p calls).lane (run p calls).history
  -- T5: packets are numbered in order, as each offer answers
  pub T5-offers :
      (p : Plan) → Fits p → (calls : List Call) (flow length : ℕ)
      → OfferNumbered (run p calls).history flow (answer_to p calls (Offer flow length))
  pub T5-numbers : (p : Plan) → Fits p → (calls : List Call) → PacketsNumbered (packets_in (run p calls).history).accepted
  -- T5: and no flow's next number comes near the end of its type
  pub T5-few : (p : Plan) → Fits p → (calls : List Call) (flow : ℕ) → flow < 16 → (flow_at (run p calls).lane.queue flow).next ≤ tag_limit
  -- T5: an end answers the packet last begun, and terms stand
  pub T5-ends : (p : Plan) → Fits p → (calls : List Call) → LastBegun (packets_in (run p calls).history).moments (as_queue (answer_to p calls End))
  pub T5-terms : (p : Plan) → Fits p → (calls : List Call) → TermsStand (packets_in (run p calls).history)
  -- T5: no class's virtual time ever falls
  pub T5-time :
      (p : Plan) → Fits p → (xs ys : List Call) (c : ℕ) → c < p.count
      → virtual_time (seen p c (run p xs).history) ≤ virtual_time (seen p c (run p (xs ++ ys)).history)
