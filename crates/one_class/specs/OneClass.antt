-- The fair lane and a tree of one class, side by side.
use Rattle.std.specs.Prelude.{◌≡◌, List, [], ◌∷◌, map, Some}
use Rattle.units.specs.declared.Refusal.TheVariants.{TagsUsedUp}
use Rattle.places.specs.Members.{Each}
use Rattle.packets.specs.declared.Answer.{Answer as FairAnswer}
use Rattle.packets.specs.declared.Answer.TheVariants.{Refused as FairRefused, Opened as FairOpened, Closed as FairClosed, Accepted, Begun as FairBegun, Ended as FairEnded}
use Rattle.packets.specs.Answers.{refusal_in as fair_refusal}
use Rattle.fair.specs.declared.Fair.{Fair}
use Rattle.fair.specs.declared.Done.{Done}
use Rattle.fair.specs.Lane.{fresh_lane}
use Rattle.fair.specs.Calls.{open_of, close_of, offer_of, begin_of, end_of}
use Rattle.plans.specs.declared.Plan.{Plan}
use Rattle.plans.specs.Plans.{Fits}
use Rattle.classes.specs.declared.Call.{Call}
use Rattle.classes.specs.declared.Call.TheVariants.{Open, Close, Offer, Begin, End}
use Rattle.classes.specs.declared.Answer.{Answer}
use Rattle.classes.specs.declared.Answer.TheVariants.{Refused, Opened, Closed, Taken, Begun, Ended}
use Rattle.classes.specs.Lane.{lane_of}
use Rattle.classes.specs.Calls.{answers}
use Rattle.classes.specs.Answers.{refusal_in}

-- the same call of the fair lane
abbrev pub fair_of : Fair → Call → Done
fair_of v (Open flow weight) = open_of v flow weight
fair_of v (Close flow) = close_of v flow
fair_of v (Offer flow length) = offer_of v flow length
fair_of v Begin = begin_of v
fair_of v End = end_of v

-- the answers to all calls of a list
unfoldable pub fair_answers : Fair → List Call → List FairAnswer
fair_answers v [] = []
fair_answers v (call ∷ calls) = (fair_of v call).answer ∷ fair_answers (fair_of v call).lane calls

-- an answer of the fair lane as the class lane gives it: of an accepted packet the number alone
abbrev pub as_class : FairAnswer → Answer
as_class (FairRefused r) = Refused r
as_class FairOpened = Opened
as_class FairClosed = Closed
as_class (Accepted number start finish) = Taken number
as_class (FairBegun flow number length start) = Begun flow number length start
as_class (FairEnded flow number length) = Ended flow number length

-- T1: over calls of which neither lane answers 6 to any, a tree of one class, of whatever weight, gives the fair lane's answers: the numbers, the
-- begins with their starts, the ends, and the refusals.
abbrev pub OneClassFair : Type 0
OneClassFair =
    (p : Plan) → Fits p → p.count ≡ 1 → (calls : List Call)
    → Each (λ (a : FairAnswer). fair_refusal a ≡ Some TagsUsedUp → ⊥) (fair_answers fresh_lane calls)
    → Each (λ (a : Answer). refusal_in a ≡ Some TagsUsedUp → ⊥) (answers (lane_of p) calls)
    → answers (lane_of p) calls ≡ map as_class (fair_answers fresh_lane calls)
