-- S4 in the fair lane: what a call is refused for, read off the calls and answers so far and not off the lane.
use Rattle.std.specs.Prelude.{◌≡◌, ◌||◌, List, [], ◌∷◌, ◌++◌, ℕ, ltb}
use Rattle.units.specs.Limits.{tag_limit}
use Rattle.units.specs.Refusals.{Ground, first_of}
use Rattle.units.specs.declared.Refusal.TheVariants.{TagsUsedUp}
use Rattle.packets.specs.Answers.{refusal_in}
use Rattle.fair.specs.declared.Fair.{Fair}
use Rattle.fair.specs.Calls.{open_of, close_of, offer_of, begin_of, end_of}
use Rattle.promises_queue.specs.Packets.{Packets}
use Rattle.promises_queue.specs.Promised.{accepted_of}
use Rattle.promises_queue.specs.Refused.{opening_noted, closing_noted, waiting_noted, begin_noted, end_noted}
use Rattle.promises_fair.specs.Promised.{finish_tag}

-- an offer: what needs no tag, then a finish tag or a number that would pass the largest tag
abbrev pub offering_noted : Packets → ℕ → ℕ → List Ground
offering_noted h flow length =
    waiting_noted h flow length ++ (TagsUsedUp, ltb tag_limit (finish_tag h flow length) || ltb tag_limit (accepted_of h flow)) ∷ []

-- S4: each call is refused exactly as the calls and answers so far tell.
pub record RefusedAsNoted (u : Fair) (h : Packets) : Type 0 where
  pub opening : (flow weight : ℕ) → refusal_in (open_of u flow weight).answer ≡ first_of (opening_noted h flow weight)
  pub closing : (flow : ℕ) → refusal_in (close_of u flow).answer ≡ first_of (closing_noted h flow)
  pub offering : (flow length : ℕ) → refusal_in (offer_of u flow length).answer ≡ first_of (offering_noted h flow length)
  pub beginning : refusal_in (begin_of u).answer ≡ first_of (begin_noted h)
  pub ending : refusal_in (end_of u).answer ≡ first_of (end_noted h)
