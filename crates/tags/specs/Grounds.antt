-- The conditions under which a fair queue refuses an opening, a closing or an offer.
use Rattle.std.specs.Prelude.{Bool, not, ◌||◌, List, [], ◌∷◌, ◌++◌, ℕ, ltb, leb}
use Rattle.units.specs.Limits.{place_count, tag_limit, no_such_flow, bad_weight, bad_length}
use Rattle.units.specs.Refusals.{Ground}
use Rattle.units.specs.declared.Tag.{Tag}
use Rattle.units.specs.declared.Refusal.TheVariants.{NoSuchFlow, NotOpen, AlreadyOpen, PlacesFull, TagsUsedUp, FlowInUse, BadWeight, BadLength}
use Rattle.tags.specs.declared.Flow.{Flow}
use Rattle.tags.specs.Tags.{finish_at}

-- opening a flow of this number with a weight, over the flow's record
abbrev pub opening_grounds : ℕ → ℕ → Flow → List Ground
opening_grounds flow weight was =
    (NoSuchFlow, no_such_flow flow) ∷ (AlreadyOpen, was.opened) ∷ (BadWeight, bad_weight weight) ∷ []

-- closing a flow of which so many packets wait, and of which one may be in service
abbrev pub closing_grounds : ℕ → Flow → ℕ → Bool → List Ground
closing_grounds flow was waiting served =
    (NoSuchFlow, no_such_flow flow) ∷ (NotOpen, not was.opened) ∷ (FlowInUse, ltb 0 waiting || served) ∷ []

-- offering a packet of this length to a flow of which so many wait: what needs no tag
abbrev pub waiting_grounds : ℕ → Flow → ℕ → ℕ → List Ground
waiting_grounds flow was waiting length =
    (NoSuchFlow, no_such_flow flow)
    ∷ (NotOpen, not was.opened)
    ∷ (BadLength, bad_length length)
    ∷ (PlacesFull, leb place_count waiting)
    ∷ []

-- the packet's finish tag, or its number, would pass the largest
abbrev pub tag_ground : Flow → Tag → ℕ → Ground
tag_ground was start length = (TagsUsedUp, ltb tag_limit (finish_at start length was.weight) || ltb tag_limit was.next)

-- offering where tags are given at the offer
abbrev pub offering_grounds : ℕ → Flow → ℕ → Tag → ℕ → List Ground
offering_grounds flow was waiting start length = waiting_grounds flow was waiting length ++ tag_ground was start length ∷ []
