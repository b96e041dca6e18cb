-- The class lane by its parts: each call is the lane's own.
use mathlib.Core.Path.{◌≡◌, refl, ap}
use Rattle.units.specs.Refusals.{first_of, unless}
use Rattle.places.specs.Choice.{Choice, nothing, at}
use Rattle.tags.specs.declared.Packet.{Packet}
use Rattle.ascent.specs.Ascent.{offered_to, begun_from, ended_from}
use Rattle.classes.specs.declared.Classes.{Classes}
use Rattle.classes.specs.declared.Call.TheVariants.{Open, Close, Offer, Begin, End}
use Rattle.classes.specs.Lane.{chosen, begin_grounds}
use Rattle.classes.specs.Calls.{refused, begun, open_of, close_of, offer_of, begin_of, end_of}
use Rattle.class_cases.specs.Parts.{RightIsRight, right, begun_by}

-- a begin of any choice
same_begun : (u : Classes) (c : Choice Packet) → begun_by right u c ≡ begun u c
unfolding begun_from
same_begun u nothing = refl
same_begun u (at place p) = refl

pub right_is_right : RightIsRight
unfolding open_of close_of offer_of begin_of end_of offered_to ended_from
right_is_right u (Open flow weight) = refl
right_is_right u (Close flow) = refl
right_is_right u (Offer flow length) = refl
right_is_right u Begin = ap (unless (refused u) (first_of (begin_grounds u))) (same_begun u (chosen u))
right_is_right u End = refl
