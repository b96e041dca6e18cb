-- The class lane's state, the packet that a begin takes, and the conditions under which each call is refused.
use Rattle.std.specs.Prelude.{Bool, false, List, [], ◌∷◌}
use Rattle.units.specs.Limits.{place_count}
use Rattle.units.specs.Refusals.{Ground}
use Rattle.units.specs.declared.Refusal.TheVariants.{TagsUsedUp, PacketInService, NothingWaits}
use Rattle.places.specs.Places.{flow_of}
use Rattle.places.specs.Choice.{Choice, nothing, at}
use Rattle.tags.specs.declared.Packet.{Packet}
use Rattle.packets.specs.Queue.{fresh_queue}
use Rattle.plans.specs.declared.Plan.{Plan}
use Rattle.tree.specs.Tree.{tree_of}
use Rattle.descent.specs.Descent.{flow_met}
use Rattle.ascent.specs.Ascent.{passes_for}
use Rattle.taking.specs.Taking.{lowest_of, is_none}
use Rattle.classes.specs.declared.Classes.{Classes}

-- the lane of a tree that is described, before any call
abbrev pub lane_of : Plan → Classes
lane_of p = record { tree = tree_of p; queue = fresh_queue }

-- the packet that a begin takes: of the flow that is met, the waiting one of least number
abbrev pub chosen : Classes → Choice Packet
chosen u = lowest_of u.queue (flow_met u.tree)

-- some finish on its way would pass the largest tag
abbrev pub beyond : Classes → Choice Packet → Bool
beyond u nothing = false
beyond u (at place p) = passes_for u.tree (flow_of place_count place) p.length

-- the refusals of begin, in the order in which they are given
abbrev pub begin_grounds : Classes → List Ground
begin_grounds u =
    (PacketInService, u.queue.service.busy)
    ∷ (NothingWaits, is_none (chosen u))
    ∷ (TagsUsedUp, beyond u (chosen u))
    ∷ []
