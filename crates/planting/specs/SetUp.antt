-- Setting up: what a description gives, over every lane.
use Rattle.std.specs.Prelude.{List, [], ◌∷◌, replicate, Ok, Err}
use Rattle.units.specs.Refusals.{Ground, first_of, unless}
use Rattle.units.specs.declared.Refusal.{Refusal}
use Rattle.units.specs.declared.Refusal.TheVariants.{BadTree}
use Rattle.plans.specs.declared.Plan.{Plan}
use Rattle.plans.specs.Plans.{broken}
use Rattle.classes.specs.declared.Classes.{Classes}
use Rattle.classes.specs.Lane.{lane_of}
use Rattle.planting.specs.declared.Planted.{Planted}

-- one class, of weight 1, and every flow in it
abbrev pub one_plan : Plan
one_plan = record { count = 1; parents = replicate 31 0; weights = replicate 31 1; classes = replicate 16 0 }

-- before any tree is described
abbrev pub fresh_lane : Classes
fresh_lane = lane_of one_plan

-- a refused description leaves the lane as it was
abbrev pub refused : Classes → Refusal → Planted
refused u r = record { lane = u; answer = Err r }

-- what setting up may be refused for
abbrev pub set_up_grounds : Plan → List Ground
set_up_grounds p = (BadTree, broken p) ∷ []

-- what setting up a tree that is described gives: a new lane with that tree, whatever the lane was
unfoldable pub set_up_of : Classes → Plan → Planted
set_up_of u p = unless (refused u) (first_of (set_up_grounds p)) (record { lane = lane_of p; answer = Ok tt })
