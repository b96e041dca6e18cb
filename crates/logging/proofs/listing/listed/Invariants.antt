-- `listed` meets its contract. The invariant: the openings of the flows passed are listed.
use Rattle.std.proofs.Common.{◌≡◌, take}
use Rattle.logging.specs.Listing.{openings_of}
use Rattle.logging.proofs.listing.listed.Given as goal

abbrev pub invariant-loop-flow : goal.invariant-loop-flow
invariant-loop-flow l = l.openings ≡ openings_of (take l.flow l.number-items)
