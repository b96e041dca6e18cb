-- `first_free` meets its contract: before each place the first free one is so many places on in the rest.
use Rattle.std.proofs.Common.{◌≡◌, ◌+◌, drop}
use Rattle.places.specs.Places.{first_free}
use Rattle.places.proofs.first_free.Given as goal

abbrev pub invariant-loop-place : goal.invariant-loop-place
invariant-loop-place g l =
    first_free (g.R.Ranking.held l.ranking) l.places ≡ l.place + first_free (g.R.Ranking.held l.ranking) (drop l.place l.places)
