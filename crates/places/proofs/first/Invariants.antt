-- `first` meets its contract: before each place the best is that of the places before it.
use Rattle.places.proofs.Scan.{Best}
use Rattle.places.proofs.first.Given as goal

abbrev pub invariant-loop-place : goal.invariant-loop-place
invariant-loop-place g l = Best (g.R.Ranking.held l.ranking) (g.R.Ranking.key l.ranking) l.places l.place l.best
