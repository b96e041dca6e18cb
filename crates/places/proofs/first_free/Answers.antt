-- A held place leaves the search where it was, a free one ends it.
use Rattle.std.proofs.Common.{sym, ◌∙◌, arith}
use Rattle.places.proofs.Counted.{free_beyond, free_here, none_free}
use Rattle.places.proofs.first_free.Goals as goal

pub loop-place-preserved : goal.loop-place-preserved
loop-place-preserved g c =
    free_beyond (g.R.Ranking.held c.args.ranking.now) c.args.places.now c.loop-place.place c.index-places-place.result (omega arith)
    c.index-places-place.is (sym c.waits.ensures ∙ c.if-not-waits.false) c.loop-place.invariant

pub returns-then-not-waits : goal.returns-then-not-waits
returns-then-not-waits g c = (
  free_here (g.R.Ranking.held c.args.ranking.now) c.args.places.now c.loop-place.place c.index-places-place.result (omega arith)
      c.index-places-place.is (sym c.waits.ensures ∙ c.if-not-waits.true) c.loop-place.invariant,
  omega arith,
)

pub returns : goal.returns
returns g c =
    none_free (g.R.Ranking.held c.args.ranking.now) c.args.places.now c.loop-place.place (omega arith) c.loop-place.invariant
