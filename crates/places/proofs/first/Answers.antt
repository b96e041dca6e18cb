-- One place more is the best where it goes before the best so far; else that stays.
use Rattle.std.proofs.Common.{sym, ◌∙◌, arith}
use Rattle.std.proofs.lemmas.Option.{IfSome_then}
use Rattle.places.proofs.Scan.{best_starts, best_new, best_kept, best_ends}
use Rattle.places.proofs.first.Goals as goal
use Rattle.places.proofs.first.Goals.{then-goes_first, else-goes_first}

pub loop-place-init : goal.loop-place-init
loop-place-init g c = best_starts (g.R.Ranking.held c.args.ranking.now) (g.R.Ranking.key c.args.ranking.now) c.args.places.now

pub loop-place-preserved : goal.loop-place-preserved
loop-place-preserved g c =
    let held = g.R.Ranking.held c.args.ranking.now in
    let key = g.R.Ranking.key c.args.ranking.now in
    let xs = c.args.places.now in
    let i = c.loop-place.place in
    let x = c.index-places-place.result in
    elim c.if-goes_first.branch [
      | then-goes_first w ↦ rw w.best-is (best_new held key xs i x c.loop-place.best (omega arith) c.index-places-place.is c.loop-place.invariant (sym c.goes_first.ensures ∙ w.if-goes_first.true))
      | else-goes_first w ↦ rw w.best-is (best_kept held key xs i x c.loop-place.best (omega arith) c.index-places-place.is c.loop-place.invariant (sym c.goes_first.ensures ∙ w.if-goes_first.false))
    ]

pub returns-clause-choice : goal.returns-clause-choice
returns-clause-choice g c =
    best_ends (g.R.Ranking.held c.args.ranking.now) (g.R.Ranking.key c.args.ranking.now) c.args.places.now c.loop-place.place c.loop-place.best (omega arith) c.loop-place.invariant

pub returns-clause-within : goal.returns-clause-within
returns-clause-within g c = IfSome_then c.loop-place.best c.loop-place.invariant.within (λ b h. omega arith)
