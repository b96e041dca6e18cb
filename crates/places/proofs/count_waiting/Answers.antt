-- What the list's own method answers is what the definition says.
use Rattle.std.proofs.Common.{rules, ◌≡◌, ◌∙◌}
use Rattle.std.specs.List.{count_by}
use Rattle.places.proofs.Counted.{count_by_count}
use Rattle.places.proofs.count_waiting.Goals as goal

pub returns : goal.returns
returns g c =
    let held = g.R.Ranking.held c.args.ranking.now in
    let e : c.count.result ≡ count_by (g.R.Ranking.held c.args.ranking.now) c.args.places.now = search rules in
    e ∙ count_by_count held c.args.places.now
