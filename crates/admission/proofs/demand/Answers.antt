-- `demand` meets its contract: the library's sum is the rules' demand, and it is small.
use Rattle.std.proofs.Common.{◌≡◌, ◌∙◌, map, rules}
use Rattle.std.specs.List.{sum}
use Rattle.link.specs.declared.Declaration.{Declaration}
use Rattle.link.specs.Demand.{demand_one}
use Rattle.admission.proofs.Steps.{demand_summed}
use Rattle.admission.proofs.Settled.{demand_fits}
use Rattle.admission.proofs.demand.Goals as goal

pub sum-requires-clause-fits : goal.sum-requires-clause-fits
sum-requires-clause-fits c =
    let small = demand_fits c.args.t c.args.list.now c.requires.few c.requires.short c.requires.tested in
    search (rules, small)

pub returns : goal.returns
returns c =
    let e : c.sum.result ≡ sum (map (λ (d : Declaration). demand_one d c.args.t) c.args.list.now) = search rules in
    e ∙ demand_summed c.args.t c.args.list.now
