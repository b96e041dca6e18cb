-- `rate` meets its contract: the library's sum is the rules' rate.
use Rattle.std.proofs.Common.{◌≡◌, ◌/◌, ◌∙◌, map, rules}
use Rattle.std.specs.List.{sum}
use Rattle.link.specs.declared.Declaration.{Declaration}
use Rattle.admission.proofs.Steps.{rate_summed}
use Rattle.admission.proofs.rate.Goals as goal

pub returns : goal.returns
returns c =
    let e : c.sum.result ≡ sum (map (λ (d : Declaration). 5040 / d.period) c.args.list.now) = search rules in
    e ∙ rate_summed c.args.list.now
