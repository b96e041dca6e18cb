-- No flow is passed yet, or one more is listed after so few.
use Rattle.std.proofs.Common.{refl, ◌∙◌, rules}
use Rattle.logging.specs.Logging.{listed}
use Rattle.logging.proofs.Lists.{count_few, one_more_lem}
use Rattle.logging.proofs.listing.listed.Goals as goal

pub loop-flow-init : goal.loop-flow-init
unfolding listed
loop-flow-init c = refl

pub add-requires : goal.add-requires
add-requires c =
    let l = c.loop-flow in
    (count_few c.args.numbers l.flow (search rules) (search rules) l.openings l.invariant, search rules)

pub loop-flow-preserved : goal.loop-flow-preserved
loop-flow-preserved c =
    let l = c.loop-flow in
    c.add.ensures ∙ one_more_lem c.args.numbers l.flow (search rules) (search rules) l.openings l.invariant
