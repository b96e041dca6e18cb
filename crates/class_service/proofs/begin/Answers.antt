-- By what is taken, and by whether a finish would pass the largest tag.
use Rattle.std.proofs.Common.{◌≡◌, refl, sym, ◌∙◌}
use Rattle.places.specs.Choice.{at}
use Rattle.packets.specs.Kept.{Kept}
use Rattle.packets.specs.Calls.{begun}
use Rattle.descent.specs.Descent.{flow_met}
use Rattle.taking.specs.Taking.{take_of}
use Rattle.classes.proofs.Given.{begin_by}
use Rattle.class_service.proofs.begin.Goals as goal

pub returns-then-passes : goal.returns-then-passes
returns-then-passes c =
    let u = c.args.lane in
    let d : Kept = begun u.queue (at c.in-Ok.place c.in-Ok.packet) in
    let kept : d ≡ take_of u.queue (flow_met u.tree) = sym (rw c.flow_met-met.ensures at c.in-Ok.ensures.1) in
    rw c.refused.ensures (((begin_by u d kept).1 (λ r e. cc)).0 (sym c.passes.ensures ∙ c.if-passes.true))

pub returns-else-passes : goal.returns-else-passes
returns-else-passes c =
    let u = c.args.lane in
    let d : Kept = begun u.queue (at c.in-Ok.place c.in-Ok.packet) in
    let kept : d ≡ take_of u.queue (flow_met u.tree) = sym (rw c.flow_met-met.ensures at c.in-Ok.ensures.1) in
    rw (c.begin-tree.ensures, c.flow_node.ensures, c.serve.ensures.queue) (((begin_by u d kept).1 (λ r e. cc)).1 (sym c.passes.ensures ∙ c.if-passes.false))

pub returns-in-Err : goal.returns-in-Err
returns-in-Err c =
    let u = c.args.lane in
    let kept = sym (rw c.flow_met-met.ensures at c.in-Err.ensures) in
    rw c.refused-in-Err.ensures ((begin_by u _ kept).0 c.in-Err.refusal refl)
