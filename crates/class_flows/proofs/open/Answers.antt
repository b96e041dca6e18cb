-- `open` meets its contract: by the answer that the queue gave.
use Rattle.std.proofs.Common.{refl, sym, ◌∙◌}
use Rattle.packets.specs.Calls.{open_of as open_in}
use Rattle.classes.proofs.Given.{open_by, open_back}
use Rattle.class_flows.proofs.open.Goals as goal

pub returns-in-Refused : goal.returns-in-Refused
returns-in-Refused c =
    let a = c.args in
    rw c.open.ensures.flows (open_back a.lane a.flow a.weight (open_in a.lane.queue a.flow a.weight) refl c.in-Refused.refusal (sym c.open.ensures.answer ∙ c.in-Refused.is))

pub returns : goal.returns
returns c =
    let a = c.args in
    rw c.open.ensures.flows
    ((open_by a.lane a.flow a.weight (open_in a.lane.queue a.flow a.weight) refl c.weigh-tree.result c.weigh-tree.ensures).1
    (λ r e. c.in_default.not-Refused r (c.open.ensures.answer ∙ e)))
