-- `close` meets its contract: by the answer that the queue gave.
use Rattle.std.proofs.Common.{refl, sym, ◌∙◌}
use Rattle.packets.specs.Calls.{close_of as close_in}
use Rattle.classes.proofs.Given.{close_by, close_back}
use Rattle.class_flows.proofs.close.Goals as goal

pub returns-in-Refused : goal.returns-in-Refused
returns-in-Refused c =
    let a = c.args in
    rw c.close.ensures.flows (close_back a.lane a.flow (close_in a.lane.queue a.flow) refl c.in-Refused.refusal (sym c.close.ensures.answer ∙ c.in-Refused.is))

pub returns-in_default : goal.returns-in_default
returns-in_default c =
    let a = c.args in
    rw c.close.ensures.flows ((close_by a.lane a.flow (close_in a.lane.queue a.flow) refl).1 (λ r e. c.in_default.not-Refused r (c.close.ensures.answer ∙ e)))
