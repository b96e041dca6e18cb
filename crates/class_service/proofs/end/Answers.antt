-- By the answer that the queue gave.
use Rattle.std.proofs.Common.{refl, sym, ◌∙◌}
use Rattle.packets.specs.Calls.{end_of as end_in}
use Rattle.classes.proofs.Given.{end_by, end_back}
use Rattle.class_service.proofs.end.Goals as goal

pub returns-in-Refused : goal.returns-in-Refused
returns-in-Refused c =
    rw (c.refused.ensures, c.end.ensures.queue)
    (end_back c.args.lane (end_in c.args.lane.queue) refl c.in-Refused.refusal (sym c.end.ensures.answer ∙ c.in-Refused.is))

pub returns : goal.returns
returns c =
    rw c.end.ensures.queue
    ((end_by c.args.lane (end_in c.args.lane.queue) refl c.end-tree.result c.end-tree.ensures).1 (λ r e. c.in_default.not-Refused r (c.end.ensures.answer ∙ e)))
