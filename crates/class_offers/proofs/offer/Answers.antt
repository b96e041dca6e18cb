-- `offer` meets its contract: by the answer that the queue gave.
use Rattle.std.proofs.Common.{refl, sym, ◌∙◌, Some}
use Rattle.packets.specs.Calls.{put_of}
use Rattle.classes.specs.Calls.{untagged}
use Rattle.classes.proofs.Given.{offer_by, offer_back}
use Rattle.class_offers.proofs.offer.Goals as goal

pub returns-in-Refused : goal.returns-in-Refused
returns-in-Refused c =
    let a = c.args in
    rw c.put.ensures.queue
    (offer_back a.lane a.flow a.length (put_of a.lane.queue a.flow a.length (Some untagged)) refl c.in-Refused.refusal (sym c.put.ensures.answer ∙ c.in-Refused.is))

pub returns : goal.returns
returns c =
    let a = c.args in
    rw (c.put.ensures.queue, c.flow_at-number.ensures)
    ((offer_by a.lane a.flow a.length (put_of a.lane.queue a.flow a.length (Some untagged)) refl c.offer-tree.result c.offer-tree.ensures).1
    (λ r e. c.in_default.not-Refused r (c.put.ensures.answer ∙ e)))
