-- The packet is put with the quote of its flow's record and of virtual time.
use Rattle.std.proofs.Common.{sym, ap}
use Rattle.fair.specs.declared.Done.{Done}
use Rattle.fair.proofs.Calls.{offers}
use Rattle.fair.proofs.Fair.offer_at.Goals as goal

pub returns-clause-answer : goal.returns-clause-answer
returns-clause-answer c =
    rw (c.put.ensures.answer, c.quote_of-quote.ensures, c.flow_at.ensures) (sym (ap (λ (d : Done). d.answer) (offers c.args.self.now c.args.flow c.args.length)))

pub returns-clause-lane : goal.returns-clause-lane
returns-clause-lane c =
    rw (c.put.ensures.queue, c.quote_of-quote.ensures, c.flow_at.ensures) (sym (ap (λ (d : Done). d.lane) (offers c.args.self.now c.args.flow c.args.length)))
