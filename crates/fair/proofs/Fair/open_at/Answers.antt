-- The lane has the flows that the queue gave.
use Rattle.std.proofs.Common.{sym, ap}
use Rattle.fair.specs.declared.Done.{Done}
use Rattle.fair.proofs.Calls.{opens}
use Rattle.fair.proofs.Fair.open_at.Goals as goal

pub returns-clause-answer : goal.returns-clause-answer
returns-clause-answer c = rw (c.open.ensures.answer) (sym (ap (λ (d : Done). d.answer) (opens c.args.self.now c.args.flow c.args.weight)))

pub returns-clause-lane : goal.returns-clause-lane
returns-clause-lane c = rw (c.open.ensures.flows) (sym (ap (λ (d : Done). d.lane) (opens c.args.self.now c.args.flow c.args.weight)))
