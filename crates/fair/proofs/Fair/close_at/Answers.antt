-- The lane has the flows that the queue gave.
use Rattle.std.proofs.Common.{sym, ap}
use Rattle.fair.specs.declared.Done.{Done}
use Rattle.fair.proofs.Calls.{closes}
use Rattle.fair.proofs.Fair.close_at.Goals as goal

pub returns-clause-answer : goal.returns-clause-answer
returns-clause-answer c = rw (c.close.ensures.answer) (sym (ap (λ (d : Done). d.answer) (closes c.args.self.now c.args.flow)))

pub returns-clause-lane : goal.returns-clause-lane
returns-clause-lane c = rw (c.close.ensures.flows) (sym (ap (λ (d : Done). d.lane) (closes c.args.self.now c.args.flow)))
