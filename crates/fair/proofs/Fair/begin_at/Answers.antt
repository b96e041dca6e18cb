-- By the answer that the queue gave, in which virtual time stands.
use Rattle.std.proofs.Common.{sym, ◌∙◌, ap}
use Rattle.fair.specs.declared.Done.{Done}
use Rattle.fair.proofs.Calls.{begins, begins_not}
use Rattle.fair.proofs.Fair.begin_at.Goals as goal

pub returns-in-Begun-clause-answer : goal.returns-in-Begun-clause-answer
returns-in-Begun-clause-answer c =
    let told = sym c.begin-answer.ensures.answer ∙ c.in-Begun.is in
    rw (← c.in-Begun.is, c.begin-answer.ensures.answer) (sym (ap (λ (d : Done). d.answer) (begins c.args.self.now _ _ _ _ told)))

pub returns-in-Begun-clause-lane : goal.returns-in-Begun-clause-lane
returns-in-Begun-clause-lane c =
    let told = sym c.begin-answer.ensures.answer ∙ c.in-Begun.is in
    rw (c.begin-answer.ensures.queue) (sym (ap (λ (d : Done). d.lane) (begins c.args.self.now _ _ _ _ told)))

pub returns-in_default : goal.returns-in_default
returns-in_default c =
    let same = begins_not c.args.self.now (λ f n l s e. c.in_default.not-Begun f n l s (c.begin-answer.ensures.answer ∙ e)) in
    record {
      answer = rw (c.begin-answer.ensures.answer) (sym (ap (λ (d : Done). d.answer) same));
      lane = rw (c.begin-answer.ensures.queue) (sym (ap (λ (d : Done). d.lane) same));
    }
