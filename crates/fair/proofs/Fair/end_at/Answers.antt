-- By the answer that the queue gave, and by whether any packet waits.
use Rattle.std.proofs.Common.{◌≡◌, sym, ◌∙◌, ap, arith}
use Rattle.packets.specs.Queue.{waiting}
use Rattle.fair.specs.declared.Done.{Done}
use Rattle.fair.proofs.Calls.{ends, ends_not, drained, left}
use Rattle.fair.proofs.Fair.end_at.Goals as goal

pub returns-then-waiting-eq0-clause-answer : goal.returns-then-waiting-eq0-clause-answer
returns-then-waiting-eq0-clause-answer c =
    let told = ends c.args.self.now _ _ _ (sym c.end-answer.ensures.answer ∙ c.in-Ended.is) in
    rw (c.end-answer.ensures.answer) (sym (ap (λ (d : Done). d.answer) told.0))

pub returns-then-waiting-eq0-clause-lane : goal.returns-then-waiting-eq0-clause-lane
returns-then-waiting-eq0-clause-lane c =
    let u = c.args.self.now in
    let told = ends u _ _ _ (sym c.end-answer.ensures.answer ∙ c.in-Ended.is) in
    let none : waiting u.queue ≡ 0 = sym told.1 ∙ (sym (c.waiting.ensures ∙ ap waiting c.end-answer.ensures.queue) ∙ c.if-waiting-eq0.true) in
    rw (c.later-self.ensures, c.end-answer.ensures.queue) (sym (ap (λ (d : Done). d.lane) (rw (drained u none) at told.0)))

pub returns-else-waiting-eq0-clause-answer : goal.returns-else-waiting-eq0-clause-answer
returns-else-waiting-eq0-clause-answer c =
    let told = ends c.args.self.now _ _ _ (sym c.end-answer.ensures.answer ∙ c.in-Ended.is) in
    rw (c.end-answer.ensures.answer) (sym (ap (λ (d : Done). d.answer) told.0))

pub returns-else-waiting-eq0-clause-lane : goal.returns-else-waiting-eq0-clause-lane
returns-else-waiting-eq0-clause-lane c =
    let u = c.args.self.now in
    let told = ends u _ _ _ (sym c.end-answer.ensures.answer ∙ c.in-Ended.is) in
    let n : c.waiting.result ≡ waiting u.queue = c.waiting.ensures ∙ (ap waiting c.end-answer.ensures.queue ∙ told.1) in
    rw (c.later-self.ensures, c.end-answer.ensures.queue)
    (sym (ap (λ (d : Done). d.lane) (rw (left u (omega (arith, n, c.if-waiting-eq0.false))) at told.0)))

pub returns-in_default : goal.returns-in_default
returns-in_default c =
    let same = ends_not c.args.self.now (λ f n l e. c.in_default.not-Ended f n l (c.end-answer.ensures.answer ∙ e)) in
    record {
      answer = rw (c.end-answer.ensures.answer) (sym (ap (λ (d : Done). d.answer) same));
      lane = rw (c.end-answer.ensures.queue) (sym (ap (λ (d : Done). d.lane) same));
    }
