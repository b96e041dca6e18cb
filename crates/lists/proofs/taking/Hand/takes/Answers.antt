-- `takes` meets its contract: one return for each way that a byte can go.
use Rattle.std.proofs.Common.{sym, ap, ◌∙◌, rules}
use Rattle.std.proofs.lemmas.Option.{cond_some}
use Rattle.lists.specs.Reading.{at_hand}
use Rattle.lists.proofs.Hands.{passed_not, still_at_hand, takes_end, takes_digit, takes_wrong, takes_first, takes_none}
use Rattle.lists.proofs.taking.Hand.takes.Goals as goal

pub returns-then-b-eq32 : goal.returns-then-b-eq32
returns-then-b-eq32 c = c.ended.ensures ∙ sym (takes_end c.args.self c.args.b c.if-self.true c.if-b-eq32.true)

pub returns-in-Some : goal.returns-in-Some
returns-in-Some c =
    let s = c.args.self in
    let t = cond_some _ _ _ (sym c.grow.ensures ∙ c.in-Some.is) in
    still_at_hand s c.in-Some.value c.if-self.true ∙ ap (at_hand s) (sym t.1) ∙ sym (takes_digit s c.args.b c.if-self.true c.if-b-eq32.false t.0)

pub returns-in-None : goal.returns-in-None
returns-in-None c = sym (takes_wrong c.args.self c.args.b c.if-self.true c.if-b-eq32.false (passed_not _ _ (sym c.grow.ensures ∙ c.in-None.is)))

pub returns-then-is_ascii_digit : goal.returns-then-is_ascii_digit
returns-then-is_ascii_digit c = ap (at_hand c.args.self) c.from.ensures ∙ sym (takes_first c.args.self c.args.b c.if-self.false (search rules))

pub returns : goal.returns
returns c = sym (takes_none c.args.self c.args.b c.if-self.false (search rules))
