-- `judge` meets its contract: an empty line is the empty list.
use Rattle.std.proofs.Common.{sym, ◌∙◌}
use Rattle.link.proofs.Published.{published}
use Rattle.lists.proofs.Hands.{passed_over}
use Rattle.lists.proofs.Reading.judge.Goals as goal

pub returns-then-not-self : goal.returns-then-not-self
returns-then-not-self c = sym (passed_over c.args.self.now.hand.some _ _ c.if-not-self.true ∙ published.empty)
