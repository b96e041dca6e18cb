-- `Reading::finish` meets its contract: a line with a byte is answered what a line feed is answered.
use Rattle.std.proofs.Common.{rules}
use borrow.Author.Tests.{not-false}
use Rattle.text.proofs.Feeding.{fed_printed}
use Rattle.lists.specs.Printing.{longest}
use Rattle.lists.specs.Steps.{step_of}
use Rattle.lists.proofs.Steps.{finish_text}
use Rattle.lists.proofs.Reading.finish.Goals as goal

pub returns : goal.returns
returns c =
    fed_printed step_of longest c.feed.ensures (finish_text c.args.self (not-false c.args.self.hand.some c.if-not-self.false)) (search rules) (search rules)
