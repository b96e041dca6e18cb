-- `Session::finish` meets its contract: a line that has a byte is answered what a line feed is answered.
use Rattle.std.proofs.Common.{rules}
use Rattle.text.proofs.Feeding.{fed_printed}
use Rattle.replies.specs.Printing.{longest}
use Rattle.session.specs.Steps.{step_of}
use Rattle.session.proofs.Steps.{finish_text}
use Rattle.session.proofs.Session.finish.Goals as goal

pub returns : goal.returns
returns c = fed_printed step_of longest c.feed.ensures (finish_text c.args.self (search rules)) (search rules) (search rules)
