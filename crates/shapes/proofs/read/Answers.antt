-- `read` meets its contract: where a second number was asked for, each return is what `shape_of` is where its tests lead.
use Rattle.std.proofs.Common.{sym, ◌∙◌, rules}
use Rattle.shapes.proofs.Ways.{second_missing, second_ends}
use Rattle.shapes.proofs.read.Goals as goal

pub returns-in_err-b : goal.returns-in_err-b
returns-in_err-b c =
    let first = c.in_ok-a.ensures in
    c.from_residual-in_err-b.ensures ∙ sym (second_missing c.args.line.now (search rules) c.if-line-ne32.false _ _ first.1 (search rules) c.in_err-b.ensures)

pub returns : goal.returns
returns c =
    let first = c.in_ok-a.ensures in
    let second = c.in_ok-b.ensures in
    c.then_some.ensures ∙ second_ends c.args.line.now (search rules) c.if-line-ne32.false _ _ first.1 (search rules) _ _ _ (search rules) second.0 second.1
