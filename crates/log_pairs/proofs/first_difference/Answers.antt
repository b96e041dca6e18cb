-- `log_pairs::first_difference`: from the common start on.
use Rattle.std.proofs.Common.{◌∙◌}
use Rattle.log_pairs.proofs.Ends.{within, difference}
use Rattle.log_pairs.proofs.first_difference.Goals as goal

pub differ-requires : goal.differ-requires
differ-requires c = within c.args.a.now c.args.b.now _ c.common.ensures _ c.in_ok-start.was

pub returns : goal.returns
returns c = c.differ.ensures ∙ difference c.args.a.now c.args.b.now _ c.common.ensures _ c.in_ok-start.was
