-- `log_pairs::one_begins`: from the common start on nothing differs.
use Rattle.log_pairs.proofs.Ends.{within}
use Rattle.log_pairs.proofs.one_begins.Goals as goal

pub differ-requires : goal.differ-requires
differ-requires c = within c.args.a.now c.args.b.now _ c.common.ensures _ c.in-Some.is
