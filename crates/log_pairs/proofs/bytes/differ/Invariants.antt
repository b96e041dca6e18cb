-- `log_pairs::bytes::differ`. The invariant: from here on the logs differ where they do from the start.
use Rattle.std.proofs.Common.{◌≡◌}
use Rattle.log_pairs.proofs.Differ.{differs}
use Rattle.log_pairs.proofs.bytes.differ.Given as goal

abbrev pub invariant-loop-at : goal.invariant-loop-at
invariant-loop-at l = differs l.a l.b l.at ≡ differs l.a l.b l.start
