-- `log_writing::placing::put_number`: the part that is written holds the lowest bytes.
use Rattle.std.proofs.Common.{arith}
use Rattle.std.proofs.lemmas.Grind.{common_steps}
use Rattle.log_writing.proofs.Pieces.{put_low}
use Rattle.log_writing.proofs.placing.put_number.Goals as goal

pub returns : goal.returns
returns c =
    let a = c.args in
    put_low a.room.now c.copy_from_slice.new.self a.at a.k a.n c.requires.1 (grind (arith, common_steps))
