-- `field` meets its contract: a blank, and the digits that the number has.
use Rattle.std.proofs.Common.{arith}
use Rattle.text.proofs.Placing.{put_number}
use Rattle.text.proofs.writing.field.Goals as goal

pub returns : goal.returns
returns c = put_number c.args.n c.digits-k.result c.args.at c.args.out.now c.spell.new.out c.digits-k.ensures (omega arith) c.spell.ensures
