-- `log_writing::placing::put_start`: the first byte, and the table as six numbers after it.
use Rattle.std.proofs.Common.{arith}
use Rattle.std.proofs.Math.ListN.{length-set}
use Rattle.log_writing.proofs.Pieces.{table_size, start_put}
use Rattle.log_writing.proofs.placing.put_start.Goals as goal

pub put_words-requires : goal.put_words-requires
put_words-requires c = let a = c.args in (rw length-set (omega (arith, table_size a.u a.f a.e)), omega arith)

pub returns : goal.returns
returns c =
    let a = c.args in
    start_put a.form a.room.now _ c.first_byte.result a.u a.f a.e (omega arith) c.first_byte.ensures c.put_words.ensures
