-- `log_writing::placing::put_words`: a number more, and the end.
use Rattle.std.proofs.Common.{arith}
use Rattle.log_writing.proofs.Pieces.{words_room, words_go, words_end}
use Rattle.log_writing.proofs.placing.put_words.Goals as goal

pub put_number-requires : goal.put_number-requires
put_number-requires c =
    let i = c.loop-word in (
      omega (arith, words_room c.args.k c.args.words.now i.word-index (omega arith)),
      omega arith,
    )

pub loop-word-preserved : goal.loop-word-preserved
loop-word-preserved c =
    let i = c.loop-word in
    let r = words_room c.args.k c.args.words.now i.word-index (omega arith) in
    record {
      room_left = omega (arith, r);
      puts = words_go i.room _ _ i.place c.args.k c.args.words.now i.word-index (omega arith) (omega (arith, r)) i.invariant.puts c.put_number.ensures;
    }

pub returns : goal.returns
returns c =
    let i = c.loop-word in words_end i.room _ i.place c.args.k c.args.words.now i.word-index (omega arith) i.invariant.puts
