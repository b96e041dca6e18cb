-- `log_writing::placing::put_words`. The invariant: putting the numbers that are left, from the place reached on, gives what putting all of
-- them would have given, and has as much room.
use Rattle.std.proofs.Common.{◌≡◌, ◌+◌, length, drop}
use Rattle.log_writing.specs.Placing.{word_bytes, put_at}
use Rattle.log_writing.proofs.placing.put_words.Given as goal

abbrev pub invariant-loop-word : goal.invariant-loop-word
invariant-loop-word l =
    record {
      room_left : l.place + length (word_bytes l.k (drop l.word-index l.words)) ≡ l.at + length (word_bytes l.k l.words);
      puts : put_at l.place (word_bytes l.k (drop l.word-index l.words)) l.room ≡ put_at l.at (word_bytes l.k l.words) l.initial.room;
    }
