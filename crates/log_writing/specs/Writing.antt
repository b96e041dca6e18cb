-- What the writer answers for a log and a room, and what the room holds then.
use Rattle.std.specs.Prelude.{◌≡◌, true, false, cond, ◌||◌, List, ◌++◌, ℕ, ◌≤◌, ◌<◌, ltb, drop, get_or, Option, None, Some, Result, Ok, Err}
use Rattle.log_format.specs.declared.Unwritten.{Unwritten}
use Rattle.log_format.specs.declared.Unwritten.TheVariants.{BadRecord, TooLong}
use Rattle.log_format.specs.Format.{Log, GoodLog, bytes_of, size_of, most_bytes}
use Rattle.log_judging.specs.Judging.{bad_records, first_bad}

-- the answer: 22 by position, wherever the bad record stands; then 26; else the log's length
abbrev pub written_by : Option ℕ → Log → ℕ → Result ℕ Unwritten
written_by (Some position) log room = Err (BadRecord position)
written_by None log room = cond (ltb most_bytes (size_of log) || ltb room (size_of log)) (Err TooLong) (Ok (size_of log))

unfoldable pub written_of : Log → ℕ → Result ℕ Unwritten
written_of log room = written_by (first_bad (bad_records log)) log room

-- the room: after a refusal as it was; else the log's bytes, and past them as it was
abbrev pub room_after : Result ℕ Unwritten → Log → List ℕ → List ℕ
room_after (Err why) log room = room
room_after (Ok n) log room = bytes_of log ++ drop n room

-- What the room holds after each answer: after a refusal no byte has been written.
pub record Keeps (log : Log) (room : List ℕ) : Type 0 where
  pub bad : (position : ℕ) → room_after (Err (BadRecord position)) log room ≡ room
  pub long : room_after (Err TooLong) log room ≡ room
  pub written : (n : ℕ) → room_after (Ok n) log room ≡ bytes_of log ++ drop n room

-- L4: what each answer means, for a log and so many bytes of room; nothing else is answered
pub record Writes (log : Log) (room : ℕ) : Type 0 where
  -- 22: the record at the position is bad, and none before it is
  pub bad :
      (position : ℕ) → written_of log room ≡ Err (BadRecord position)
      → (get_or (bad_records log) position false ≡ true) × ((k : ℕ) → k < position → get_or (bad_records log) k false ≡ false)
  pub is_bad :
      (position : ℕ) → get_or (bad_records log) position false ≡ true → ((k : ℕ) → k < position → get_or (bad_records log) k false ≡ false)
      → written_of log room ≡ Err (BadRecord position)
  -- 26: no record is bad, and the log is above 65,536 bytes or above the room
  pub long : written_of log room ≡ Err TooLong → GoodLog log × (size_of log ≤ most_bytes → size_of log ≤ room → ⊥)
  pub is_long : GoodLog log → (size_of log ≤ most_bytes → size_of log ≤ room → ⊥) → written_of log room ≡ Err TooLong
  -- else the log is written, and its length told
  pub length : (n : ℕ) → written_of log room ≡ Ok n → GoodLog log × (size_of log ≤ most_bytes) × (size_of log ≤ room) × (n ≡ size_of log)
  pub is_length : GoodLog log → size_of log ≤ most_bytes → size_of log ≤ room → written_of log room ≡ Ok (size_of log)
