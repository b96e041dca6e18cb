-- What the shift log promises: over all bytes, all logs, all rooms and all lists of calls.
use Rattle.std.specs.Prelude.{◌≡◌, List, ℕ}
use Rattle.station.specs.declared.Call.{Call}
use Rattle.log_format.specs.declared.Form.{Form}
use Rattle.log_format.specs.Format.{Log}
use Rattle.log_format.specs.Words.{lent_log, WordsBack}
use Rattle.log_format.specs.Reading.{Good, read_of}
use Rattle.log_format.specs.Laws.{Encoded, Reads, OneFault, OneReader, FirstDecide, GoesOn, Compared}
use Rattle.log_judging.specs.Judging.{Judged}
use Rattle.log_writing.specs.Writing.{Writes, Keeps}
use Rattle.log_records.specs.Laws.{RecordsFound}
use Rattle.log_cells.specs.Laws.{OwnFound}
use Rattle.recorder.specs.Laws.{Records, NotesOn}
use Rattle.recorded.specs.Laws.{WritesLogs}
use Rattle.log_book.specs.Laws.{FedInPieces, LogsSessions}
use Rattle.log_lines.specs.Spelled.{AnswersSpelled, RecordsSpelled}
use Rattle.log_commands.specs.Spelled.{LogCommandsSpelled}
use Rattle.promises_log.specs.Numbers.{AnswersNumbered}
use Rattle.promises_log.specs.Logged.{Logged, FlowLogged}
use Rattle.promises_log.specs.Sorts.{CallsSorted}

pub record LogPromises : Type 0 where
  -- L0: each answer has the rules' number and values
  pub L0 : AnswersNumbered
  -- L1 to L3: reader and writer are inverse, each log has one encoding, and a refusal is the fault of the bytes with the lowest place
  pub L1-3 : Reads read_of
  -- an encoding is as long as stated, and is bytes
  pub L1-bytes : (log : Log) → Encoded log
  -- of bytes that are a log, a record by its body and index is the log's own, and past the last there is none
  pub L2-records : (s : List ℕ) (log : Log) → read_of s ≡ Good log → RecordsFound s log
  -- and so is an event with its cell's own deadline, which is that of its flow's opening where the log tells none
  pub L2-cells : (s : List ℕ) (log : Log) → read_of s ≡ Good log → OwnFound s log
  -- no two faults stand at one place
  pub L3-one : OneFault
  -- and no other function of bytes has L1 to L3
  pub L3-only : OneReader
  -- L4: what the writer answers for a log that is lent as numbers, and so many bytes of room
  pub L4 : (form : Form) (urgent fair events : List ℕ) (room : ℕ) → Writes (lent_log form urgent fair events) room
  pub L4-bad : (form : Form) (urgent fair events : List ℕ) → Judged (lent_log form urgent fair events)
  -- after a refusal no byte of the room has been written
  pub L4-room : (log : Log) (room : List ℕ) → Keeps log room
  -- a record and its number, there and back
  pub L4-words : WordsBack
  -- L5: the tail of the longer of two logs, and the first difference
  pub L5 : (a b : List ℕ) → Compared a b
  -- L6: of any bytes the first 65,537 decide
  pub L6 : FirstDecide
  -- and however bytes go on, a refusal other than 23 stays, and a whole log takes no byte more
  pub L6-on : (s : List ℕ) → GoesOn s
  -- L7: the log of a list of calls replays as the calls went
  pub L7 : Logged
  -- and a log of form Flow as calls that offer each cell with its flow's own deadline
  pub L7-flow : FlowLogged
  -- what each call is to the log, by its numbers
  pub L7-sorts : CallsSorted
  -- and made call by call it is that log
  pub L7-made : (calls : List Call) → Records calls
  pub L7-on : (xs ys : List Call) → NotesOn xs ys
  -- what is written of it is that log, or 26
  pub L7-written : WritesLogs
  -- a session, in any pieces, is logged as the calls that the station hears in its lines
  pub L7-session : (pieces : List (List ℕ)) (room : List ℕ) → FedInPieces pieces room
  pub L7-whole : LogsSessions
  -- L8: each answer of the program is spelled as the rules spell it
  pub L8 : AnswersSpelled
  -- a record is shown as the line by which a session makes its call
  pub L8-records : RecordsSpelled
  -- and just the five commands are taken
  pub L8-commands : LogCommandsSpelled
