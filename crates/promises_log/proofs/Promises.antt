-- Each promise of the shift log, where it is proved.
use mathlib.Core.Path.{refl}
use Rattle.log_format.specs.Words.{lent_log}
use Rattle.log_format.proofs.Laws.{reads, one_reader}
use Rattle.log_format.proofs.Faults.{one_fault}
use Rattle.log_format.proofs.Encoded.{encoded}
use Rattle.log_format.proofs.Words.{words_back}
use Rattle.log_format.proofs.Pairs.{compared}
use Rattle.log_format.proofs.Cut.{first_decide}
use Rattle.log_format.proofs.GoesOn.{goes_on}
use Rattle.log_judging.proofs.Judging.{judged}
use Rattle.log_writing.proofs.Writing.{writes}
use Rattle.log_records.proofs.Records.{records_found}
use Rattle.log_cells.proofs.Found.{own_found}
use Rattle.recorder.proofs.Recorded.{records, notes_on}
use Rattle.recorded.proofs.Wrote.{writes_logs}
use Rattle.log_book.proofs.Pieces.{fed_in_pieces, logs_sessions}
use Rattle.log_lines.proofs.Spelled.{answers_spelled, records_spelled}
use Rattle.log_commands.proofs.Spelled.{log_commands_spelled}
use Rattle.promises_log.specs.Numbers.{AnswersNumbered}
use Rattle.promises_log.specs.Promises.{LogPromises}
use Rattle.promises_log.proofs.Logged.{logged}
use Rattle.promises_log.proofs.Flows.{flow_logged}
use Rattle.promises_log.proofs.Sorts.{calls_sorted}

numbered : AnswersNumbered
numbered =
    record {
      good_flow = λ urgent fair events. refl;
      good_own = λ urgent fair events. refl;
      first_byte = λ place. refl;
      table_field = λ place. refl;
      bad_record = λ place. refl;
      ends_early = λ place. refl;
      byte_too_many = λ place. refl;
      bad_at = λ position. refl;
      too_long = refl;
      written = λ n. refl;
    }

pub log_promises : LogPromises
log_promises =
    record {
      L0 = numbered;
      L1-3 = reads;
      L1-bytes = encoded;
      L2-records = records_found;
      L2-cells = own_found;
      L3-one = one_fault;
      L3-only = one_reader;
      L4 = λ form urgent fair events room. writes (lent_log form urgent fair events) room;
      L4-bad = λ form urgent fair events. judged (lent_log form urgent fair events);
      L4-room = λ log room. record { bad = λ position. refl; long = refl; written = λ n. refl };
      L4-words = words_back;
      L5 = λ a b. compared a b;
      L6 = first_decide;
      L6-on = goes_on;
      L7 = logged;
      L7-flow = flow_logged;
      L7-sorts = calls_sorted;
      L7-made = records;
      L7-on = notes_on;
      L7-written = writes_logs;
      L7-session = fed_in_pieces;
      L7-whole = logs_sessions;
      L8 = answers_spelled;
      L8-records = records_spelled;
      L8-commands = log_commands_spelled;
    }
