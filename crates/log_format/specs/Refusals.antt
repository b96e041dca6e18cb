-- The refusals of the log: the number and the values that the rules give for each answer of the reader and of the writer.
use Rattle.std.specs.Prelude.{[], ◌∷◌, ℕ, Result, Ok, Err}
use Rattle.units.specs.Answers.{Told, values}
use Rattle.log_format.specs.declared.Fault.{Fault}
use Rattle.log_format.specs.declared.Fault.TheVariants.{FirstByte, TableField, BadRecord, EndsEarly, ByteTooMany}
use Rattle.log_format.specs.declared.Contents.{Contents}
use Rattle.log_format.specs.declared.Flaw.{Flaw}
use Rattle.log_format.specs.declared.Unwritten.{Unwritten}
use Rattle.log_format.specs.declared.Unwritten.TheVariants.{BadRecord as BadAt, TooLong}
use Rattle.log_format.specs.Format.{first_byte}

abbrev pub fault_number : Fault → ℕ
fault_number FirstByte = 20
fault_number TableField = 21
fault_number BadRecord = 22
fault_number EndsEarly = 23
fault_number ByteTooMany = 24

-- read: the first byte and the three counts; refused: the place
abbrev pub verdict_told : Result Contents Flaw → Told
verdict_told (Ok c) = values (first_byte c.form ∷ c.urgent ∷ c.fair ∷ c.events ∷ [])
verdict_told (Err flaw) = record { number = fault_number flaw.fault; values = flaw.place ∷ [] }

-- written: the log's length; refused: the position of the bad record, or nothing for a log that is too long
abbrev pub written_told : Result ℕ Unwritten → Told
written_told (Ok n) = values (n ∷ [])
written_told (Err (BadAt position)) = record { number = fault_number BadRecord; values = position ∷ [] }
written_told (Err TooLong) = record { number = 26; values = [] }
