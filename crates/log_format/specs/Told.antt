-- What a number tells: the form of a log, by its first byte, and the kind of an event.
use Rattle.std.specs.Prelude.{cond, ℕ, eqb, Result, Ok, Err}
use Rattle.log_format.specs.declared.Fault.{Fault}
use Rattle.log_format.specs.declared.Fault.TheVariants.{FirstByte, BadRecord}
use Rattle.log_format.specs.declared.Form.{Form}
use Rattle.log_format.specs.declared.records.Kind.{Kind}
use Rattle.log_format.specs.declared.records.Kind.TheVariants.{OpenTurn, LostTurn, Cell, Packet, Begin, End}
use Rattle.log_format.specs.Faults.{form_of}
use Rattle.log_format.specs.Reading.{is_first}

-- a first byte that tells no form is a fault
abbrev pub form_told : ℕ → Result Form Fault
form_told first = cond (is_first first) (Ok (form_of first)) (Err FirstByte)

-- an event with a number that is no kind is a bad record
abbrev pub kind_told : ℕ → Result Kind Fault
kind_told kind =
    cond (eqb kind 0) (Ok OpenTurn)
    (cond (eqb kind 1) (Ok LostTurn)
    (cond (eqb kind 2) (Ok Cell)
    (cond (eqb kind 3) (Ok Packet) (cond (eqb kind 4) (Ok Begin) (cond (eqb kind 5) (Ok End) (Err BadRecord))))))
