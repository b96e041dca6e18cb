-- An event by its index, a cell with its own deadline, out of bytes that are said to hold so many records of each body.
use Rattle.std.specs.Prelude.{List, ℕ, Option, None, Some}
use Rattle.log_format.specs.declared.Form.{Form}
use Rattle.log_format.specs.declared.Contents.{Contents}
use Rattle.log_format.specs.Format.{Opening}
use Rattle.log_format.specs.Words.{event_of, event_word}
use Rattle.log_format.specs.Own.{own_event}
use Rattle.log_format.specs.Reading.{openings_at}
use Rattle.log_records.specs.Found.{event_found}

-- an event as one number, a cell with its own deadline, given the form and the urgent openings of its log
abbrev pub own_word : Form → List Opening → ℕ → ℕ
own_word form urgent word = event_word (own_event form urgent (event_of word))

-- the same of an event that is looked for: where none is found there is none
abbrev pub own_of : Form → List Opening → Option ℕ → Option ℕ
own_of form urgent (Some word) = Some (own_word form urgent word)
own_of form urgent None = None

-- event k with its cell's own deadline: where it is found, all the openings before it are there
abbrev pub own_found : List ℕ → Contents → ℕ → Option ℕ
own_found s c k = own_of c.form (openings_at s 25 c.urgent) (event_found s c k)
