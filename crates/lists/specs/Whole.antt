-- A whole input of lists, bytes to bytes: what a reader of the output may expect of its input.
use Rattle.std.specs.Prelude.{List, [], ◌∷◌, ◌++◌, ℕ, Option, None, Some, Err}
use Rattle.units.specs.declared.Refusal.TheVariants.{NoCommand}
use Rattle.link.specs.declared.Declaration.{Declaration}
use Rattle.link.specs.Verdict.{Verdict}
use Rattle.link.specs.declared.Objection.TheVariants.{Refused}
use Rattle.link.specs.Verdicts.{admit_of}
use Rattle.text.specs.Input.{lines_of}
use Rattle.lists.specs.Reading.{read_list}
use Rattle.lists.specs.Printing.{verdict_line}

-- the verdict on what a line is read as; a line that is no list is refused as any line that is none
abbrev pub verdict_of : Option (List Declaration) → Verdict
verdict_of None = Err (Refused NoCommand)
verdict_of (Some ds) = admit_of ds

-- the line that a line is answered
abbrev pub answer_of : List ℕ → List ℕ
answer_of line = verdict_line (verdict_of (read_list line))

-- one line after the other
unfoldable pub answers_of : List (List ℕ) → List ℕ
answers_of [] = []
answers_of (line ∷ lines) = answer_of line ++ answers_of lines

-- what the whole input is answered
abbrev pub verdicts_of : List ℕ → List ℕ
verdicts_of bytes = answers_of (lines_of bytes)
