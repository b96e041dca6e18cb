-- A whole session of the class program, bytes to bytes.
use Rattle.std.specs.Prelude.{List, [], ◌∷◌, ◌++◌, ℕ, Option, None, Some}
use Rattle.units.specs.declared.Refusal.TheVariants.{NoCommand}
use Rattle.text.specs.Input.{lines_of}
use Rattle.text.specs.Keeping.{heard_by}
use Rattle.class_desk.specs.declared.Desk.{Desk}
use Rattle.class_desk.specs.declared.Command.{Command}
use Rattle.class_desk.specs.declared.Heard.{Heard}
use Rattle.class_desk.specs.Desk.{fresh_desk, refused, hear_of}
use Rattle.class_lines.specs.Reading.{read_command}
use Rattle.class_replies.specs.Printing.{line_of}

-- the command that a line is: none where it has more than 32 bytes, or is no text of a command with numbers small enough
abbrev pub heard_as : List ℕ → Option Command
heard_as line = heard_by read_command line

-- a line that is no command is refused as such, and the desk is as it was
abbrev pub answer_of : Desk → Option Command → Heard
answer_of d None = refused d NoCommand
answer_of d (Some command) = hear_of d command

-- one line after the other, the desk going on from each to the next
unfoldable pub answers_of : Desk → List (List ℕ) → List ℕ
answers_of d [] = []
answers_of d (line ∷ lines) = line_of (answer_of d (heard_as line)).reply ++ answers_of (answer_of d (heard_as line)).desk lines

-- what a fresh desk answers to the whole input
abbrev pub session_of : List ℕ → List ℕ
session_of bytes = answers_of fresh_desk (lines_of bytes)
