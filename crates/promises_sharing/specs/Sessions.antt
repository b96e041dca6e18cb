-- What a session of the class program promises, line by line.
use Rattle.std.specs.Prelude.{◌≡◌, List, ◌∷◌, ◌++◌, ℕ}
use Rattle.units.specs.declared.Refusal.TheVariants.{NoCommand}
use Rattle.class_desk.specs.declared.Desk.{Desk}
use Rattle.class_desk.specs.declared.Command.{Command}
use Rattle.class_desk.specs.declared.Reply.TheVariants.{Refused}
use Rattle.class_desk.specs.Desk.{hear_of}
use Rattle.class_lines.specs.Grammar.{text_of, Small}
use Rattle.class_replies.specs.Printing.{line_of}
use Rattle.class_session.specs.Whole.{answers_of}

-- a line that is the text of a command with small numbers is answered by the line of its reply, and the session goes on from the desk after it
abbrev pub CommandsAnswered : Type 0
CommandsAnswered =
    (d : Desk) (command : Command) (lines : List (List ℕ)) → Small command
    → answers_of d (text_of command ∷ lines) ≡ line_of (hear_of d command).reply ++ answers_of (hear_of d command).desk lines

-- every other line is answered `no 11`, once, and leaves the desk as it was
abbrev pub OthersAnswered : Type 0
OthersAnswered =
    (d : Desk) (line : List ℕ) (lines : List (List ℕ)) → ((command : Command) → line ≡ text_of command → Small command → ⊥)
    → answers_of d (line ∷ lines) ≡ line_of (Refused NoCommand) ++ answers_of d lines
