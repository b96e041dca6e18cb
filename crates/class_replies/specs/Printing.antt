-- The line that each reply of a desk is written as: a word and its numbers.
use Rattle.std.specs.Prelude.{List, [], ◌∷◌, ℕ}
use Rattle.units.specs.declared.Refusal.TheVariants.{NoCommand}
use Rattle.units.specs.Refusals.{number_of}
use Rattle.text.specs.Decimal.{decimal_of}
use Rattle.text.specs.Lines.{ok_word, line_with, refusal_line}
use Rattle.classes.specs.declared.Answer as lane
use Rattle.classes.specs.declared.Answer.TheVariants.{Refused as Refused', Opened, Closed, Taken, Begun, Ended}
use Rattle.class_desk.specs.declared.Reply.{Reply}
use Rattle.class_desk.specs.declared.Reply.TheVariants.{Noted, Refused, Answered}

-- what a line that is no command is answered
abbrev pub no_command_line : List ℕ
no_command_line = refusal_line (number_of NoCommand)

-- a packet that is taken tells its number, one begun its flow, number and start tag, and one ended its flow and number
abbrev pub answer_line : lane.Answer → List ℕ
answer_line (Refused' r) = refusal_line (number_of r)
answer_line Opened = line_with ok_word []
answer_line Closed = line_with ok_word []
answer_line (Taken number) = line_with ok_word (decimal_of number ∷ [])
answer_line (Begun flow number len start) = line_with ok_word (decimal_of flow ∷ decimal_of number ∷ decimal_of start.0 ∷ [])
answer_line (Ended flow number len) = line_with ok_word (decimal_of flow ∷ decimal_of number ∷ [])

-- what is noted is answered `ok`, a command that is refused by the refusal's number, and a call as the lane answered it
abbrev pub line_of : Reply → List ℕ
line_of Noted = line_with ok_word []
line_of (Refused r) = refusal_line (number_of r)
line_of (Answered answer) = answer_line answer

-- room that every line has enough of
abbrev pub longest : ℕ
longest = 96
