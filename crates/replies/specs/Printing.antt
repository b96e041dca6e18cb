-- The line that each reply is written as: a word and its fields.
use Rattle.std.specs.Prelude.{List, [], ◌∷◌, ℕ}
use Rattle.units.specs.declared.Refusal.{Refusal}
use Rattle.units.specs.declared.Refusal.TheVariants.{NoCommand}
use Rattle.units.specs.Refusals.{number_of}
use Rattle.urgent.specs.declared.Answer as urgent
use Rattle.urgent.specs.declared.Answer.TheVariants.{Refused, Opened, Closed, Accepted, Sent, Idle}
use Rattle.packets.specs.declared.Answer as fair
use Rattle.packets.specs.declared.Answer.TheVariants.{Refused as Refused', Opened as Opened', Closed as Closed', Accepted as Accepted', Begun, Ended}
use Rattle.station.specs.declared.Reply.{Reply}
use Rattle.station.specs.declared.Reply.TheVariants.{Urgent, Fair}
use Rattle.text.specs.Decimal.{decimal_of}
use Rattle.text.specs.Lines.{no_word, line_with}

-- the words ok, sent, idle and missed
abbrev pub ok_word : List ℕ
ok_word = 111 ∷ 107 ∷ []

abbrev pub sent_word : List ℕ
sent_word = 115 ∷ 101 ∷ 110 ∷ 116 ∷ []

abbrev pub idle_word : List ℕ
idle_word = 105 ∷ 100 ∷ 108 ∷ 101 ∷ []

abbrev pub missed_word : List ℕ
missed_word = 109 ∷ 105 ∷ 115 ∷ 115 ∷ 101 ∷ 100 ∷ []

-- a refusal tells its number and nothing else
abbrev pub refusal_line : Refusal → List ℕ
refusal_line r = line_with no_word (decimal_of (number_of r) ∷ [])

-- what a line that is no command is answered
abbrev pub no_command_line : List ℕ
no_command_line = refusal_line NoCommand

-- a turn that sent a cell tells its flow and number, and how many cells were missed
abbrev pub sent_line : ℕ → ℕ → ℕ → List ℕ
sent_line flow number missed = line_with sent_word (decimal_of flow ∷ decimal_of number ∷ missed_word ∷ decimal_of missed ∷ [])

-- a turn that sent nothing tells how many cells were missed
abbrev pub idle_line : ℕ → List ℕ
idle_line missed = line_with idle_word (missed_word ∷ decimal_of missed ∷ [])

-- an accepted cell tells its number and last slot
abbrev pub urgent_line : urgent.Answer → List ℕ
urgent_line (Refused r) = refusal_line r
urgent_line Opened = line_with ok_word []
urgent_line Closed = line_with ok_word []
urgent_line (Accepted number last) = line_with ok_word (decimal_of number ∷ decimal_of last.0 ∷ [])
urgent_line (Sent flow number missed) = sent_line flow number missed
urgent_line (Idle missed) = idle_line missed

-- an accepted packet tells its number and both tags, one begun its flow, number and start tag, and one ended its flow and number
abbrev pub fair_line : fair.Answer → List ℕ
fair_line (Refused' r) = refusal_line r
fair_line Opened' = line_with ok_word []
fair_line Closed' = line_with ok_word []
fair_line (Accepted' number start finish) = line_with ok_word (decimal_of number ∷ decimal_of start.0 ∷ decimal_of finish.0 ∷ [])
fair_line (Begun flow number len start) = line_with ok_word (decimal_of flow ∷ decimal_of number ∷ decimal_of start.0 ∷ [])
fair_line (Ended flow number len) = line_with ok_word (decimal_of flow ∷ decimal_of number ∷ [])

-- the line of a reply, by the lane that the call went to
abbrev pub line_of : Reply → List ℕ
line_of (Urgent answer) = urgent_line answer
line_of (Fair answer) = fair_line answer

-- room that every line has enough of
abbrev pub longest : ℕ
longest = 96
