-- An answer of the class lane in plain numbers, for programs in C.
use Rattle.std.specs.Prelude.{[], ◌∷◌, ℕ, Result, Ok, Err}
use Rattle.units.specs.Refusals.{number_of}
use Rattle.units.specs.declared.Refusal.{Refusal}
use Rattle.classes.specs.declared.Answer as lane
use Rattle.classes.specs.declared.Answer.TheVariants.{Refused, Opened, Closed, Taken, Begun, Ended}
use Rattle.classes.specs.Answers.{told, refusal_in}
use Rattle.plain.specs.declared.Answer.{Answer}
use Rattle.plain.specs.Plain.{figures_of, laid}

-- as the station's: 0 refused, 1 opened, 6 a packet begun, 7 a packet ended, 8 closed; and 10 a packet taken
abbrev pub kind_of : lane.Answer → ℕ
kind_of (Refused r) = 0
kind_of Opened = 1
kind_of Closed = 8
kind_of (Taken number) = 10
kind_of (Begun flow number length start) = 6
kind_of (Ended flow number length) = 7

-- an answer in plain numbers
abbrev pub answer_of : lane.Answer → Answer
answer_of answer = laid (kind_of answer) (figures_of (refusal_in answer) (told answer))

-- what setting up is answered: 0 refused, 9 set up
abbrev pub planted_of : Result (Unit {0}) Refusal → Answer
planted_of (Err r) = laid 0 (number_of r ∷ [])
planted_of (Ok done) = laid 9 []
