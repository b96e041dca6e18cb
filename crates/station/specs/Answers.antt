-- The number and the values that the rules give for each reply, and the refusal in it.
use Rattle.std.specs.Prelude.{Option}
use Rattle.units.specs.Answers.{Told}
use Rattle.units.specs.declared.Refusal.{Refusal}
use Rattle.urgent.specs.Answers.{told as urgent_told, refusal_in as urgent_refusal}
use Rattle.packets.specs.Answers.{told as fair_told, refusal_in as fair_refusal}
use Rattle.station.specs.declared.Reply.{Reply}
use Rattle.station.specs.declared.Reply.TheVariants.{Urgent, Fair}

abbrev pub told : Reply → Told
told (Urgent answer) = urgent_told answer
told (Fair answer) = fair_told answer

abbrev pub refusal_in : Reply → Option Refusal
refusal_in (Urgent answer) = urgent_refusal answer
refusal_in (Fair answer) = fair_refusal answer
