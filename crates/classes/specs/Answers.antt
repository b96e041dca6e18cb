-- The number and the values that the rules give for each answer of the class lane, and the refusal in it.
use Rattle.std.specs.Prelude.{[], ◌∷◌, Option, None, Some}
use Rattle.units.specs.declared.Refusal.{Refusal}
use Rattle.units.specs.Answers.{Told, refusal, values}
use Rattle.classes.specs.declared.Answer.{Answer}
use Rattle.classes.specs.declared.Answer.TheVariants.{Refused, Opened, Closed, Taken, Begun, Ended}

-- taken: the number alone; begun: the flow, the number, the length and the start; ended: the flow, the number and the length
abbrev pub told : Answer → Told
told (Refused r) = refusal r
told Opened = values []
told Closed = values []
told (Taken number) = values (number ∷ [])
told (Begun flow number length start) = values (flow ∷ number ∷ length ∷ start.0 ∷ [])
told (Ended flow number length) = values (flow ∷ number ∷ length ∷ [])

-- the refusal, where it is one
abbrev pub refusal_in : Answer → Option Refusal
refusal_in (Refused r) = Some r
refusal_in Opened = None
refusal_in Closed = None
refusal_in (Taken number) = None
refusal_in (Begun flow number length start) = None
refusal_in (Ended flow number length) = None
