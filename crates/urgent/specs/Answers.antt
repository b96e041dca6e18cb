-- The number and the values that the rules give for each answer of the urgent lane, and the refusal in it.
use Rattle.std.specs.Prelude.{[], ◌∷◌, Option, None, Some}
use Rattle.units.specs.declared.Refusal.{Refusal}
use Rattle.units.specs.Answers.{Told, refusal, values}
use Rattle.urgent.specs.declared.Answer.{Answer}
use Rattle.urgent.specs.declared.Answer.TheVariants.{Refused, Opened, Closed, Accepted, Sent, Idle}

-- accepted: the number and the last slot; sent: the flow, the number and the missed; idle: the missed
abbrev pub told : Answer → Told
told (Refused r) = refusal r
told Opened = values []
told Closed = values []
told (Accepted number last) = values (number ∷ last.0 ∷ [])
told (Sent flow number missed) = values (flow ∷ number ∷ missed ∷ [])
told (Idle missed) = values (missed ∷ [])

abbrev pub refusal_in : Answer → Option Refusal
refusal_in (Refused r) = Some r
refusal_in Opened = None
refusal_in Closed = None
refusal_in (Accepted number last) = None
refusal_in (Sent flow number missed) = None
refusal_in (Idle missed) = None
