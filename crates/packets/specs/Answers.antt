-- The number and the values that the rules give for each answer of a queue of packets, and the refusal in it.
use Rattle.std.specs.Prelude.{[], ◌∷◌, Option, None, Some}
use Rattle.units.specs.declared.Refusal.{Refusal}
use Rattle.units.specs.declared.Tag.{Tag}
use Rattle.units.specs.Answers.{Told, refusal, values}
use Rattle.packets.specs.declared.Answer.{Answer}
use Rattle.packets.specs.declared.Answer.TheVariants.{Refused, Opened, Closed, Accepted, Begun, Ended}

-- accepted: the number, the start and the finish; begun: the flow, the number, the length and the start; ended: the flow, the number and the length
abbrev pub told : Answer → Told
told (Refused r) = refusal r
told Opened = values []
told Closed = values []
told (Accepted number start finish) = values (number ∷ start.0 ∷ finish.0 ∷ [])
told (Begun flow number length start) = values (flow ∷ number ∷ length ∷ start.0 ∷ [])
told (Ended flow number length) = values (flow ∷ number ∷ length ∷ [])

abbrev pub refusal_in : Answer → Option Refusal
refusal_in (Refused r) = Some r
refusal_in Opened = None
refusal_in Closed = None
refusal_in (Accepted number start finish) = None
refusal_in (Begun flow number length start) = None
refusal_in (Ended flow number length) = None

-- the start tag that a begin is answered; of any other answer, the tag given
abbrev pub start_told : Tag → Answer → Tag
start_told time (Begun flow number length start) = start
start_told time (Refused r) = time
start_told time Opened = time
start_told time Closed = time
start_told time (Accepted number start finish) = time
start_told time (Ended flow number length) = time
