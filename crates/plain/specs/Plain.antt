-- An answer in plain numbers, for programs in C: its kind, then the refusal's number or the values that the rules name, in their order.
use Rattle.std.specs.Prelude.{List, [], ◌∷◌, ℕ, get_or, Option, None, Some}
use Rattle.units.specs.Answers.{Told}
use Rattle.units.specs.declared.Refusal.{Refusal}
use Rattle.urgent.specs.declared.Answer.{Answer as UrgentAnswer}
use Rattle.urgent.specs.declared.Answer.TheVariants.{Refused as UrgentRefused, Opened as UrgentOpened, Closed as UrgentClosed, Accepted as CellAccepted, Sent, Idle}
use Rattle.packets.specs.declared.Answer.{Answer as FairAnswer}
use Rattle.packets.specs.declared.Answer.TheVariants.{Refused as FairRefused, Opened as FairOpened, Closed as FairClosed, Accepted as PacketAccepted, Begun, Ended}
use Rattle.station.specs.Answers.{told, refusal_in}
use Rattle.station.specs.declared.Reply.{Reply}
use Rattle.station.specs.declared.Reply.TheVariants.{Urgent, Fair}
use Rattle.plain.specs.declared.Answer.{Answer}

-- 0 refused, 1 opened, 2 a cell accepted, 3 a cell sent, 4 no cell sent, 5 a packet accepted, 6 a packet begun, 7 a packet ended, 8 closed
abbrev pub urgent_kind : UrgentAnswer → ℕ
urgent_kind (UrgentRefused r) = 0
urgent_kind UrgentOpened = 1
urgent_kind UrgentClosed = 8
urgent_kind (CellAccepted number last) = 2
urgent_kind (Sent flow number missed) = 3
urgent_kind (Idle missed) = 4

abbrev pub fair_kind : FairAnswer → ℕ
fair_kind (FairRefused r) = 0
fair_kind FairOpened = 1
fair_kind FairClosed = 8
fair_kind (PacketAccepted number start finish) = 5
fair_kind (Begun flow number length start) = 6
fair_kind (Ended flow number length) = 7

abbrev pub kind_of : Reply → ℕ
kind_of (Urgent answer) = urgent_kind answer
kind_of (Fair answer) = fair_kind answer

-- what stands beside the kind: the number of a refusal, or the values
abbrev pub figures_of : Option Refusal → Told → List ℕ
figures_of None t = t.values
figures_of (Some r) t = t.number ∷ []

-- four figures, 0 where there are fewer
abbrev pub laid : ℕ → List ℕ → Answer
laid kind figures = record { kind = kind; a = get_or figures 0 0; b = get_or figures 1 0; c = get_or figures 2 0; d = get_or figures 3 0 }

-- a reply in plain numbers
abbrev pub answer_of : Reply → Answer
answer_of reply = laid (kind_of reply) (figures_of (refusal_in reply) (told reply))
