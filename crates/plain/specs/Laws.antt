-- What the plain form of a refusal is.
use Rattle.std.specs.Prelude.{◌≡◌}
use Rattle.units.specs.Refusals.{number_of}
use Rattle.units.specs.declared.Refusal.{Refusal}
use Rattle.urgent.specs.declared.Answer.TheVariants.{Refused as UrgentRefused}
use Rattle.packets.specs.declared.Answer.TheVariants.{Refused as FairRefused}
use Rattle.station.specs.declared.Reply.TheVariants.{Urgent, Fair}
use Rattle.plain.specs.declared.Answer.{Answer}
use Rattle.plain.specs.Plain.{answer_of}

-- the kind 0, the refusal's number, and nothing else
abbrev pub plain_refusal : Refusal → Answer
plain_refusal refusal = record { kind = 0; a = number_of refusal; b = 0; c = 0; d = 0 }

-- A refusal of either lane is handed to C by its number.
pub record RefusalsPlain : Type 0 where
  pub urgent : (refusal : Refusal) → answer_of (Urgent (UrgentRefused refusal)) ≡ plain_refusal refusal
  pub fair : (refusal : Refusal) → answer_of (Fair (FairRefused refusal)) ≡ plain_refusal refusal
