-- What the plain form of a refusal is.
use Rattle.std.specs.Prelude.{◌≡◌, Err}
use Rattle.units.specs.declared.Refusal.{Refusal}
use Rattle.classes.specs.declared.Answer.TheVariants.{Refused}
use Rattle.plain.specs.Laws.{plain_refusal}
use Rattle.class_plain.specs.Plain.{answer_of, planted_of}

-- A refusal of the class lane, and of a tree, is handed to C by its number.
pub record RefusalsPlain : Type 0 where
  pub lane : (refusal : Refusal) → answer_of (Refused refusal) ≡ plain_refusal refusal
  pub tree : (refusal : Refusal) → planted_of (Err refusal) ≡ plain_refusal refusal
