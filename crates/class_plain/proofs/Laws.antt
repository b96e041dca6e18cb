-- The plain form of a refusal is computed.
use mathlib.Core.Path.{refl}
use Rattle.class_plain.specs.Laws.{RefusalsPlain}

pub refusals_plain : RefusalsPlain
refusals_plain = record { lane = λ refusal. refl; tree = λ refusal. refl }
