-- The plain form of a refusal is computed.
use mathlib.Core.Path.{refl}
use Rattle.plain.specs.Laws.{RefusalsPlain}

pub refusals_plain : RefusalsPlain
refusals_plain = record { urgent = λ refusal. refl; fair = λ refusal. refl }
