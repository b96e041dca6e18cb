-- The verdict on a list: nothing is held against it, or what is.
use Rattle.std.specs.Prelude.{Result}
use Rattle.link.specs.declared.Objection.{Objection}

abbrev pub Verdict : Type 0
Verdict = Result (Unit {0}) Objection
