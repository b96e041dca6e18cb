-- `first_bad` meets its contract. The invariant: what the declarations left are told is what all are.
use Rattle.std.proofs.Common.{◌≡◌, drop}
use Rattle.link.specs.Verdicts.{by_numbers}
use Rattle.admission.proofs.first_bad.Given as goal

abbrev pub invariant-loop-place : goal.invariant-loop-place
invariant-loop-place l = by_numbers l.place (drop l.place l.list) ≡ by_numbers 0 l.list
