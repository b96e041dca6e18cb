-- The invariant of `passes`' loop: what is left of the way up tells what the whole way tells.
use Rattle.std.proofs.Common.{◌≡◌, ◌-◌, ◌<◌}
use Rattle.ascent.specs.Ascent.{passes, passes_for}
use Rattle.charging.proofs.passing.passes.Given as goal

abbrev pub invariant-loop : goal.invariant-loop
invariant-loop l = (l.k < 47) × (passes (5 - l.counter) l.tree l.k l.length ≡ passes_for l.tree l.flow l.length)
