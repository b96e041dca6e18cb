-- The invariant of `climb`'s loop: what is left of the way up gives what the whole way gives.
use Rattle.std.proofs.Common.{◌+◌, ◌-◌}
use Rattle.ascent.specs.Ascent.{climb}
use Rattle.ascent.proofs.Laws.{Remains}
use Rattle.ascent.proofs.climb.Given as goal

abbrev pub invariant-loop : goal.invariant-loop
invariant-loop g l =
    let step = g.W.Way.step l.way in
    let top = g.W.Way.top l.way in
    Remains step top (climb step top 5 l.initial.tree (31 + l.flow)) (5 - l.counter) l.tree l.k
