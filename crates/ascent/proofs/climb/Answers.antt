-- `climb` meets its contract: at each node of the way up, by whether it is the root.
use Rattle.std.proofs.Common.{◌≡◌, ℕ, suc, ◌+◌, ◌-◌, refl, ◌∙◌, arith}
use Rattle.ascent.proofs.Laws.{climb_off, way_ends, way_tops, way_goes_on}
use Rattle.ascent.proofs.climb.Goals as goal

pub returns-then-flow-gt-LAST_FLOW : goal.returns-then-flow-gt-LAST_FLOW
returns-then-flow-gt-LAST_FLOW g c =
    climb_off (g.W.Way.step c.args.way.now) (g.W.Way.top c.args.way.now) c.args.tree (31 + c.args.flow) 5 (omega arith)

pub loop-init : goal.loop-init
loop-init g c = (omega arith, refl)

pub returns-then-up-ge31 : goal.returns-then-up-ge31
returns-then-up-ge31 g c =
    let s = c.loop in
    let left : ℕ = 5 - s.counter in
    let some : left ≡ suc (left - 1) = omega arith in
    c.root.ensures
    ∙ way_tops (g.W.Way.step c.args.way.now) (g.W.Way.top c.args.way.now) _ left s.tree s.k s.invariant (left - 1) some c.if-up-ge31.true

pub loop-preserved : goal.loop-preserved
loop-preserved g c =
    let s = c.loop in
    let left : ℕ = 5 - s.counter in
    let some : left ≡ suc (5 - (s.counter + 1)) = omega arith in
    way_goes_on (g.W.Way.step c.args.way.now) (g.W.Way.top c.args.way.now) _ left s.tree s.k s.invariant (5 - (s.counter + 1)) some c.if-up-ge31.false
    c.child.new.tree c.child.ensures

pub returns : goal.returns
returns g c = way_ends (g.W.Way.step c.args.way.now) (g.W.Way.top c.args.way.now) _ (5 - c.loop.counter) c.loop.tree c.loop.k c.loop.invariant (omega arith)
