-- `passes` meets its contract: at each node of the way up, by whether it is the root, and by whether its finish passes the largest tag.
use Rattle.std.proofs.Common.{rules, ◌+◌, ◌-◌, sym, ◌∙◌, arith}
use Rattle.charging.proofs.Laws.{passes_climbs, passes_0, passes_off, passes_root, passes_here, passes_on}
use Rattle.charging.proofs.passing.passes.Goals as goal

pub returns-then-flow-gt-LAST_FLOW : goal.returns-then-flow-gt-LAST_FLOW
returns-then-flow-gt-LAST_FLOW c =
    let a = c.args in
    passes_off a.tree.now a.length (31 + a.flow) 5 (search rules) ∙ passes_climbs a.tree.now a.length a.flow

pub loop-init : goal.loop-init
loop-init c = (omega arith, passes_climbs c.args.tree.now c.args.length c.args.flow)

pub returns-then-up-ge31 : goal.returns-then-up-ge31
returns-then-up-ge31 c =
    let a = c.args in
    let s = c.loop in
    passes_root a.tree.now a.length s.k (5 - s.counter) (5 - (s.counter + 1)) (omega arith) s.invariant.0 c.if-up-ge31.true ∙ s.invariant.1

pub returns-then-passes : goal.returns-then-passes
returns-then-passes c =
    let a = c.args in
    let s = c.loop in
    passes_here a.tree.now a.length s.k (5 - s.counter) (5 - (s.counter + 1)) (omega arith) s.invariant.0 c.if-up-ge31.false (sym c.if-passes.ensures) ∙ s.invariant.1

pub loop-preserved : goal.loop-preserved
loop-preserved c =
    let a = c.args in
    let s = c.loop in
    (search rules, passes_on a.tree.now a.length s.k (5 - s.counter) (5 - (s.counter + 1)) (omega arith) s.invariant.0 c.if-up-ge31.false (sym c.if-passes.ensures) ∙ s.invariant.1)

pub returns : goal.returns
returns c =
    let a = c.args in
    let s = c.loop in
    passes_0 a.tree.now a.length s.k (5 - s.counter) (omega arith) ∙ s.invariant.1
