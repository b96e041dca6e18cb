-- `least_failing` meets its contract: a slot that fails, one that passes, and the end of the slots.
use Rattle.std.proofs.Common.{◌+◌, sym, ◌∙◌, arith, lt-ltb, le-ltb}
use Rattle.admission.proofs.Steps.{slot_passes, slot_fails, slots_end}
use Rattle.admission.proofs.least_failing.Goals as goal

pub returns-then-t-demand : goal.returns-then-t-demand
returns-then-t-demand c =
    let i = c.loop-t in
    sym (slot_fails c.args.horizon i.t c.args.list.now (omega arith) (lt-ltb _ _ (rw c.demand.ensures at c.if-t-demand.true))) ∙ i.invariant

pub loop-t-preserved : goal.loop-t-preserved
loop-t-preserved c =
    let i = c.loop-t in
    sym (slot_passes c.args.horizon i.t c.args.list.now (omega arith) (le-ltb _ _ (rw c.demand.ensures at c.if-t-demand.false))) ∙ i.invariant

pub returns : goal.returns
returns c = sym (slots_end c.args.horizon c.loop-t.t c.args.list.now (omega arith)) ∙ c.loop-t.invariant

pub returns-else-t-demand : goal.returns-else-t-demand
returns-else-t-demand c =
    let i = c.loop-t in
    sym (
    slot_passes c.args.horizon i.t c.args.list.now (omega arith) (le-ltb _ _ (rw c.demand.ensures at c.if-t-demand.false))
    ∙ slots_end c.args.horizon (i.t + 1) c.args.list.now (omega arith)
    ) ∙ i.invariant
