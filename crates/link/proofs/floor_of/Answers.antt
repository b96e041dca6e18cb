-- `link::floor_of` meets its contract: the steps of both loops are the lemmas of `Floors`.
use Rattle.std.proofs.Common.{◌≡◌, ℕ, ◌+◌, ◌-◌, ◌*◌, ◌%◌, ◌^◌, ◌<◌, arith}
use native.Mathlib.Nat.{mod-eq_of_lt}
use Rattle.link.proofs.Floors.{none_doubled, once_more, shift_fits, goes_in, goes_not, settled}
use Rattle.link.proofs.floor_of.Goals as goal
use Rattle.link.proofs.floor_of.Goals.{then-part-left, else-part-left}

pub loop-part-init : goal.loop-part-init
loop-part-init c = (none_doubled _, omega arith, omega arith, omega arith)

pub loop-part-preserved : goal.loop-part-preserved
loop-part-preserved c =
    let i = c.loop-part in
    let e : i.part * 2 % 2 ^ 64 ≡ i.part * 2 = mod-eq_of_lt (omega arith) in
    rw e (once_more i.steps _ i.part i.invariant.0, omega arith, omega arith, omega arith)

pub loop-preserved : goal.loop-preserved
loop-preserved c =
    let i = c.loop in
    let left : ℕ = c.loop-part.steps - i.counter in
    let more : 0 < left = omega arith in
    let fewer : c.loop-part.steps - (i.counter + 1) ≡ left - 1 = omega arith in
    let d : i.quotient * 2 % 2 ^ 64 ≡ i.quotient * 2 = mod-eq_of_lt (omega (arith, shift_fits i.invariant more)) in
    elim c.if-part-left.branch [
      | then-part-left w ↦ rw (w.quotient-is, w.left-is, fewer) (goes_in i.invariant more _ d (omega (arith, w.if-part-left.true)))
      | else-part-left w ↦ rw (w.quotient-is, w.left-is, fewer) (goes_not i.invariant more _ d (omega (arith, w.if-part-left.false)))
    ]

pub returns : goal.returns
returns c = settled c.loop.invariant (omega arith)
