-- `number` meets its contract: each way out by what was read so far, and one digit more by the number grown by it.
use Rattle.std.proofs.Common.{◌≡◌, ◌+◌, ◌-◌, ◌<◌, length, sym, ◌∙◌, arith}
use Rattle.text.proofs.Fields.{ends, stops, spoils, goes, behind_long, behind_at}
use Rattle.text.proofs.reading.number.Goals as goal

pub returns-then-b-eq32 : goal.returns-then-b-eq32
returns-then-b-eq32 c =
    let line = c.args.line.now in
    let k = c.args.from + 1 in
    let i = c.loop-i.i in
    let l : i < length line - k = omega (arith, behind_long line k) in
    (omega arith, c.loop-i.invariant ∙ stops line (k + i) (omega arith) c.loop-i.value (sym (behind_at line k i l) ∙ c.if-b-eq32.true))

pub returns-in_err-value : goal.returns-in_err-value
returns-in_err-value c =
    let line = c.args.line.now in
    let k = c.args.from + 1 in
    let i = c.loop-i.i in
    let l : i < length line - k = omega (arith, behind_long line k) in
    let e = behind_at line k i l in
    rw c.from_residual-in_err-value.ensures
    (c.loop-i.invariant ∙ spoils line (k + i) (omega arith) c.loop-i.value (λ b. c.if-b-eq32.false (e ∙ b)) c.grow.result (rw e at c.grow.ensures) c.in_err-value.was)

pub loop-i-preserved : goal.loop-i-preserved
loop-i-preserved c =
    let line = c.args.line.now in
    let k = c.args.from + 1 in
    let i = c.loop-i.i in
    let l : i < length line - k = omega (arith, behind_long line k) in
    let e = behind_at line k i l in
    let next : k + (i + 1) ≡ k + i + 1 = omega arith in
    rw next
    (c.loop-i.invariant ∙ goes line (k + i) (omega arith) c.loop-i.value (λ b. c.if-b-eq32.false (e ∙ b)) c.grow.result (rw e at c.grow.ensures) c.in_ok-value.value c.in_ok-value.was)

pub returns : goal.returns
returns c =
    let line = c.args.line.now in
    let k = c.args.from + 1 in
    (omega arith, c.loop-i.invariant ∙ ends line (k + c.loop-i.i) c.loop-i.value (omega (arith, behind_long line k)))
