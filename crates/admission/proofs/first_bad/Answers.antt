-- `first_bad` meets its contract: it stops at the first bad declaration, or passes a good one.
use Rattle.std.proofs.Common.{◌≡◌, Err, sym, ap, ◌∙◌, arith, rules}
use Rattle.link.specs.Verdicts.{admits}
use Rattle.admission.proofs.Steps.{none_left, bad_stops, good_next}
use Rattle.admission.proofs.first_bad.Goals as goal

pub returns-in_err-judged : goal.returns-in_err-judged
returns-in_err-judged c =
    let told : c.from_residual.result ≡ Err c.in_err-judged.field-0.0 = search rules in
    bad_stops c.args.list.now c.loop-place.place (omega arith) c.from_residual.result (told ∙ c.in_err-judged.ensures) (ap admits told) ∙ c.loop-place.invariant

pub loop-place-preserved : goal.loop-place-preserved
loop-place-preserved c =
    let i = c.loop-place in
    good_next c.args.list.now i.place (omega arith) (sym c.judged.ensures ∙ c.in_ok-judged.was) ∙ i.invariant

pub returns : goal.returns
returns c = none_left c.args.list.now c.loop-place.place (omega arith) ∙ c.loop-place.invariant
