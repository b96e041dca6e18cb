-- Feeding a line's bytes and its end, as steps.
use mathlib.Core.Path.{◌≡◌, refl, sym, ◌∙◌, ap}
use mathlib.Core.Bool.{true, false}
use mathlib.Core.List.{List, []}
use Prim.Native.Nat.{ℕ}
use borrow.Author.Tests.{eq-eqb, ne_eqb}
use Rattle.text.specs.Lines.{line_feed, Printed}
use Rattle.text.specs.Feeding.{Step}
use Rattle.text.proofs.Feeding.{Going, printed_nothing}
use Rattle.link.specs.Verdict.{Verdict}
use Rattle.lists.specs.declared.Reading.{Reading}
use Rattle.lists.specs.Printing.{longest, verdict_line}
use Rattle.lists.specs.Steps.{fresh_reading, keeping_of, judged_by, step_of, finish_of}
use Rattle.lists.proofs.Hands.{chosen, passed_over}

pub step_end : (r : Reading) (b : ℕ) {v : Verdict} {f : Reading} → b ≡ line_feed → v ≡ judged_by r → f ≡ fresh_reading → step_of r b ≡ record { state = f; text = verdict_line v }
unfolding step_of
step_end r b {v} {f} q e g = chosen _ _ _ (eq-eqb b line_feed q) ∙ rw (e, g)

pub step_on : (r : Reading) (b : ℕ) {k : Reading} → (b ≡ line_feed → ⊥) → k ≡ keeping_of r b → step_of r b ≡ record { state = k; text = [] }
unfolding step_of
step_on r b {k} q e = passed_over _ _ _ (ne_eqb b line_feed q) ∙ rw e

-- the parts after a branch of the code, each by what the branch made of it
pub arrived : {s r r' : Reading} {input was is is' : List ℕ} {i w w' : ℕ} → is' ≡ is → r' ≡ r → w' ≡ w
    → Going step_of longest s input was is r i w → Going step_of longest s input was is' r' i w'
arrived a b c g = rw (a, b, c) g

-- the end of the input
pub finish_none : (r : Reading) (out : List ℕ) → r.hand.some ≡ false → Printed (finish_of r) out out 0
finish_none r out e = rw (passed_over r.hand.some (verdict_line (judged_by r)) [] e) (printed_nothing out)

pub finish_text : (r : Reading) → r.hand.some ≡ true → (step_of r line_feed).text ≡ finish_of r
finish_text r e =
    ap (λ (s : Step Reading). s.text) (step_end r line_feed refl refl refl) ∙ sym (chosen r.hand.some (verdict_line (judged_by r)) [] e)
