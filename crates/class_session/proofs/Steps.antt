-- What a line was parsed as, each way that a byte can go, and the end, as steps.
use mathlib.Core.Path.{◌≡◌, sym}
use mathlib.Core.List.{List, []}
use Rattle.std.proofs.Common.{Option}
use Prim.Native.Nat.{ℕ}
use borrow.Author.Tests.{eq-eqb, ne_eqb}
use Rattle.text.specs.Lines.{line_feed, Printed}
use Rattle.text.proofs.Feeding.{Going, printed_nothing}
use Rattle.class_desk.specs.declared.Command.{Command}
use Rattle.class_desk.specs.declared.Desk.{Desk}
use Rattle.class_desk.specs.declared.Heard.{Heard}
use Rattle.feeding.specs.declared.line.Line.{Line}
use Rattle.feeding.specs.Lines.{kept_of, ended_of}
use Rattle.class_replies.specs.Printing.{line_of, longest}
use Rattle.class_session.specs.declared.Session.{Session}
use Rattle.class_session.specs.Whole.{answer_of}
use Rattle.class_session.specs.Steps.{kept_as, step_of, finish_of}

-- a line feed, and any other byte
pub step_heard : (s : Session) (b : ℕ) {o : Option Command} {h : Heard} → b ≡ line_feed → o ≡ kept_as s.line → h ≡ answer_of s.desk o
    → step_of s b ≡ record { state = record { desk = h.desk; line = ended_of s.line }; text = line_of h.reply }
unfolding step_of
step_heard s b l p e = rw (eq-eqb b line_feed l, sym p, e)

pub step_other : (s : Session) (b : ℕ) → (b ≡ line_feed → ⊥) → step_of s b ≡ record { state = record { desk = s.desk; line = kept_of s.line b }; text = [] }
unfolding step_of
step_other s b n = rw (ne_eqb b line_feed n)

-- the parts after a branch of the code, each by what the branch made of it
pub arrived : {s : Session} {input was is is' : List ℕ} {d d' : Desk} {line line' : Line} {i w w' : ℕ}
    → is' ≡ is → d' ≡ d → line' ≡ line → w' ≡ w → Going step_of longest s input was is (record { desk = d; line = line }) i w
    → Going step_of longest s input was is' (record { desk = d'; line = line' }) i w'
arrived a b c f g = rw (a, b, c, f) g

-- the end of the input
pub finish_empty : (s : Session) (out : List ℕ) → s.line.count ≡ 0 → Printed (finish_of s) out out 0
finish_empty s out e = rw (eq-eqb s.line.count 0 e) (printed_nothing out)

pub finish_text : (s : Session) → (s.line.count ≡ 0 → ⊥) → (step_of s line_feed).text ≡ finish_of s
unfolding step_of
finish_text s n = rw (ne_eqb s.line.count 0 n)
