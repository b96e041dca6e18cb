-- What a line was answered, each way that a byte can go, and the end, as steps.
use mathlib.Core.Path.{◌≡◌, sym}
use mathlib.Core.List.{List, []}
use Rattle.std.proofs.Common.{Option}
use Prim.Native.Nat.{ℕ}
use borrow.Author.Tests.{eq-eqb, ne_eqb}
use Rattle.station.specs.declared.Call.{Call}
use Rattle.station.specs.declared.Reply.{Reply}
use Rattle.station.specs.declared.Station.{Station}
use Rattle.feeding.specs.declared.line.Line.{Line}
use Rattle.feeding.specs.Lines.{kept_of, ended_of}
use Rattle.text.specs.Lines.{line_feed, Printed}
use Rattle.text.proofs.Feeding.{Going, printed_nothing}
use Rattle.replies.specs.Printing.{line_of, longest}
use Rattle.session.specs.declared.Session.{Session}
use Rattle.session.specs.Whole.{answer_of}
use Rattle.session.specs.Steps.{kept_as, step_of, finish_of}

-- a line feed, and any other byte
pub step_heard : (s : Session) (b : ℕ) {o : Option Call} {u : Station} (r : Reply) → b ≡ line_feed → o ≡ kept_as s.line
    → u ≡ (answer_of s.station o).station → line_of r ≡ (answer_of s.station o).text
    → step_of s b ≡ record { state = record { station = u; line = ended_of s.line }; text = line_of r }
unfolding step_of
step_heard s b r l p e f = rw (eq-eqb b line_feed l, sym p, e, f)

pub step_other : (s : Session) (b : ℕ) → (b ≡ line_feed → ⊥) → step_of s b ≡ record { state = record { station = s.station; line = kept_of s.line b }; text = [] }
unfolding step_of
step_other s b n = rw (ne_eqb b line_feed n)

-- the parts after a branch of the code, each by what the branch made of it
pub arrived : {s : Session} {input was is is' : List ℕ} {u u' : Station} {line line' : Line} {i w w' : ℕ}
    → is' ≡ is → u' ≡ u → line' ≡ line → w' ≡ w → Going step_of longest s input was is (record { station = u; line = line }) i w
    → Going step_of longest s input was is' (record { station = u'; line = line' }) i w'
arrived a b c f g = rw (a, b, c, f) g

-- the end of the input
pub finish_empty : (s : Session) (out : List ℕ) → s.line.count ≡ 0 → Printed (finish_of s) out out 0
finish_empty s out e = rw (eq-eqb s.line.count 0 e) (printed_nothing out)

pub finish_text : (s : Session) → (s.line.count ≡ 0 → ⊥) → (step_of s line_feed).text ≡ finish_of s
unfolding step_of
finish_text s n = rw (ne_eqb s.line.count 0 n)
