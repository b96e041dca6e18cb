-- A session's promises line by line, from what a line is read as.
use mathlib.Core.Path.{◌≡◌, refl, ap}
use mathlib.Core.Bool.{Bool, true, false, cond}
use mathlib.Core.List.{List, ◌∷◌, ◌++◌}
use Rattle.std.proofs.Common.{Option, None, Some}
use Prim.Native.Nat.{ℕ}
use native.Mathlib.Omega.{arith}
use borrow.Author.Tests.{le-leb}
use lib.Dec.{leb}
use lib.ListN.{length}
use Rattle.station.specs.declared.Station.{Station}
use Rattle.station.specs.declared.Call.{Call}
use Rattle.lines.specs.Grammar.{text_of}
use Rattle.lines.specs.Reading.{read_call}
use Rattle.lines.proofs.Texts.{reads_one_text, texts_fit}
use Rattle.session.specs.Whole.{heard_as, answer_of, answers_of}
use Rattle.promises.specs.Sessions.{CallsAnswered, OthersAnswered}

answered : (s : Station) (line : List ℕ) (lines : List (List ℕ)) (o : Option Call) → heard_as line ≡ o
    → answers_of s (line ∷ lines) ≡ (answer_of s o).text ++ answers_of (answer_of s o).station lines
unfolding answers_of
answered s line lines o e = ap (λ (x : Option Call). (answer_of s x).text ++ answers_of (answer_of s x).station lines) e

pub calls_answered : CallsAnswered
calls_answered s call lines small =
    answered s (text_of call) lines (Some call)
    (rw (le-leb (length (text_of call)) 32 (omega (arith, texts_fit call small))) ((reads_one_text (text_of call)).1 call refl small))

pub others_answered : OthersAnswered
others_answered s line lines other = answered s line lines None (go (leb (length line) 32) ((reads_one_text line).2 other))
  where
    go : (b : Bool) → read_call line ≡ None → cond b (read_call line) None ≡ None
    go true e = e
    go false e = refl
