-- A session's promises line by line, from what a line is read as.
use mathlib.Core.Path.{◌≡◌, refl, ap}
use mathlib.Core.Bool.{Bool, true, false, cond}
use mathlib.Core.List.{List, ◌∷◌, ◌++◌}
use Rattle.std.proofs.Common.{Option, None, Some}
use Prim.Native.Nat.{ℕ}
use native.Mathlib.Omega.{arith}
use borrow.Author.Tests.{le-leb}
use lib.Dec.{leb}
use lib.ListN.{length}
use Rattle.class_desk.specs.declared.Desk.{Desk}
use Rattle.class_desk.specs.declared.Command.{Command}
use Rattle.class_lines.specs.Grammar.{text_of}
use Rattle.class_lines.specs.Reading.{read_command}
use Rattle.class_lines.proofs.Texts.{reads_one_text, texts_fit}
use Rattle.class_replies.specs.Printing.{line_of}
use Rattle.class_session.specs.Whole.{heard_as, answer_of, answers_of}
use Rattle.promises_sharing.specs.Sessions.{CommandsAnswered, OthersAnswered}

answered : (d : Desk) (line : List ℕ) (lines : List (List ℕ)) (o : Option Command) → heard_as line ≡ o
    → answers_of d (line ∷ lines) ≡ line_of (answer_of d o).reply ++ answers_of (answer_of d o).desk lines
unfolding answers_of
answered d line lines o e = ap (λ (x : Option Command). line_of (answer_of d x).reply ++ answers_of (answer_of d x).desk lines) e

pub commands_answered : CommandsAnswered
commands_answered d command lines small =
    answered d (text_of command) lines (Some command)
    (rw (le-leb (length (text_of command)) 32 (omega (arith, texts_fit command small))) ((reads_one_text (text_of command)).1 command refl small))

pub others_answered : OthersAnswered
others_answered d line lines other = answered d line lines None (go (leb (length line) 32) ((reads_one_text line).2 other))
  where
    go : (b : Bool) → read_command line ≡ None → cond b (read_command line) None ≡ None
    go true e = e
    go false e = refl
