-- What a line of lists is answered, by what it is read as.
use mathlib.Core.Path.{◌≡◌, refl, sym, ◌∙◌, ap}
use mathlib.Core.List.{List, [], ◌∷◌, ◌++◌, append_assoc}
use Rattle.std.proofs.Common.{Option, None, Some}
use Prim.Native.Nat.{ℕ}
use Rattle.link.specs.declared.Declaration.{Declaration}
use Rattle.text.specs.Decimal.{decimal_of}
use Rattle.text.specs.Reading.{blank}
use Rattle.text.specs.Spelled.{bytes_of}
use Rattle.lists.specs.Grammar.{numbers_in, numbers_text, list_text}
use Rattle.lists.specs.Printing.{verdict_line}
use Rattle.lists.specs.Reading.{read_list}
use Rattle.lists.specs.Whole.{verdict_of, answers_of}
use Rattle.lists.specs.Answered.{ListsSpelled, LinesAnswered}
use Rattle.lists.proofs.Texts.{reads_one_list}

answered : (line : List ℕ) (lines : List (List ℕ)) (o : Option (List Declaration)) → read_list line ≡ o
    → answers_of (line ∷ lines) ≡ verdict_line (verdict_of o) ++ answers_of lines
unfolding answers_of
answered line lines o e = ap (λ (x : Option (List Declaration)). verdict_line (verdict_of x) ++ answers_of lines) e

pub lines_answered : LinesAnswered
unfolding bytes_of
lines_answered =
    record {
      lists = λ ds lines small. answered (list_text ds) lines (Some ds) ((reads_one_list (list_text ds)).1 ds refl small);
      others = λ line lines other. answered line lines None ((reads_one_list line).2 other);
    }

more : (d e : Declaration) (ds : List Declaration) → list_text (d ∷ e ∷ ds) ≡ list_text (d ∷ []) ++ (bytes_of " " ++ list_text (e ∷ ds))
unfolding numbers_in numbers_text bytes_of
more d e ds =
    sym (append_assoc (decimal_of d.burst) (blank ∷ (decimal_of d.period ++ blank ∷ decimal_of d.deadline)) (blank ∷ list_text (e ∷ ds))
    ∙ ap (λ (t : List ℕ). decimal_of d.burst ++ blank ∷ t) (append_assoc (decimal_of d.period) (blank ∷ decimal_of d.deadline) (blank ∷ list_text (e ∷ ds))))

pub lists_spelled : ListsSpelled
unfolding numbers_in numbers_text bytes_of
lists_spelled = record { none = refl; one = λ d. refl; more = more }
