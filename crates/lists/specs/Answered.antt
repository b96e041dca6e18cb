-- What a line of lists is answered, and how a list is spelled.
use Rattle.std.specs.Prelude.{◌≡◌, List, [], ◌∷◌, ◌++◌, ℕ}
use Rattle.link.specs.declared.Declaration.{Declaration}
use Rattle.link.specs.Verdicts.{admit_of}
use Rattle.text.specs.Decimal.{decimal_of}
use Rattle.text.specs.Spelled.{bytes_of, field, spelled}
use Rattle.lists.specs.Grammar.{list_text, Small}
use Rattle.lists.specs.Printing.{verdict_line}
use Rattle.lists.specs.Whole.{answers_of}

-- A list's text: burst, period and deadline of each declaration, one blank between two numbers; of the empty list no byte.
pub record ListsSpelled : Type 0 where
  pub none : list_text [] ≡ []
  pub one : (d : Declaration) → list_text (d ∷ []) ≡ decimal_of d.burst ++ (field d.period ++ field d.deadline)
  pub more : (d e : Declaration) (ds : List Declaration) → list_text (d ∷ e ∷ ds) ≡ list_text (d ∷ []) ++ (bytes_of " " ++ list_text (e ∷ ds))

-- A list's text is answered by the line of its verdict, and every other line by `no 11`, once.
pub record LinesAnswered : Type 0 where
  pub lists : (ds : List Declaration) (lines : List (List ℕ)) → Small ds → answers_of (list_text ds ∷ lines) ≡ verdict_line (admit_of ds) ++ answers_of lines
  pub others :
      (line : List ℕ) (lines : List (List ℕ)) → ((ds : List Declaration) → line ≡ list_text ds → Small ds → ⊥)
      → answers_of (line ∷ lines) ≡ spelled (bytes_of "no" ∷ field 11 ∷ []) ++ answers_of lines
