-- What a line is read as, byte by byte, and the law by which a reader may go instead: a line is read as a list exactly where it is the
-- list's one text.
use Rattle.std.specs.Prelude.{Bool, true, false, cond, ◌&&◌, not, List, [], ◌∷◌, ◌++◌, ◌≡◌, ℕ, ◌-◌, eqb, Option, None, Some}
use Rattle.link.specs.declared.Declaration.{Declaration}
use Rattle.text.specs.Reading.{blank, is_digit, grown, goes_on}
use Rattle.lists.specs.declared.taking.Hand.{Hand}
use Rattle.lists.specs.Grammar.{list_text, Small}

-- nothing at hand: no byte of the line was read
abbrev pub fresh_hand : Hand
fresh_hand = record { some = false; bad = false; begun = false; value = 0; given = 0; burst = 0; period = 0 }

-- the number at hand is at its end: it is the next one of its declaration
abbrev pub ended_of : Hand → Hand
ended_of h =
    cond (eqb h.given 0)
    (record { some = true; bad = h.bad; begun = false; value = h.value; given = 1; burst = h.value; period = h.period })
    (cond (eqb h.given 1)
    (record { some = true; bad = h.bad; begun = false; value = h.value; given = 2; burst = h.burst; period = h.value })
    (record { some = true; bad = h.bad; begun = false; value = h.value; given = 0; burst = h.burst; period = h.period }))

-- a number with this value is at hand
abbrev pub at_hand : Hand → ℕ → Hand
at_hand h value = record { some = true; bad = h.bad; begun = true; value = value; given = h.given; burst = h.burst; period = h.period }

-- the line is no list's text
abbrev pub spoilt : Hand → Hand
spoilt h = record { some = true; bad = true; begun = h.begun; value = h.value; given = h.given; burst = h.burst; period = h.period }

-- one byte more: it goes on with the number at hand, ends it, or begins one
unfoldable pub takes_of : Hand → ℕ → Hand
takes_of h b =
    cond h.begun
    (cond (eqb b blank) (ended_of h) (cond (goes_on h.value b) (at_hand h (grown h.value b)) (spoilt h)))
    (cond (is_digit b) (at_hand h (b - 48)) (spoilt h))

-- at the end of the number at hand a declaration is whole: that number is its deadline
abbrev pub whole_at : Hand → Bool
whole_at h = h.begun && (not h.bad && eqb h.given 2)

-- the declaration then
abbrev pub declared : Hand → Declaration
declared h = record { burst = h.burst; period = h.period; deadline = h.value }

-- a line as far as it was read: the declarations that are whole, and what is at hand
pub record Line : Type 0 where
  pub whole : List Declaration
  pub hand : Hand

-- before any byte
abbrev pub fresh_line : Line
fresh_line = record { whole = []; hand = fresh_hand }

-- one byte more; a blank after a deadline makes a declaration whole
abbrev pub line_step : Line → ℕ → Line
line_step line b =
    record {
      whole = cond (whole_at line.hand && eqb b blank) (line.whole ++ declared line.hand ∷ []) line.whole;
      hand = takes_of line.hand b;
    }

-- byte after byte
unfoldable pub line_from : Line → List ℕ → Line
line_from line [] = line
line_from line (b ∷ bs) = line_from (line_step line b) bs

-- the list that a line is, at its end: an empty line is the empty list, and any other ends with a deadline
abbrev pub heard_as : Line → Option (List Declaration)
heard_as line =
    cond line.hand.some (cond (whole_at line.hand) (Some (line.whole ++ declared line.hand ∷ [])) None) (Some line.whole)

-- what a line is read as
abbrev pub read_list : List ℕ → Option (List Declaration)
read_list line = heard_as (line_from fresh_line line)

-- A line is read as a list exactly where it is the list's one text and each number is small enough; any other line is none.
abbrev pub ReadsOneList : Type 0
ReadsOneList =
    (line : List ℕ)
    → ((ds : List Declaration) → read_list line ≡ Some ds → (line ≡ list_text ds) × Small ds)
    × ((ds : List Declaration) → line ≡ list_text ds → Small ds → read_list line ≡ Some ds)
    × (((ds : List Declaration) → line ≡ list_text ds → Small ds → ⊥) → read_list line ≡ None)
