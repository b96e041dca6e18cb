-- The openings of a lane as words, for the writer.
use Rattle.std.specs.Prelude.{cond, List, ◌++◌, map, ℕ, ◌+◌, ◌-◌, eqb, length, set, replicate}
use Rattle.log_format.specs.Words.{opening_word}
use Rattle.logging.specs.declared.Openings.{Openings}
use Rattle.logging.specs.Logging.{listed}

-- words from the start on, and zeros after them
abbrev pub padded : List ℕ → Openings
padded ws = record { words = ws ++ replicate (16 - length ws) 0; count = length ws }

abbrev pub openings_of : List ℕ → Openings
openings_of numbers = padded (map opening_word (listed 0 numbers))

-- one flow more, after those below it
abbrev pub with_opening : Openings → ℕ → ℕ → Openings
with_opening o flow number =
    cond (eqb number 0) o
    (record { words = set o.words o.count (opening_word (record { flow = flow; number = number })); count = o.count + 1 })
