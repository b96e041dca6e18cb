-- The calls of a whole session.
use Rattle.std.specs.Prelude.{List, [], ◌∷◌, ◌++◌, ℕ, Option, None, Some}
use Rattle.station.specs.declared.Call.{Call}
use Rattle.text.specs.Input.{lines_of}
use Rattle.session.specs.Whole.{heard_as}

-- a line that is no command is no call
abbrev pub calls_by : Option Call → List Call
calls_by None = []
calls_by (Some call) = call ∷ []

-- the calls that the station hears in some lines
unfoldable pub heard_in : List (List ℕ) → List Call
heard_in [] = []
heard_in (line ∷ lines) = calls_by (heard_as line) ++ heard_in lines

-- and in a whole input
abbrev pub calls_in : List ℕ → List Call
calls_in bytes = heard_in (lines_of bytes)
