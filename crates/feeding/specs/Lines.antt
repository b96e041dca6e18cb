-- The line that is not at its end yet, byte by byte.
use Rattle.std.specs.Prelude.{cond, ℕ, ◌+◌, ltb, set, replicate}
use Rattle.feeding.specs.declared.line.Line.{Line}

-- no byte was fed
abbrev pub fresh_line : Line
fresh_line = record { kept = replicate 32 0; count = 0 }

-- one byte more: the first 32 of a line are kept; of a longer one only that it is longer
abbrev pub kept_of : Line → ℕ → Line
kept_of line b = cond (ltb line.count 32) (record { kept = set line.kept line.count b; count = line.count + 1 }) (record line { count = 33 })

-- the line is at its end, and the next one begins
abbrev pub ended_of : Line → Line
ended_of line = record line { count = 0 }
