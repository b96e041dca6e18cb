-- What two logs have in common, as the functions answer it.
use Rattle.std.specs.Prelude.{Bool, false, cond, List, ℕ, drop, Option, None, Some, is_none}
use Rattle.log_format.specs.Faults.{event_start}
use Rattle.log_format.specs.Pairs.{comparable, differ_from}

-- where the events of two logs start, if the logs have the same first byte and openings
abbrev pub common_of : List ℕ → List ℕ → Option ℕ
common_of a b = cond (comparable a b) (Some (event_start a)) None

-- both start alike, and their events differ nowhere within the shorter
abbrev pub begins : List ℕ → List ℕ → Bool
begins a b = cond (comparable a b) (is_none (differ_from (event_start a) (drop (event_start a) a) (drop (event_start a) b))) false
