-- Two logs: the tail of the longer one, and the first difference of their events.
use Rattle.std.specs.Prelude.{Bool, true, false, cond, ◌&&◌, List, [], ◌∷◌, ℕ, ◌+◌, eqb, drop, Option, None, Some}
use Rattle.log_format.specs.Format.{Opening, Log, first_byte}
use Rattle.log_format.specs.Faults.{event_start}
use Rattle.log_format.specs.Reading.{Reading, Good, Bad, read_of}

unfoldable pub same_openings : List Opening → List Opening → Bool
same_openings [] [] = true
same_openings [] (p ∷ ps) = false
same_openings (o ∷ os) [] = false
same_openings (o ∷ os) (p ∷ ps) = eqb o.flow p.flow && eqb o.number p.number && same_openings os ps

-- equal first byte and openings
abbrev pub same_start : Log → Log → Bool
same_start x y = eqb (first_byte x.form) (first_byte y.form) && same_openings x.urgent y.urgent && same_openings x.fair y.fair

-- two bytes lists can be compared: both are good logs, with equal first byte and openings
abbrev pub comparable_by : Reading → Reading → Bool
comparable_by (Good x) (Good y) = same_start x y
comparable_by (Good x) (Bad fault place) = false
comparable_by (Bad fault place) reading = false

abbrev pub comparable : List ℕ → List ℕ → Bool
comparable a b = comparable_by (read_of a) (read_of b)

-- what the longer of two bodies has past the shorter, if one is a prefix of the other; else nothing
unfoldable pub rest_of : List ℕ → List ℕ → List ℕ
rest_of [] ys = ys
rest_of (x ∷ xs) [] = x ∷ xs
rest_of (x ∷ xs) (y ∷ ys) = cond (eqb x y) (rest_of xs ys) []

-- the first place where two bodies differ within the shorter, the first byte of each being at the place at
unfoldable pub differ_from : ℕ → List ℕ → List ℕ → Option ℕ
differ_from at [] ys = None
differ_from at (x ∷ xs) [] = None
differ_from at (x ∷ xs) (y ∷ ys) = cond (eqb x y) (differ_from (at + 1) xs ys) (Some at)

abbrev pub tail_of : List ℕ → List ℕ → List ℕ
tail_of a b = cond (comparable a b) (rest_of (drop (event_start a) a) (drop (event_start b) b)) []

abbrev pub difference_of : List ℕ → List ℕ → Option ℕ
difference_of a b = cond (comparable a b) (differ_from (event_start a) (drop (event_start a) a) (drop (event_start b) b)) None
