-- The letters of a log's records, and how many numbers follow them: by lane for openings, by kind for events.
use Rattle.std.specs.Prelude.{Bool, cond, ℕ, eqb}
use Rattle.lines.specs.Grammar.{big_u, big_f, small_u, small_f, small_t, small_x, small_b, small_e}

abbrev pub lane_letter : Bool → ℕ
lane_letter urgent = cond urgent big_u big_f

abbrev pub kind_letter : ℕ → ℕ
kind_letter kind =
    cond (eqb kind 0) small_t
    (cond (eqb kind 1) small_x
    (cond (eqb kind 2) small_u (cond (eqb kind 3) small_f (cond (eqb kind 4) small_b small_e))))

abbrev pub kind_numbers : ℕ → ℕ
kind_numbers kind = cond (eqb kind 2) 2 (cond (eqb kind 3) 2 0)
