-- The radio's own slot count, of 16 bits.
use Rattle.std.specs.Prelude.{ℕ, ◌+◌, ◌-◌, ◌%◌}

-- slots passed from one count to a later one: the later less the earlier, modulo 65,536
abbrev pub slots_passed : ℕ → ℕ → ℕ
slots_passed earlier later = (later + 65536 - earlier) % 65536
