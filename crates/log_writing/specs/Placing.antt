-- Numbers as bytes, and bytes put into the room at a place.
use Rattle.std.specs.Prelude.{List, [], ◌∷◌, ◌++◌, ℕ, zero, suc, ◌+◌, ◌/◌, ◌%◌, length, take, drop}

-- the lowest bytes of a number, so many of them, the lowest first
unfoldable pub low_bytes : ℕ → ℕ → List ℕ
low_bytes zero n = []
low_bytes (suc k) n = n % 256 ∷ low_bytes k (n / 256)

-- of numbers one after the other
unfoldable pub word_bytes : ℕ → List ℕ → List ℕ
word_bytes k [] = []
word_bytes k (w ∷ ws) = low_bytes k w ++ word_bytes k ws

-- the bytes stand from the place on; before and after them the room is as it was
abbrev pub put_at : ℕ → List ℕ → List ℕ → List ℕ
put_at at bytes room = take at room ++ bytes ++ drop (at + length bytes) room
