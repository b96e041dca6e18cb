-- Which of two waiting records goes before the other, said outright.
use Rattle.std.specs.Prelude.{◌≡◌, ◌⊎◌, true, ◌<◌}
use Rattle.places.specs.Choice.{Key, comes_before}

-- by rank, which is a cell's last slot or a packet's start tag; of equal rank by flow; and of one flow by number
abbrev pub GoesBefore : Key → Key → Type 0
GoesBefore a b =
    (a.rank < b.rank)
    ⊎ ((a.rank ≡ b.rank) × (a.flow < b.flow))
    ⊎ ((a.rank ≡ b.rank) × (a.flow ≡ b.flow) × (a.number < b.number))

-- The order that the choices of both lanes go by is that one.
abbrev pub OrderSaid : Type 0
OrderSaid = (a b : Key) → (comes_before a b ≡ true → GoesBefore a b) × (GoesBefore a b → comes_before a b ≡ true)
