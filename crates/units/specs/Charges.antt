-- What a byte costs: the charge by weight, so that charge times weight is one byte at weight 1.
use Rattle.std.specs.Prelude.{◌≡◌, ℕ, ◌-◌, ◌*◌, false, cond, List, [], ◌∷◌, slice_index}
use Rattle.units.specs.Limits.{bad_weight}

-- a byte at weight 1, in tag units
abbrev pub byte_units : ℕ
byte_units = 720720

-- the charges of the weights 1 to 16
abbrev pub charges : List ℕ
charges =
    720720 ∷ 360360 ∷ 240240 ∷ 180180 ∷ 144144 ∷ 120120 ∷ 102960 ∷ 90090 ∷ 80080 ∷ 72072 ∷ 65520 ∷ 60060 ∷ 55440 ∷ 51480 ∷ 48048 ∷ 45045 ∷ []

-- a weight that no flow can have has no charge
abbrev pub charge_of : ℕ → ℕ
charge_of weight = cond (bad_weight weight) 0 (slice_index charges (weight - 1))

-- every charge times its weight is a byte at weight 1
abbrev pub ProductRule : Type 0
ProductRule = (weight : ℕ) → bad_weight weight ≡ false → charge_of weight * weight ≡ byte_units
