-- Records of flows, the newest first, numbered from 0 in each flow: a record is known by its flow and its number.
use Rattle.std.specs.Prelude.{◌≡◌, Bool, ◌&&◌, List, [], ◌∷◌, ℕ, eqb}
use Rattle.places.specs.Places.{count}

-- how many records of a flow a list has
abbrev pub of_flow : {A : Type 0} → (A → ℕ) → ℕ → List A → ℕ
of_flow {A} flow f xs = count (λ (a : A). eqb (flow a) f) xs

-- the record of this flow and number
abbrev pub is_this : {A : Type 0} → (A → ℕ) → (A → ℕ) → ℕ → ℕ → A → Bool
is_this flow number f n a = eqb (flow a) f && eqb (number a) n

-- each record's number is how many of its flow came before it
abbrev pub Numbered : {A : Type 0} → (A → ℕ) → (A → ℕ) → List A → Type 0
Numbered flow number [] = Unit {0}
Numbered flow number (a ∷ rest) = (number a ≡ of_flow flow (flow a) rest) × Numbered flow number rest
