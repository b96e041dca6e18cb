-- Which held place goes first: the least by rank, then by flow, then by number.
use Rattle.std.specs.Prelude.{◌≡◌, Option, None, Some, Bool, true, false, cond, ◌&&◌, ◌||◌, List, [], ◌∷◌, ℕ, suc, ◌<◌, ltb, eqb, length, get_or}

-- what a choice goes by
pub record Key : Type 0 where
  pub rank : ℕ
  pub flow : ℕ
  pub number : ℕ

unfoldable pub comes_before : Key → Key → Bool
comes_before a b =
    ltb a.rank b.rank
    || (eqb a.rank b.rank
    && (ltb a.flow b.flow || (eqb a.flow b.flow && ltb a.number b.number)))

-- a place and what it holds, or nothing
pub data Choice (A : Type 0) : Type 0 where
  nothing : Choice A
  at : ℕ → A → Choice A

-- a choice as what a search answers: the place and what it holds, or none
abbrev pub chosen_of : {A : Type 0} → Choice A → Option (ℕ × A)
chosen_of nothing = None
chosen_of (at k x) = Some (k, x)

-- the choice so far, or the place k where that is held and comes before it
unfoldable pub better : {A : Type 0} → (A → Bool) → (ℕ → A → Key) → Choice A → ℕ → A → Choice A
better held key nothing k x = cond (held x) (at k x) nothing
better held key (at j y) k x = cond (held x && comes_before (key k x) (key j y)) (at k x) (at j y)

-- x at place k is held, and comes before the best so far where there is one
abbrev pub better_than : {A : Type 0} → (A → Bool) → (ℕ → A → Key) → ℕ → A → Option (ℕ × A) → Bool
better_than held key k x None = held x
better_than held key k x (Some best) = held x && comes_before (key k x) (key best.0 best.1)

-- the best of a choice and of the places of a list that starts at place k
unfoldable pub least : {A : Type 0} → (A → Bool) → (ℕ → A → Key) → Choice A → ℕ → List A → Choice A
least held key best k [] = best
least held key best k (x ∷ xs) = least held key (better held key best k x) (suc k) xs

-- the least held place of all
abbrev pub least_held : {A : Type 0} → (A → Bool) → (ℕ → A → Key) → List A → Choice A
least_held held key xs = least held key nothing 0 xs

-- A choice among places is right: nothing only where none is held, and otherwise a held place that no held place comes before.
abbrev pub Leads : {A : Type 0} → (A → Bool) → (ℕ → A → Key) → A → List A → Choice A → Type 0
Leads held key free xs nothing = (i : ℕ) → held (get_or xs i free) ≡ true → ⊥
Leads held key free xs (at k x) =
    (k < length xs)
    × (get_or xs k free ≡ x)
    × (held x ≡ true)
    × ((i : ℕ) → held (get_or xs i free) ≡ true → comes_before (key i (get_or xs i free)) (key k x) ≡ false)
