-- Places for any kind of record, in one list, flow by place. A test says which places are held.
use Rattle.std.specs.Prelude.{Bool, true, false, cond, List, [], ◌∷◌, map, ℕ, suc, ◌+◌, ◌*◌, ◌/◌, take, drop}

-- 1 where a test holds, else 0
abbrev pub bit : Bool → ℕ
bit true = 1
bit false = 0

-- how many of a list pass a test
unfoldable pub count : {A : Type 0} → (A → Bool) → List A → ℕ
count test [] = 0
count test (x ∷ xs) = bit (test x) + count test xs

-- how many places of a list that starts at place k pass a test of the place and of what it holds
unfoldable pub count_at : {A : Type 0} → (ℕ → A → Bool) → ℕ → List A → ℕ
count_at test k [] = 0
count_at test k (x ∷ xs) = bit (test k x) + count_at test (suc k) xs

-- the places of one flow, where each flow has n
abbrev pub places_of : {A : Type 0} → ℕ → ℕ → List A → List A
places_of n flow xs = take n (drop (flow * n) xs)

-- the flow that a place belongs to, where each flow has n
abbrev pub flow_of : ℕ → ℕ → ℕ
flow_of n place = place / n

-- the first free place of a list, or the list's length where all are held
unfoldable pub first_free : {A : Type 0} → (A → Bool) → List A → ℕ
first_free held [] = 0
first_free held (x ∷ xs) = cond (held x) (suc (first_free held xs)) 0

-- each place that passes a test is cleared to the free one
abbrev pub cleared : {A : Type 0} → (A → Bool) → A → A → A
cleared gone free x = cond (gone x) free x

abbrev pub cleared_all : {A : Type 0} → (A → Bool) → A → List A → List A
cleared_all gone free xs = map (cleared gone free) xs
