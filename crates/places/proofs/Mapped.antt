-- Places of which each was changed in the same way: a store, a flow's places, and the first free one, where what is held stays held.
use mathlib.Core.Path.{◌≡◌, refl, ap, ◌∙◌}
use mathlib.Core.Bool.{Bool, true, false, cond}
use mathlib.Core.List.{List, [], ◌∷◌, map}
use Prim.Native.Nat.{ℕ, zero, suc, ◌*◌}
use lib.ListN.{set, take, drop}
use Rattle.places.specs.Places.{places_of, first_free}

module _ {A B : Type 0} (f : A → B) where
  -- a store
  pub map_set : (xs : List A) (i : ℕ) (x : A) → map f (set xs i x) ≡ set (map f xs) i (f x)
  map_set [] i x = refl
  map_set (y ∷ ys) zero x = refl
  map_set (y ∷ ys) (suc i) x = ap (λ (r : List B). f y ∷ r) (map_set ys i x)

  -- a list's front
  map_take : (n : ℕ) (xs : List A) → map f (take n xs) ≡ take n (map f xs)
  map_take zero xs = refl
  map_take (suc n) [] = refl
  map_take (suc n) (x ∷ xs) = ap (λ (r : List B). f x ∷ r) (map_take n xs)

  -- and its rest
  map_drop : (n : ℕ) (xs : List A) → map f (drop n xs) ≡ drop n (map f xs)
  map_drop zero xs = refl
  map_drop (suc n) [] = refl
  map_drop (suc n) (x ∷ xs) = map_drop n xs

  -- a flow's places
  pub map_places : (n flow : ℕ) (xs : List A) → map f (places_of n flow xs) ≡ places_of n flow (map f xs)
  map_places n flow xs = map_take n (drop (flow * n) xs) ∙ ap (take n) (map_drop (flow * n) xs)

  -- the first free place
  pub map_free : (held : A → Bool) (kept : B → Bool) → ((x : A) → kept (f x) ≡ held x) → (xs : List A) → first_free kept (map f xs) ≡ first_free held xs
  unfolding first_free
  map_free held kept e [] = refl
  map_free held kept e (x ∷ xs) = rw (e x) (go (held x) (map_free held kept e xs))
    where
      go : (t : Bool) → first_free kept (map f xs) ≡ first_free held xs → cond t (suc (first_free kept (map f xs))) 0 ≡ cond t (suc (first_free held xs)) 0
      go true r = ap suc r
      go false r = refl
