-- The best of the first i places: what one place more makes of it.
use Rattle.std.proofs.Common.{◌≡◌, IfSome, subst, cond, refl, sym, ap, ◌∙◌, Bool, true, false, Option, None, Some, List, [], ◌∷◌, ◌++◌, ℕ, suc, ◌+◌, ◌<◌, ◌≤◌, add-one, arith, length, get_or, take}
use lib.ListN.{length-take}
use lib.Seq.{take-suc, take_all}
use Rattle.std.proofs.lemmas.Option.{IfSome_then, none-some, some_pair_parts}
use Rattle.places.specs.Choice.{Key, better_than, chosen_of, Choice, nothing, at, better, least, least_held}

module _ {A : Type 0} (held : A → Bool) (key : ℕ → A → Key) where
  -- the best of a choice and of one place more
  better_or : (best : Choice A) (k : ℕ) (x : A) (t : Bool) → better_than held key k x (chosen_of best) ≡ t
      → chosen_of (better held key best k x) ≡ cond t (Some (k, x)) (chosen_of best)
  unfolding better
  better_or nothing k x t e = rw e (go t)
    where
      go : (t : Bool) → chosen_of (cond t (at k x) nothing) ≡ cond t (Some (k, x)) None
      go true = refl
      go false = refl
  better_or (at j y) k x t e = rw e (go t)
    where
      go : (t : Bool) → chosen_of (cond t (at k x) (at j y)) ≡ cond t (Some (k, x)) (Some (j, y))
      go true = refl
      go false = refl

  -- one place more at the end of a list
  least_snoc : (best : Choice A) (k : ℕ) (xs : List A) (x : A) (i : ℕ) → k + length xs ≡ i
      → least held key best k (xs ++ x ∷ []) ≡ better held key (least held key best k xs) i x
  unfolding least
  least_snoc best k [] x i e = ap (λ (m : ℕ). better held key best m x) (omega arith)
  least_snoc best k (y ∷ ys) x i e = least_snoc (better held key best k y) (suc k) ys x i (omega arith)

  chosen_next : (xs : List A) (i : ℕ) (x : A) (t : Bool) → i < length xs → x ≡ get_or xs i x
      → better_than held key i x (chosen_of (least_held held key (take i xs))) ≡ t
      → chosen_of (least_held held key (take (i + 1) xs)) ≡ cond t (Some (i, x)) (chosen_of (least_held held key (take i xs)))
  chosen_next xs i x t p e b =
      rw (add-one, take-suc xs i x p, ← e, least_snoc nothing 0 (take i xs) x i (simp length-take (omega arith))) (better_or (least_held held key (take i xs)) i x t b)

  -- the best of the places before i, which is one of them
  pub record Best (xs : List A) (i : ℕ) (best : Option (ℕ × A)) : Type 0 where
    pub choice : best ≡ chosen_of (least_held held key (take i xs))
    pub within : IfSome best (λ b. b.0 < i)

  pub best_starts : (xs : List A) → Best xs 0 None
  unfolding least
  best_starts xs = record { choice = refl; within = tt }

  module _ (xs : List A) (i : ℕ) (x : A) (best : Option (ℕ × A)) (p : i < length xs) (e : x ≡ get_or xs i x) (q : Best xs i best) where
    pub best_new : better_than held key i x best ≡ true → Best xs (i + 1) (Some (i, x))
    best_new b = record { choice = sym (chosen_next xs i x true p e (subst (λ o. better_than held key i x o ≡ true) q.choice b)); within = omega arith }

    pub best_kept : better_than held key i x best ≡ false → Best xs (i + 1) best
    best_kept b =
        record {
          choice = q.choice ∙ sym (chosen_next xs i x false p e (subst (λ o. better_than held key i x o ≡ false) q.choice b));
          within = IfSome_then best q.within (λ b h. omega arith);
        }

  -- before the end of the list the best is the choice of all
  pub best_ends : (xs : List A) (i : ℕ) (best : Option (ℕ × A)) → length xs ≤ i → Best xs i best → best ≡ chosen_of (least_held held key xs)
  best_ends xs i best l q = q.choice ∙ ap (λ ys. chosen_of (least_held held key ys)) (take_all i xs l)

-- what is chosen, by what a search answers
pub chosen_at : {A : Type 0} (choice : Choice A) (k : ℕ) (x : A) → Some (k, x) ≡ chosen_of choice → choice ≡ at k x
chosen_at nothing k x e = absurd (none-some _ (sym e))
chosen_at (at j y) k x e = let p = some_pair_parts k j x y e in rw (p.0, p.1)

pub chosen_none : {A : Type 0} (choice : Choice A) → None ≡ chosen_of choice → choice ≡ nothing
chosen_none nothing e = refl
chosen_none (at k x) e = absurd (none-some _ e)
