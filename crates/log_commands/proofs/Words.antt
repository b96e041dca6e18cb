-- A word at a line's start, as the library tests it.
use Rattle.std.proofs.Common.{◌≡◌, ℕ, refl, sym, ap, Bool, true, false, nat_eq, ◌&&◌, List, [], ◌∷◌}
use borrow.Author.Tests.{eq-eqb, ne_eqb, eqb-true}
use Rattle.std.specs.List.{starts_with as library}
use Rattle.log_commands.specs.Reading.{starts_with}

either_way : (m n : ℕ) → nat_eq m n ≡ nat_eq n m
either_way m n = go (nat_eq n m) refl
  where
    go : (t : Bool) → nat_eq n m ≡ t → nat_eq m n ≡ t
    go true e = eq-eqb m n (sym (eqb-true n m e))
    go false e = ne_eqb m n (λ d. let same = eq-eqb n m (sym d) in cc)

pub library_starts : (line word : List ℕ) → library nat_eq line word ≡ starts_with line word
unfolding starts_with
library_starts line [] = refl
library_starts [] (w ∷ word) = refl
library_starts (b ∷ line) (w ∷ word) = rw (either_way w b) (ap (λ (t : Bool). nat_eq b w && t) (library_starts line word))
