-- Numbers as text, one more at the end.
use mathlib.Core.Path.{◌≡◌, refl}
use mathlib.Core.List.{List, [], ◌∷◌, ◌++◌, append_assoc}
use Prim.Native.Nat.{ℕ, ◌≤◌}
use Rattle.link.specs.declared.Declaration.{Declaration}
use Rattle.text.specs.Decimal.{decimal_of}
use Rattle.text.specs.Reading.{blank, largest}
use Rattle.lists.specs.Grammar.{numbers_in, numbers_text, AllSmall}

-- numbers, each with a blank after it
unfoldable pub trailed : List ℕ → List ℕ
trailed [] = []
trailed (n ∷ ns) = decimal_of n ++ blank ∷ trailed ns

pub trailed_snoc : (ns : List ℕ) (n : ℕ) → trailed (ns ++ n ∷ []) ≡ (trailed ns ++ decimal_of n) ++ blank ∷ []
unfolding trailed
trailed_snoc [] n = refl
trailed_snoc (m ∷ ns) n = rw (trailed_snoc ns n, append_assoc (decimal_of m) (blank ∷ trailed ns) (decimal_of n), append_assoc (decimal_of m) (blank ∷ (trailed ns ++ decimal_of n)) (blank ∷ []))

-- the text of numbers is all but the last, each with a blank after it, and the last
pub text_last : (ns : List ℕ) (n : ℕ) → numbers_text (ns ++ n ∷ []) ≡ trailed ns ++ decimal_of n
unfolding trailed numbers_text
text_last [] n = refl
text_last (m ∷ []) n = rw (append_assoc (decimal_of m) (blank ∷ []) (decimal_of n))
text_last (m ∷ k ∷ ns) n = rw (text_last (k ∷ ns) n, append_assoc (decimal_of m) (blank ∷ trailed (k ∷ ns)) (decimal_of n))

pub small_snoc : (ns : List ℕ) (n : ℕ) → AllSmall ns → n ≤ largest → AllSmall (ns ++ n ∷ [])
unfolding AllSmall
small_snoc [] n s l = (l, tt)
small_snoc (m ∷ ns) n s l = (s.0, small_snoc ns n s.1 l)

pub numbers_snoc : (ds : List Declaration) (d : Declaration) → numbers_in (ds ++ d ∷ []) ≡ numbers_in ds ++ d.burst ∷ d.period ∷ d.deadline ∷ []
unfolding numbers_in
numbers_snoc [] d = refl
numbers_snoc (e ∷ ds) d = rw (numbers_snoc ds d)
