-- An input that goes on from a line begun.
use mathlib.Core.Path.{◌≡◌, refl}
use mathlib.Core.List.{List, [], ◌∷◌, ◌++◌, append_assoc, append-nil}
use Prim.Native.Nat.{ℕ}
use Rattle.text.specs.Input.{onto}

-- the lines of an input that goes on from a line begun
unfoldable pub begun : List ℕ → List (List ℕ) → List (List ℕ)
begun [] lines = lines
begun (x ∷ line) [] = (x ∷ line) ∷ []
begun (x ∷ line) (rest ∷ lines) = (x ∷ (line ++ rest)) ∷ lines

pub begun_more : (line : List ℕ) (b : ℕ) (lines : List (List ℕ)) → begun line (onto b lines) ≡ begun (line ++ b ∷ []) lines
unfolding begun
begun_more [] b [] = refl
begun_more [] b (rest ∷ lines) = refl
begun_more (x ∷ line) b [] = refl
begun_more (x ∷ line) b (rest ∷ lines) = rw (append_assoc line (b ∷ []) rest)

pub begun_ended : (line : List ℕ) (lines : List (List ℕ)) → begun line ([] ∷ lines) ≡ line ∷ lines
unfolding begun
begun_ended [] lines = refl
begun_ended (x ∷ line) lines = rw (append-nil line)
