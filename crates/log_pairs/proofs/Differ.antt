-- Two bodies, byte by byte, and two lists of openings, one by one.
use mathlib.Core.Path.{◌≡◌, refl, sym, ◌∙◌, ap}
use mathlib.Core.Bool.{Bool, true, false, cond, ◌&&◌}
use mathlib.Core.List.{List, [], ◌∷◌}
use Rattle.std.proofs.Common.{Option, None, Some}
use Prim.Native.Nat.{ℕ, suc, ◌+◌, ◌-◌, ◌≤◌, ◌<◌, min}
use native.Mathlib.Omega.{arith}
use borrow.Author.Tests.{eq-eqb, ne_eqb}
use lib.Dec.{eqb}
use lib.ListN.{length, drop, length-drop}
use Rattle.log_format.specs.Faults.{byte_at, two_at}
use Rattle.log_format.specs.Reading.{openings_at}
use Rattle.log_format.specs.Pairs.{same_openings, differ_from}
use Rattle.log_format.proofs.Numbers.{drop_next}

-- where two logs differ from a place on
abbrev pub differs : List ℕ → List ℕ → ℕ → Option ℕ
differs a b at = differ_from at (drop at a) (drop at b)

module _ (a b : List ℕ) (at : ℕ) (found : Option ℕ) (before : differs a b at ≡ found) where
  module _ (la : at < length a) (lb : at < length b) where
    opened : cond (eqb (byte_at a at) (byte_at b at)) (differ_from (at + 1) (drop (at + 1) a) (drop (at + 1) b)) (Some at) ≡ found
    unfolding differ_from
    opened = rw (drop_next a at (at + 1) refl la, drop_next b at (at + 1) refl lb) at before

    pub differ_here : (byte_at a at ≡ byte_at b at → ⊥) → Some at ≡ found
    differ_here n = rw (ne_eqb (byte_at a at) (byte_at b at) n) at opened

    pub differ_on : byte_at a at ≡ byte_at b at → differs a b (at + 1) ≡ found
    differ_on e = rw (eq-eqb (byte_at a at) (byte_at b at) e) at opened

-- openings that are left to compare
abbrev pub same_left : List ℕ → List ℕ → ℕ → ℕ → Bool
same_left a b at k = same_openings (openings_at a at k) (openings_at b at k)

-- so many are left
more : (count k : ℕ) → k < count → count - k ≡ suc (count - (k + 1))
more count k h = omega arith

module _ (a b : List ℕ) (at count k : ℕ) (found : Bool) (before : same_left a b at (count - k) ≡ found) where
  module _ (h : k < count) where
    one : same_left a b at (suc (count - (k + 1))) ≡ found
    one = ap (same_left a b at) (sym (more count k h)) ∙ before

    module _ (same : Bool) (is : same ≡ (eqb (byte_at a at) (byte_at b at) && eqb (two_at a (at + 1)) (two_at b (at + 1)))) where
      pub other : same ≡ false → false ≡ found
      unfolding openings_at same_openings
      other e = rw (sym is ∙ e) at one

      pub same_on : same ≡ true → same_left a b (at + 3) (count - (k + 1)) ≡ found
      unfolding openings_at same_openings
      same_on e = rw (sym is ∙ e) at one

  pub same_done : count ≤ k → true ≡ found
  unfolding openings_at same_openings
  same_done l = let z : count - k ≡ 0 = omega arith in rw z at before

-- past the shorter nothing differs
pub differ_end : (a b : List ℕ) (at : ℕ) (found : Option ℕ) → differs a b at ≡ found → min (length a) (length b) ≤ at → None ≡ found
unfolding differ_from
differ_end a b at found before l = go (drop at a) refl (drop at b) refl
  where
    go : (x : List ℕ) → drop at a ≡ x → (y : List ℕ) → drop at b ≡ y → None ≡ found
    go [] e y f = rw e at before
    go (x ∷ xs) e [] f = rw (e, f) at before
    go (x ∷ xs) e (y ∷ ys) f = absurd (omega (arith, length-drop at a, length-drop at b, ap length e, ap length f, l))
