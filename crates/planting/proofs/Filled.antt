-- An array that is made place by place, by a function that each call leaves as it was, holds at each place what it gives there.
use Rattle.std.proofs.Common.{◌≡◌, ℕ, zero, suc, ◌+◌, ◌≤◌, ◌<◌, Bool, true, false, List, get_or, eqb, refl, ◌∙◌, arith}
use mathlib.Core.Path.{subst}
use borrow.Author.Tests.{eqb-true, eqb-false}
use denote.Param.Members.{Mut}
use Rattle.std.specs.Fn.{Called}
use Rattle.std.specs.Array.{IsFromFnResultFrom}

pub made_at : {F B : Type 0} (g : Mut F (ℕ × Unit {0}) B) (f : F) (h : ℕ → B) (d : B) (ys : List B)
    → (i n : ℕ)
    → ((k : ℕ) (y : B) (q : F) → k < i + n → Called g f (k, tt) y q → (q ≡ f) × (y ≡ h k))
    → IsFromFnResultFrom g f ys i n
    → (k : ℕ) → i ≤ k → k < i + n → get_or ys k d ≡ h k
made_at g f h d ys i zero gives made k low high = absurd (omega arith)
made_at {F} {B} g f h d ys i (suc n) gives (q, y, at, call, rest) k low high = go (eqb k i) refl (made_at g f h d ys (i + 1) n)
  where
    go : (b : Bool) → eqb k i ≡ b
        → (((k : ℕ) (y : B) (q : F) → k < i + 1 + n → Called g f (k, tt) y q → (q ≡ f) × (y ≡ h k)) → IsFromFnResultFrom g f ys (i + 1) n → (k : ℕ) → i + 1 ≤ k → k < i + 1 + n → get_or ys k d ≡ h k)
        → get_or ys k d ≡ h k
    go true e later = rw (eqb-true k i e) (at.1 d ∙ (gives i y q (omega arith) call).1)
    go false e later =
        let ne : k ≡ i → ⊥ = eqb-false k i e in
        let same : q ≡ f = (gives i y q (omega arith) call).0 in
        later (λ k y q l. gives k y q (omega (arith, l))) (subst (λ (p : F). IsFromFnResultFrom g p ys (i + 1) n) same rest) k (omega (arith, ne, low)) (omega (arith, high))
