-- The order of the keys: which comes first by its cases, and that the order is one.
use mathlib.Core.Path.{◌≡◌, refl, sym, ◌∙◌}
use mathlib.Core.Logic.{◌⊎◌, inl, inr}
use mathlib.Core.Bool.{Bool, true, false, ◌&&◌, ◌||◌, true≢false, false≢true}
use Prim.Native.Nat.{◌≤◌, ◌<◌}
use native.Mathlib.Decide.{dec_lt}
use native.Mathlib.Omega.{arith}
use borrow.Author.Tests.{lt-ltb, le-ltb, eq-eqb, ne_eqb, ltb-true, eqb-true}
use lib.Dec.{ltb, eqb}
use Rattle.places.specs.Choice.{Key, comes_before}

-- one comparison after the other, as a program makes them
module _ (a b : Key) where
  pub by_rank : a.rank < b.rank → true ≡ comes_before a b
  unfolding comes_before
  by_rank h = rw (lt-ltb a.rank b.rank h)

  pub not_by_rank : b.rank < a.rank → false ≡ comes_before a b
  unfolding comes_before
  not_by_rank h = simp (le-ltb a.rank b.rank (omega arith), ne_eqb a.rank b.rank (omega arith))

  module _ (r : b.rank ≤ a.rank) (r' : a.rank ≤ b.rank) where
    pub by_flow : a.flow < b.flow → true ≡ comes_before a b
    unfolding comes_before
    by_flow h = simp (le-ltb a.rank b.rank r, eq-eqb a.rank b.rank (omega arith), lt-ltb a.flow b.flow h)

    pub not_by_flow : b.flow < a.flow → false ≡ comes_before a b
    unfolding comes_before
    not_by_flow h =
        simp (le-ltb a.rank b.rank r, eq-eqb a.rank b.rank (omega arith), le-ltb a.flow b.flow (omega arith), ne_eqb a.flow b.flow (omega arith))

    pub by_number : b.flow ≤ a.flow → a.flow ≤ b.flow → ltb a.number b.number ≡ comes_before a b
    unfolding comes_before
    by_number f f' =
        simp (le-ltb a.rank b.rank r, eq-eqb a.rank b.rank (omega arith), le-ltb a.flow b.flow f, eq-eqb a.flow b.flow (omega arith))

-- the order as a statement
unfoldable pub Before : Key → Key → Type 0
Before a b =
    (a.rank < b.rank)
    ⊎ ((a.rank ≡ b.rank) × (a.flow < b.flow))
    ⊎ ((a.rank ≡ b.rank) × (a.flow ≡ b.flow) × (a.number < b.number))

pub before_told : (a b : Key) → comes_before a b ≡ true → Before a b
unfolding comes_before Before
before_told a b =
    go (ltb a.rank b.rank) refl (eqb a.rank b.rank) refl (ltb a.flow b.flow) refl (eqb a.flow b.flow) refl (ltb a.number b.number) refl
  where
    go : (s : Bool) → ltb a.rank b.rank ≡ s → (t : Bool) → eqb a.rank b.rank ≡ t → (f : Bool) → ltb a.flow b.flow ≡ f
        → (g : Bool) → eqb a.flow b.flow ≡ g → (n : Bool) → ltb a.number b.number ≡ n → (s || (t && (f || (g && n)))) ≡ true → Before a b
    go true p t q f r g x n y e = inl (ltb-true a.rank b.rank p)
    go false p true q true r g x n y e = inr (inl (eqb-true a.rank b.rank q, ltb-true a.flow b.flow r))
    go false p true q false r true x true y e =
        inr (inr (eqb-true a.rank b.rank q, eqb-true a.flow b.flow x, ltb-true a.number b.number y))
    go false p true q false r true x false y e = absurd (false≢true e)
    go false p true q false r false x n y e = absurd (false≢true e)
    go false p false q f r g x n y e = absurd (false≢true e)

pub told_before : (a b : Key) → Before a b → comes_before a b ≡ true
unfolding Before
told_before a b (inl h) = sym (by_rank a b h)
told_before a b (inr (inl h)) = sym (by_flow a b (omega arith) (omega arith) h.1)
told_before a b (inr (inr h)) =
    sym (by_number a b (omega arith) (omega arith) (omega arith) (omega arith)) ∙ lt-ltb a.number b.number h.2

before_trans : (a b c : Key) → Before a b → Before b c → Before a c
unfolding Before
before_trans a b c (inl p) (inl q) = inl (omega arith)
before_trans a b c (inl p) (inr (inl q)) = inl (omega arith)
before_trans a b c (inl p) (inr (inr q)) = inl (omega arith)
before_trans a b c (inr (inl p)) (inl q) = inl (omega arith)
before_trans a b c (inr (inl p)) (inr (inl q)) = inr (inl (omega arith))
before_trans a b c (inr (inl p)) (inr (inr q)) = inr (inl (omega arith))
before_trans a b c (inr (inr p)) (inl q) = inl (omega arith)
before_trans a b c (inr (inr p)) (inr (inl q)) = inr (inl (omega arith))
before_trans a b c (inr (inr p)) (inr (inr q)) = inr (inr (omega arith))

before_self : (a : Key) → Before a a → ⊥
unfolding Before
before_self a (inl p) = omega arith
before_self a (inr (inl p)) = omega arith
before_self a (inr (inr p)) = omega arith

told_not : (a b : Key) → (Before a b → ⊥) → comes_before a b ≡ false
told_not a b n = go (comes_before a b) refl
  where
    go : (t : Bool) → comes_before a b ≡ t → t ≡ false
    go true p = absurd (n (before_told a b p))
    go false p = refl

-- no key comes before itself
pub not_self : (a : Key) → comes_before a a ≡ false
not_self a = told_not a a (before_self a)

-- what does not come before b does not come before what comes before b
pub not_earlier : (a b c : Key) → comes_before c b ≡ true → comes_before a b ≡ false → comes_before a c ≡ false
not_earlier a b c p n =
    told_not a c (λ q. true≢false (sym (told_before a b (before_trans a c b q (before_told c b p))) ∙ n))

-- a key that does not come before another has no smaller rank, and of equal ranks no smaller flow
pub not_ahead : (a b : Key) → comes_before a b ≡ false → (b.rank ≤ a.rank) × (a.rank ≡ b.rank → b.flow ≤ a.flow)
unfolding Before
not_ahead a b n = (go (dec_lt a.rank b.rank), λ e. on e (dec_lt a.flow b.flow))
  where
    go : Dec (a.rank < b.rank) → b.rank ≤ a.rank
    go (yes l) = absurd (true≢false (sym (told_before a b (inl l)) ∙ n))
    go (no l) = omega arith

    on : a.rank ≡ b.rank → Dec (a.flow < b.flow) → b.flow ≤ a.flow
    on e (yes l) = absurd (true≢false (sym (told_before a b (inr (inl (e, l)))) ∙ n))
    on e (no l) = omega arith
