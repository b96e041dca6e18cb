-- A record leaves its place: it is one of those that wait, it alone waits no more, and what waits then is tied to the places held then.
use mathlib.Core.Path.{◌≡◌, refl, ap}
use mathlib.Core.Bool.{Bool, true, false, not, ◌&&◌}
use mathlib.Core.List.{List}
use Prim.Native.Nat.{ℕ, ◌+◌, ◌≤◌, ◌<◌, zero-le}
use native.Mathlib.Omega.{arith}
use lib.ListN.{length, get_or, set}
use Rattle.places.specs.Places.{bit, count, count_at}
use Rattle.places.proofs.Count.{and_le, and_le_right, count_le, count_add, bit_split}
use Rattle.places.proofs.CountAt.{at_le}
use Rattle.places.proofs.Stores.{at_less}
use Rattle.places.proofs.Tests.{and_holds}
use Rattle.places.proofs.Waiting.{holds_at, Tied}

-- what waits is what waits still, and this one if it waits
split : (b q w : Bool) → bit (b && w) ≡ bit (b && (w && not q)) + bit ((b && q) && w)
split false q w = refl
split true true true = refl
split true true false = refl
split true false true = refl
split true false false = refl

-- The record at a place leaves: it is held there, and of all records that were noted it alone is this one.
pub record Leaves
    {P A X : Type 0}
    (held : P → Bool)
    (view : ℕ → P → X)
    (seen : A → X)
    (xs : List P)
    (ys : List A)
    (waits : A → Bool)
    (place : ℕ)
    (p free : P)
    (this : X → Bool) : Type 0 where
  pub tied : Tied held view seen xs ys waits
  pub low : place < length xs
  pub there : get_or xs place free ≡ p
  pub is_held : held p ≡ true
  pub is_free : held free ≡ false
  pub is_this : this (view place p) ≡ true
  pub one : count (λ (a : A). this (seen a)) ys ≤ 1

module _
    {P A X : Type 0}
    {held : P → Bool}
    {view : ℕ → P → X}
    {seen : A → X}
    {xs : List P}
    {ys : List A}
    {waits : A → Bool}
    {place : ℕ}
    {p free : P}
    {this : X → Bool}
    (l : Leaves held view seen xs ys waits place p free this) where
  -- the place is free now
  set_out : (ask : X → Bool) → count_at (holds_at held view ask) 0 (set xs place free) + bit (ask (view place p)) ≡ count_at (holds_at held view ask) 0 xs
  set_out ask = rw (l.there, l.is_held) at (at_less xs place free free l.low (holds_at held view ask) (rw l.is_free))

  -- of the waiting records that a question is asked of, this is one, if the answer is yes of it
  pub this_one : (ask : X → Bool) → count (λ (a : A). (ask (seen a) && this (seen a)) && waits a) ys ≡ bit (ask (view place p))
  this_one ask =
      omega (
        arith,
        ap bit l.is_this,
        ap bit (and_holds (ask (view place p)) (this (view place p)) l.is_this),
        l.tied this,
        l.tied (λ (x : X). ask x && this x),
        set_out this,
        set_out (λ (x : X). ask x && this x),
        l.one,
        count_le (λ (a : A). this (seen a) && waits a) (λ (a : A). this (seen a)) (λ a. and_le (this (seen a)) (waits a)) ys,
        at_le (holds_at held view (λ (x : X). ask x && this x)) (holds_at held view this) (λ j q. go (held q) (ask (view j q)) (this (view j q))) 0 (set xs place free),
      )
    where
      go : (b q r : Bool) → bit (b && (q && r)) ≤ bit (b && r)
      go true q r = and_le_right q r
      go false q r = zero-le

  -- it waits
  pub this_waits : count (λ (a : A). this (seen a) && not (waits a)) ys ≡ 0
  this_waits =
      omega (
        arith,
        l.one,
        this_one (λ (x : X). true),
        count_add (λ (a : A). this (seen a)) (λ a. this (seen a) && waits a) (λ a. this (seen a) && not (waits a)) (λ a. bit_split (this (seen a)) (waits a)) ys,
      )

  -- and it alone waits no more
  module _ {after : A → Bool} (less : (a : A) → after a ≡ (waits a && not (this (seen a)))) where
    pub one_less : (ask : X → Bool)
        → count (λ (a : A). ask (seen a) && after a) ys + bit (ask (view place p)) ≡ count (λ (a : A). ask (seen a) && waits a) ys
    one_less ask =
        omega (
          arith,
          this_one ask,
          count_add (λ (a : A). ask (seen a) && waits a) (λ a. ask (seen a) && after a) (λ a. (ask (seen a) && this (seen a)) && waits a)
              (λ a. rw (less a) (split (ask (seen a)) (this (seen a)) (waits a))) ys,
        )

    pub tied_after : Tied held view seen (set xs place free) ys after
    tied_after ask = omega (arith, one_less ask, set_out ask, l.tied ask)
