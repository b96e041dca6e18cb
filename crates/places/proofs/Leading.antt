-- The place that leads holds a record that waits, and no waiting record comes before it; where no place is held, none waits.
use mathlib.Core.Path.{◌≡◌, refl, sym, ap, ◌∙◌}
use mathlib.Core.Bool.{Bool, true, false, ◌&&◌, true≢false}
use mathlib.Core.List.{List}
use Prim.Native.Nat.{ℕ, ◌<◌}
use borrow.Author.Tests.{ltb-true}
use lib.Dec.{ltb}
use Rattle.places.specs.Members.{Each, Any}
use Rattle.places.specs.Places.{count}
use Rattle.places.specs.Choice.{Key, comes_before, nothing, at, Leads}
use Rattle.places.proofs.Members.{none_passes, some_passes, each_map, some_map}
use Rattle.places.proofs.Order.{by_rank}
use Rattle.places.proofs.Tests.{and_holds, and_told}
use Rattle.places.proofs.Waiting.{Tied, none_asked, some_asked}

not_sooner : (a b : Key) → comes_before a b ≡ false → ltb a.rank b.rank ≡ false
not_sooner a b n = go (ltb a.rank b.rank) refl
  where
    go : (t : Bool) → ltb a.rank b.rank ≡ t → t ≡ false
    go true p = absurd (true≢false (by_rank a b (ltb-true a.rank b.rank p) ∙ n))
    go false p = refl

module _
    {P A X : Type 0}
    (held : P → Bool)
    (view : ℕ → P → X)
    (seen : A → X)
    (key_of : X → Key)
    (free : P)
    (xs : List P)
    (ys : List A)
    (waits : A → Bool)
    (tied : Tied held view seen xs ys waits) where
  pub none_waits : Leads held (λ k q. key_of (view k q)) free xs nothing → (ask : X → Bool) → count (λ (a : A). ask (seen a) && waits a) ys ≡ 0
  none_waits lead ask = none_asked held view seen free xs ys waits tied ask (λ i h. absurd (lead i h))

  module _ (place : ℕ) (p : P) (lead : Leads held (λ k q. key_of (view k q)) free xs (at place p)) where
    pub none_before : count (λ (a : A). comes_before (key_of (seen a)) (key_of (view place p)) && waits a) ys ≡ 0
    none_before = none_asked held view seen free xs ys waits tied (λ (x : X). comes_before (key_of x) (key_of (view place p))) lead.3

    pub none_earlier : count (λ (a : A). ltb (key_of (seen a)).rank (key_of (view place p)).rank && waits a) ys ≡ 0
    none_earlier =
        none_asked held view seen free xs ys waits tied (λ (x : X). ltb (key_of x).rank (key_of (view place p)).rank)
        (λ i h. not_sooner (key_of (view i _)) (key_of (view place p)) (lead.3 i h))

    -- what it answers to, some waiting record answers to
    pub some_waits : (ask : X → Bool) → ask (view place p) ≡ true → 0 < count (λ (a : A). ask (seen a) && waits a) ys
    some_waits = some_asked held view seen free xs ys waits tied place p lead.0 lead.1 lead.2

    -- by a test of whether two records are alike in all that can be asked
    module _ (same : X → X → Bool) (self : (x : X) → same x x ≡ true) (told : (x y : X) → same x y ≡ true → x ≡ y) where
      pub it_waits : Any (λ (a : A). (waits a ≡ true) × (seen a ≡ view place p)) ys
      it_waits =
          some_map (λ (a : A). (same (seen a) (view place p) && waits a) ≡ true) _
          (λ a t.
          let x = and_told (same (seen a) (view place p)) (waits a) t in
          (x.1, told (seen a) (view place p) x.0))
          ys (some_passes (λ (a : A). same (seen a) (view place p) && waits a) ys (some_waits (λ (x : X). same x (view place p)) (self (view place p))))

      pub it_is_first :
          Any
          (λ (a : A).
          (waits a ≡ true)
          × (seen a ≡ view place p)
          × Each (λ (b : A). waits b ≡ true → comes_before (key_of (seen b)) (key_of (seen a)) ≡ false) ys)
          ys
      it_is_first =
          some_map (λ (a : A). (waits a ≡ true) × (seen a ≡ view place p)) _
          (λ a t. (
            t.0,
            t.1,
            each_map (λ (b : A). (comes_before (key_of (seen b)) (key_of (view place p)) && waits b) ≡ false) _
                (λ b f w. ap (λ (x : X). comes_before (key_of (seen b)) (key_of x)) t.1 ∙ sym (and_holds (comes_before (key_of (seen b)) (key_of (view place p))) (waits b) w) ∙ f) ys
                (none_passes _ ys none_before),
          ))
          ys it_waits
