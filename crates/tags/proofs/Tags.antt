-- Tags by their numbers, the later of two by its number, each case of a packet's finish, from the tests that lead to it, and that what a
-- packet costs is far from the largest number.
use Rattle.std.proofs.Common.{Option, None, Some}
use mathlib.Core.Path.{◌≡◌, refl, sym, ap, ◌∙◌}
use mathlib.Core.Bool.{Bool, true, false, cond}
use Prim.Native.Nat.{ℕ, ◌+◌, ◌*◌, ◌≤◌, max}
use native.Mathlib.Nat.{mul-le-mul}
use native.Mathlib.Omega.{arith}
use borrow.Author.Tests.{ltb-true, ltb-false}
use lib.Dec.{ltb}
use Rattle.units.specs.Limits.{tag_limit, bad_length}
use Rattle.units.specs.Charges.{charge_of}
use Rattle.units.specs.declared.Tag.{Tag}
use Rattle.units.proofs.Limits.{inside}
use Rattle.units.proofs.Charges.{charge_most}
use Rattle.tags.specs.Tags.{later_of, finish_at, finish_of}

-- tags of one number are one tag
pub tag_same : (a b : Tag) → a.0 ≡ b.0 → a ≡ b
tag_same a b e = ap (λ (n : ℕ). record { 0 = n }) e

-- the later of two tags is the larger number
pub later_max : (a b : Tag) → (later_of a b).0 ≡ max a.0 b.0
later_max a b = go (ltb a.0 b.0) refl
  where
    go : (t : Bool) → ltb a.0 b.0 ≡ t → (cond t b a).0 ≡ max a.0 b.0
    go true p = omega (arith, ltb-true a.0 b.0 p)
    go false p = omega (arith, ltb-false a.0 b.0 p)

module _ (start : Tag) (length weight : ℕ) where
  pub no_packet : bad_length length ≡ true → None ≡ finish_of start length weight
  unfolding finish_of
  no_packet b = rw b

  module _ (g : bad_length length ≡ false) (charge : ℕ) (e : charge ≡ charge_of weight) where
    pub cost_most : length * charge ≤ 1081080000
    cost_most =
        let l = inside length 1500 g in
        rw e (mul-le-mul l.1 (charge_most weight))

    module _ (past : Bool) (t : past ≡ ltb tag_limit (start.0 + length * charge)) where
      pub too_late : past ≡ true → None ≡ finish_of start length weight
      unfolding finish_of
      too_late p = rw (g, ← e, ← t, p)

      pub in_time : past ≡ false → Some (record { 0 = start.0 + length * charge }) ≡ finish_of start length weight
      unfolding finish_of
      in_time p = rw (g, ← e, ← t, p)

  -- what a packet's finish tells of the limit
  module _ (g : bad_length length ≡ false) (ends : Option Tag) (e : ends ≡ finish_of start length weight) where
    finish_by : ends ≡ cond (ltb tag_limit (finish_at start length weight)) None (Some (record { 0 = finish_at start length weight }))
    unfolding finish_of
    finish_by = e ∙ rw g

    pub beyond_told : ends ≡ None → ltb tag_limit (finish_at start length weight) ≡ true
    beyond_told b = go (ltb tag_limit (finish_at start length weight)) (sym b ∙ finish_by)
      where
        finish : Tag
        finish = record { 0 = finish_at start length weight }

        go : (t : Bool) → None ≡ cond t None (Some finish) → t ≡ true
        go true p = refl
        go false p = cc

    pub at_told : (finish : Tag) → ends ≡ Some finish → (ltb tag_limit (finish_at start length weight) ≡ false) × (finish ≡ record { 0 = finish_at start length weight })
    at_told finish b = go (ltb tag_limit (finish_at start length weight)) (sym b ∙ finish_by)
      where
        go : (t : Bool) → Some finish ≡ cond t None (Some (record { 0 = finish_at start length weight })) → (t ≡ false) × (finish ≡ record { 0 = finish_at start length weight })
        go true p = (cc, cc)
        go false p = (refl, cc)
