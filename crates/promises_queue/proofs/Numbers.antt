-- The numbers of a flow's packets: each is below the count of its flow, and a packet's finish tag is found by its flow and number, also
-- when a packet with the flow's next number comes.
use mathlib.Core.Path.{◌≡◌, refl}
use mathlib.Core.Logic.{inl, inr}
use mathlib.Core.Bool.{Bool, true, false, cond}
use mathlib.Core.List.{List, [], ◌∷◌}
use Prim.Native.Nat.{ℕ, ◌<◌}
use native.Mathlib.Omega.{arith}
use borrow.Author.Tests.{eq-eqb}
use Rattle.places.specs.Places.{count}
use Rattle.places.specs.Members.{Any}
use Rattle.places.specs.Numbers.{of_flow}
use Rattle.places.proofs.Numbers.{is_this_lem, head_number, head_count}
use Rattle.promises_queue.specs.Packets.{Packet, its_flow, its_number, is_packet, finish_in}
use Rattle.promises_queue.specs.Promised.{PacketsNumbered}

-- the packet of this flow and number, with this length and these tags
abbrev pub IsThis : ℕ → ℕ → ℕ → ℕ → ℕ → Packet → Type 0
IsThis f n l s e a = (a.flow ≡ f) × (a.number ≡ n) × (a.length ≡ l) × (a.start ≡ s) × (a.finish ≡ e)

module _ (f n l s e : ℕ) where
  -- a packet's number is below the count of its flow
  pub has_number : (ps : List Packet) → PacketsNumbered ps → Any (IsThis f n l s e) ps → n < of_flow its_flow f ps
  unfolding count
  has_number [] k h = absurd h
  has_number (a ∷ rest) k (inl t) = omega (arith, t.1, head_number its_flow its_number f a rest k t.0, head_count its_flow its_number f a rest t.0)
  has_number (a ∷ rest) k (inr h) = omega (arith, has_number rest k.1 h)

  -- the finish tag found by flow and number is the packet's
  pub has_finish : (ps : List Packet) → PacketsNumbered ps → Any (IsThis f n l s e) ps → finish_in ps f n ≡ e
  unfolding finish_in
  has_finish [] k h = absurd h
  has_finish (a ∷ rest) k (inl t) = rw (eq-eqb a.flow f t.0, eq-eqb a.number n t.1) t.4
  has_finish (a ∷ rest) k (inr h) = go (is_packet f n a) refl (has_finish rest k.1 h)
    where
      go : (t : Bool) → is_packet f n a ≡ t → finish_in rest f n ≡ e → cond t a.finish (finish_in rest f n) ≡ e
      go true p i =
          let q = is_this_lem its_flow its_number f n a p in
          absurd (omega (arith, q.1, head_number its_flow its_number f a rest k q.0, has_number rest k.1 h))
      go false p i = i

-- the finish tag found by flow and number stays when a packet with the flow's next number comes
pub finish_stays : (f n : ℕ) (a : Packet) (ps : List Packet) → PacketsNumbered (a ∷ ps) → n < of_flow its_flow f ps → finish_in (a ∷ ps) f n ≡ finish_in ps f n
unfolding finish_in
finish_stays f n a ps k b = go (is_packet f n a) refl
  where
    go : (t : Bool) → is_packet f n a ≡ t → cond t a.finish (finish_in ps f n) ≡ finish_in ps f n
    go true p =
        let q = is_this_lem its_flow its_number f n a p in
        absurd (omega (arith, q.1, head_number its_flow its_number f a ps k q.0))
    go false p = refl
