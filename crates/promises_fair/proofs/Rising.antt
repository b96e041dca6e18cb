-- The tags of a flow's packets rise with the numbers: a packet starts no earlier than its flow's packet before it finishes, and finishes
-- later than it starts; so that a packet of a smaller number starts earlier.
use mathlib.Core.Path.{◌≡◌, refl, subst}
use mathlib.Core.Logic.{inl, inr}
use mathlib.Core.Bool.{Bool, true, false, cond}
use mathlib.Core.List.{List, [], ◌∷◌}
use Prim.Native.Nat.{ℕ, ◌+◌, ◌≤◌, ◌<◌}
use native.Mathlib.Decide.{ℕ_discrete}
use native.Mathlib.Omega.{arith}
use borrow.Author.Tests.{eqb-true}
use lib.Dec.{eqb}
use Rattle.places.specs.Places.{bit, count}
use Rattle.places.specs.Members.{Any}
use Rattle.places.specs.Numbers.{of_flow}
use Rattle.places.proofs.Numbers.{head_number}
use Rattle.packets.specs.Queue.{by_start}
use Rattle.promises_queue.specs.Packets.{Packet, its_flow, its_number}
use Rattle.promises_queue.specs.Promised.{PacketsNumbered}
use Rattle.promises_queue.proofs.Numbers.{IsThis}
use Rattle.promises_queue.proofs.Chosen.{Older}
use Rattle.promises_fair.specs.Times.{last_finish}

-- a packet starts no earlier than its flow's packet before it finishes, and finishes later than it starts
abbrev pub Rising : List Packet → Type 0
Rising [] = Unit {0}
Rising (a ∷ rest) = (last_finish rest a.flow ≤ a.start) × (a.start < a.finish) × Rising rest

-- what starts after a flow's last packet finishes starts after each of the flow's packets
older : (f m s : ℕ) (ps : List Packet) → PacketsNumbered ps → Rising ps → m < of_flow its_flow f ps → last_finish ps f ≤ s → Any (Older by_start f m s) ps
unfolding count last_finish
older f m s [] k r l h = absurd (omega arith)
older f m s (a ∷ rest) k r l h = go (eqb a.flow f) refl l h (older f m s rest k.1 r.2)
  where
    go : (t : Bool) → eqb a.flow f ≡ t → m < bit t + of_flow its_flow f rest → cond t a.finish (last_finish rest f) ≤ s
        → (m < of_flow its_flow f rest → last_finish rest f ≤ s → Any (Older by_start f m s) rest) → Any (Older by_start f m s) (a ∷ rest)
    go true p y z i =
        let e : a.flow ≡ f = eqb-true a.flow f p in
        let b : last_finish rest f ≤ a.start = subst (λ (g : ℕ). last_finish rest g ≤ a.start) e r.0 in
        this e b (ℕ_discrete a.number m)
      where
        this : a.flow ≡ f → last_finish rest f ≤ a.start → Dec (a.number ≡ m) → Any (Older by_start f m s) (a ∷ rest)
        this e b (yes q) = inl (e, q, omega (arith, r.1))
        this e b (no q) = inr (i (omega (arith, q, head_number its_flow its_number f a rest k e)) (omega (arith, r.1)))
    go false p y z i = inr (i (omega arith) z)

module _ (f n l s e : ℕ) where
  -- a packet finishes later than it starts
  pub has_tags : (ps : List Packet) → Rising ps → Any (IsThis f n l s e) ps → s < e
  has_tags [] r h = absurd h
  has_tags (a ∷ rest) r (inl t) = omega (arith, t.3, t.4, r.1)
  has_tags (a ∷ rest) r (inr h) = has_tags rest r.2 h

  -- every smaller number is that of a packet of the flow which starts no later
  pub has_older : (ps : List Packet) → PacketsNumbered ps → Rising ps → Any (IsThis f n l s e) ps → (m : ℕ) → m < n → Any (Older by_start f m s) ps
  has_older [] k r h m b = absurd h
  has_older (a ∷ rest) k r (inl t) m b =
      inr (older f m s rest k.1 r.2 (omega (arith, t.1, head_number its_flow its_number f a rest k t.0))
      (omega (arith, t.3, subst (λ (g : ℕ). last_finish rest g ≤ a.start) t.0 r.0)))
  has_older (a ∷ rest) k r (inr h) m b = inr (has_older rest k.1 r.2 h m b)
