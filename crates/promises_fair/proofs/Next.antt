-- Whether something of a flow waits: where it does, the flow's packet after those begun is accepted, and waits; where nothing does, all that
-- were accepted are begun.
use mathlib.Core.Path.{◌≡◌, sym, ap, ◌∙◌}
use mathlib.Core.Bool.{true, false, ◌&&◌, true≢false}
use mathlib.Core.List.{List, [], ◌∷◌}
use Prim.Native.Nat.{ℕ, ◌≤◌, ◌<◌}
use native.Mathlib.Decide.{dec_lt}
use native.Mathlib.Omega.{arith}
use borrow.Author.Tests.{eqb-true, eq-eqb, le-ltb, ltb-false, not-true}
use lib.Dec.{eqb}
use Rattle.places.specs.Places.{count}
use Rattle.places.specs.Members.{Each}
use Rattle.places.specs.Marks.{Mark}
use Rattle.places.specs.Numbers.{of_flow}
use Rattle.places.proofs.Members.{none_passes, some_passes, some_gives, some_both}
use Rattle.places.proofs.Numbers.{head_number, head_count}
use Rattle.places.proofs.Tests.{and_told}
use Rattle.packets.specs.declared.Queue.{Queue}
use Rattle.packets.specs.Queue.{waiting_of}
use Rattle.promises_queue.specs.Packets.{Packet, its_flow, its_number, Moment}
use Rattle.promises_queue.specs.Promised.{begun_of, PacketsNumbered}
use Rattle.promises_queue.proofs.Kept.{not_begun, QueueKept, Ordered, begun_below, waiting_told}
use Rattle.promises_fair.proofs.Tags.{Found, found}

-- no number of a flow reaches its count
all_below : (f b : ℕ) (ps : List Packet) → PacketsNumbered ps → of_flow its_flow f ps ≤ b → Each (λ (a : Packet). a.flow ≡ f → a.number < b) ps
unfolding count
all_below f b [] k l = tt
all_below f b (a ∷ rest) k l = (
  λ e. omega (arith, head_number its_flow its_number f a rest k e, head_count its_flow its_number f a rest e),
  all_below f b rest k.1 (omega arith),
)

-- a packet of the number after those begun is not begun
pub next_unbegun : {ps : List Packet} {ms : List Moment} → Ordered ps ms → (a : Packet) → a.number ≡ begun_of ms a.flow → not_begun ms a ≡ true
next_unbegun {ms = ms} t a e = rw (begun_below ms t.in_order a.flow a.number, le-ltb a.number (begun_of ms a.flow) (omega arith))

module _ {q : Queue} {marks : List Mark} {ps : List Packet} {ms : List Moment} (k : QueueKept q marks ps ms) (t : Ordered ps ms) (f : ℕ) (low : f < 16) where
  -- a packet of the flow that waits
  abbrev WaitsOf : Packet → Type 0
  WaitsOf a = (eqb a.flow f && not_begun ms a) ≡ true

  -- something waits
  pub next_accepted : 0 < waiting_of q f → begun_of ms f < of_flow its_flow f ps
  next_accepted w = go (dec_lt (begun_of ms f) (of_flow its_flow f ps))
    where
      never : (a : Packet) → WaitsOf a × (a.flow ≡ f → a.number < begun_of ms f) → ⊥
      never a x =
          let y = and_told (eqb a.flow f) (not_begun ms a) x.0 in
          let e = eqb-true a.flow f y.0 in
          let l : begun_of ms a.flow ≤ a.number =
          ltb-false a.number (begun_of ms a.flow) (sym (begun_below ms t.in_order a.flow a.number) ∙ not-true _ y.1) in
          omega (arith, x.1 e, l, ap (begun_of ms) e)

      go : Dec (begun_of ms f < of_flow its_flow f ps) → begun_of ms f < of_flow its_flow f ps
      go (yes l) = l
      go (no l) =
          absurd (some_gives _ _ never ps (some_both WaitsOf (λ (a : Packet). a.flow ≡ f → a.number < begun_of ms f) ps
          (some_passes _ ps (omega (arith, waiting_told k f low))) (all_below f (begun_of ms f) ps t.numbered (omega arith))))

  -- nothing waits
  pub all_begun : waiting_of q f ≡ 0 → begun_of ms f ≡ of_flow its_flow f ps
  all_begun w = go (dec_lt (begun_of ms f) (of_flow its_flow f ps))
    where
      never : Found (λ (a : Packet). (eqb a.flow f && not_begun ms a) ≡ false) ps f (begun_of ms f) → ⊥
      never x =
          let n : not_begun ms x.packet ≡ true = next_unbegun t x.packet (x.number ∙ ap (begun_of ms) (sym x.flow)) in
          true≢false (rw (eq-eqb x.packet.flow f x.flow, n) at x.holds)

      go : Dec (begun_of ms f < of_flow its_flow f ps) → begun_of ms f ≡ of_flow its_flow f ps
      go (yes l) = absurd (never (found _ f (begun_of ms f) ps t.numbered l (none_passes _ ps (sym (waiting_told k f low) ∙ w))))
      go (no l) = omega (arith, t.begun f)
