-- What waits or is in service keeps its terms. An opening is of a flow that was not open, a closing of a flow of which nothing waits
-- or is in service; a packet that begins was waiting, and an end leaves one packet less.
use mathlib.Core.Path.{◌≡◌, refl, sym, ap, ◌∙◌}
use mathlib.Core.Bool.{Bool, true, false, not, ◌&&◌, ◌||◌, true≢false, false≢true}
use mathlib.Core.List.{List, [], ◌∷◌}
use Prim.Native.Nat.{ℕ, ◌≤◌}
use native.Mathlib.Omega.{arith}
use borrow.Author.Tests.{eqb-true, eq-eqb}
use lib.Dec.{eqb}
use Rattle.units.specs.Charges.{charge_of}
use Rattle.places.specs.Marks.{opens, closes, open_in}
use Rattle.places.proofs.Marks.{stands_opened, stands_closed, stands_fewer}
use Rattle.places.proofs.Members.{none_passes, each_map}
use Rattle.places.proofs.Tests.{and_told}
use Rattle.promises_queue.specs.Packets.{Packet, its_flow, Moment, began, ceased, Packets, was_begun, serving, is_served}
use Rattle.promises_queue.specs.Notes.{marked}
use Rattle.promises_queue.specs.Promised.{TermsStand}
use Rattle.promises_queue.specs.Refused.{waiting_in}
use Rattle.promises_queue.proofs.Kept.{not_begun}

-- a packet waits or is in service
abbrev is_live : List Moment → Packet → Bool
is_live ms a = not_begun ms a || is_served ms a

-- its charge is that of a weight
abbrev ByWeight : Packet → ℕ → Type 0
ByWeight a weight = a.charge ≡ charge_of weight

-- a packet in service is of the flow that the service is busy with
served_flow : (ms : List Moment) (a : Packet) → is_served ms a ≡ true → serving ms a.flow ≡ true
served_flow [] a s = s
served_flow (began f n l x p ∷ ms) a s = (and_told (eqb f a.flow) (eqb n a.number) s).0
served_flow (ceased f n l p x w ∷ ms) a s = s

module _ (h : Packets) (t : TermsStand h) where
  -- a packet that waits is live, whatever is in service
  waits_live : (a : Packet) → (not_begun h.moments a || false) ≡ true → is_live h.moments a ≡ true
  waits_live a = go (not_begun h.moments a)
    where
      go : (w : Bool) → (w || false) ≡ true → (w || is_served h.moments a) ≡ true
      go true z = refl
      go false z = absurd (false≢true z)

  -- the flow that is opened was not open
  pub terms_opened : (flow weight : ℕ) → open_in h.marks flow ≡ false → TermsStand (marked h (opens flow weight))
  terms_opened flow weight = stands_opened its_flow ByWeight (is_live h.moments) h.marks h.accepted t flow weight

  -- nothing of the flow that is closed waits or is in service
  pub terms_closed : (flow : ℕ) → waiting_in h flow ≤ 0 → serving h.moments flow ≡ false → TermsStand (marked h (closes flow))
  terms_closed flow z idle =
      stands_closed its_flow ByWeight (is_live h.moments) h.marks h.accepted t flow
      (each_map (λ (a : Packet). (eqb a.flow flow && not_begun h.moments a) ≡ false) _
      (λ a e l f. go a f (not_begun h.moments a) (is_served h.moments a) refl (rw (eq-eqb a.flow flow f) at e) l)
      h.accepted (none_passes _ h.accepted (omega arith)))
    where
      go : (a : Packet) → a.flow ≡ flow → (w s : Bool) → is_served h.moments a ≡ s → w ≡ false → (w || s) ≡ true → ⊥
      go a f true s p e l = true≢false e
      go a f false true p e l = true≢false (sym (served_flow h.moments a p) ∙ ap (serving h.moments) f ∙ idle)
      go a f false false p e l = false≢true l

  -- the packet that begins was not begun
  pub terms_begin : (f n l s p : ℕ) → was_begun h.moments f n ≡ false
      → TermsStand (record { calls = h.calls; marks = h.marks; accepted = h.accepted; moments = began f n l s p ∷ h.moments })
  unfolding was_begun
  terms_begin f n l s p u =
      stands_fewer its_flow ByWeight (is_live h.moments) h.marks h.accepted t (is_live (began f n l s p ∷ h.moments))
      (λ a. go a (eqb f a.flow) refl (eqb n a.number) refl)
    where
      go : (a : Packet) (x : Bool) → eqb f a.flow ≡ x → (y : Bool) → eqb n a.number ≡ y
          → (not ((x && y) || was_begun h.moments a.flow a.number) || (x && y)) ≡ true → is_live h.moments a ≡ true
      go a true e true g z = rw (← eqb-true f a.flow e, ← eqb-true n a.number g, u)
      go a true e false g z = waits_live a z
      go a false e y g z = waits_live a z

  -- an end leaves one packet less
  pub terms_end : (f n l p e w : ℕ)
      → TermsStand (record { calls = h.calls; marks = h.marks; accepted = h.accepted; moments = ceased f n l p e w ∷ h.moments })
  unfolding was_begun
  terms_end f n l p e w =
      stands_fewer its_flow ByWeight (is_live h.moments) h.marks h.accepted t (is_live (ceased f n l p e w ∷ h.moments)) waits_live
