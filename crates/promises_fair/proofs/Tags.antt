-- The tags of a flow's packets by number: each starts where the one before it finishes, or at virtual time if that is later, and finishes
-- later than it starts by its length times its charge.
use mathlib.Core.Path.{◌≡◌, refl, sym, ◌∙◌, subst}
use mathlib.Core.Logic.{inl, inr}
use mathlib.Core.Bool.{Bool, true, false, cond}
use mathlib.Core.List.{List, [], ◌∷◌}
use Prim.Native.Nat.{ℕ, zero, suc, ◌+◌, ◌*◌, ◌≤◌, ◌<◌, max}
use native.Mathlib.Decide.{dec_lt}
use native.Mathlib.Omega.{arith}
use borrow.Author.Tests.{eqb-true, eq-eqb}
use lib.Dec.{eqb}
use Rattle.places.specs.Places.{bit, count}
use Rattle.places.specs.Members.{Each, Any}
use Rattle.places.specs.Numbers.{of_flow}
use Rattle.places.proofs.Numbers.{is_this_lem, head_number}
use Rattle.promises_queue.specs.Packets.{Packet, its_flow, its_number, is_packet, finish_in}
use Rattle.promises_queue.specs.Promised.{PacketsNumbered}
use Rattle.promises_queue.proofs.Numbers.{IsThis, has_number, finish_stays}
use Rattle.promises_fair.specs.Times.{last_finish}
use Rattle.promises_fair.proofs.Rising.{Rising}

-- the start tag of the accepted packet of this flow and number, 0 where there is none
unfoldable pub start_noted : List Packet → ℕ → ℕ → ℕ
start_noted [] flow number = 0
start_noted (a ∷ rest) flow number = cond (is_packet flow number a) a.start (start_noted rest flow number)

-- where the flow's packet before this number finishes, 0 before the first
abbrev pub finish_before : List Packet → ℕ → ℕ → ℕ
finish_before ps f zero = 0
finish_before ps f (suc m) = finish_in ps f m

-- tags as they were given: v is virtual time now, which was no later then
abbrev pub Stamped : ℕ → List Packet → Type 0
Stamped v [] = Unit {0}
Stamped v (a ∷ rest) =
    (a.start ≤ max v (last_finish rest a.flow)) × (a.finish ≡ a.start + a.length * a.charge) × Stamped v rest

-- they are so at every later time
pub stamped_later : (v w : ℕ) → v ≤ w → (ps : List Packet) → Stamped v ps → Stamped w ps
stamped_later v w l [] s = tt
stamped_later v w l (a ∷ rest) s = (omega (arith, s.0), s.1, stamped_later v w l rest s.2)

-- each packet's finish is what its start, its length and its charge come to
pub stamped_each : (v : ℕ) (ps : List Packet) → Stamped v ps → Each (λ (a : Packet). a.finish ≡ a.start + a.length * a.charge) ps
stamped_each v [] s = tt
stamped_each v (a ∷ rest) s = (s.1, stamped_each v rest s.2)

-- a packet with the flow's next number leaves the tags before it as they are: the start of a number
pub start_stays : (f n : ℕ) (a : Packet) (ps : List Packet) → PacketsNumbered (a ∷ ps) → n < of_flow its_flow f ps → start_noted (a ∷ ps) f n ≡ start_noted ps f n
unfolding start_noted
start_stays f n a ps k b = go (is_packet f n a) refl
  where
    go : (t : Bool) → is_packet f n a ≡ t → cond t a.start (start_noted ps f n) ≡ start_noted ps f n
    go true p =
        let q = is_this_lem its_flow its_number f n a p in
        absurd (omega (arith, q.1, head_number its_flow its_number f a ps k q.0))
    go false p = refl

-- and where the packet before a number finishes
pub before_stays : (f n : ℕ) (a : Packet) (ps : List Packet) → PacketsNumbered (a ∷ ps) → n ≤ of_flow its_flow f ps → finish_before (a ∷ ps) f n ≡ finish_before ps f n
before_stays f zero a ps k b = refl
before_stays f (suc m) a ps k b = finish_stays f m a ps k (omega arith)

-- the newest packet of a flow
module _ (f : ℕ) (a : Packet) (ps : List Packet) (k : PacketsNumbered (a ∷ ps)) (e : a.flow ≡ f) where
  -- its start is found by its number
  pub head_start : start_noted (a ∷ ps) f (of_flow its_flow f ps) ≡ a.start
  unfolding start_noted
  head_start = rw (eq-eqb a.flow f e, eq-eqb a.number (of_flow its_flow f ps) (head_number its_flow its_number f a ps k e))

  -- and its finish
  head_finish : finish_in (a ∷ ps) f (of_flow its_flow f ps) ≡ a.finish
  unfolding finish_in
  head_finish = rw (eq-eqb a.flow f e, eq-eqb a.number (of_flow its_flow f ps) (head_number its_flow its_number f a ps k e))

-- the flow's last finish is that of the packet before the next number
pub last_is : (f : ℕ) (ps : List Packet) → PacketsNumbered ps → last_finish ps f ≡ finish_before ps f (of_flow its_flow f ps)
unfolding last_finish count
last_is f [] k = refl
last_is f (a ∷ rest) k = go (last_is f rest k.1) (eqb a.flow f) refl
  where
    go : last_finish rest f ≡ finish_before rest f (of_flow its_flow f rest) → (t : Bool) → eqb a.flow f ≡ t
        → cond t a.finish (last_finish rest f) ≡ finish_before (a ∷ rest) f (bit t + of_flow its_flow f rest)
    go i true p =
        let q : 1 + of_flow its_flow f rest ≡ suc (of_flow its_flow f rest) = omega arith in
        rw q (sym (head_finish f a rest k (eqb-true a.flow f p)))
    go i false p =
        let q : 0 + of_flow its_flow f rest ≡ of_flow its_flow f rest = omega arith in
        rw q (i ∙ sym (before_stays f (of_flow its_flow f rest) a rest k (omega arith)))

-- a packet of the flow with a number that is none of the older ones is the newest
newest : (f n : ℕ) (a : Packet) (ps : List Packet) → (n < of_flow its_flow f ps → ⊥) → n < of_flow its_flow f (a ∷ ps) → (a.flow ≡ f) × (n ≡ of_flow its_flow f ps)
unfolding count
newest f n a ps o l = go (eqb a.flow f) refl l
  where
    go : (t : Bool) → eqb a.flow f ≡ t → n < bit t + of_flow its_flow f ps → (a.flow ≡ f) × (n ≡ of_flow its_flow f ps)
    go true p l = (eqb-true a.flow f p, omega (arith, o))
    go false p l = absurd (o (omega arith))

-- what a packet's tags are by its number: it starts no earlier than the one before it finishes, and no later than virtual time or that
-- finish, and finishes later than it starts
pub record TagsAt (v : ℕ) (ps : List Packet) (f n : ℕ) : Type 0 where
  pub after : finish_before ps f n ≤ start_noted ps f n
  pub soon : start_noted ps f n ≤ max v (finish_before ps f n)
  pub rises : start_noted ps f n < finish_in ps f n

-- so they are of every number below the flow's count
pub tags_at : (v f n : ℕ) (ps : List Packet) → PacketsNumbered ps → Rising ps → Stamped v ps → n < of_flow its_flow f ps → TagsAt v ps f n
unfolding count
tags_at v f n [] k r s l = absurd (omega arith)
tags_at v f n (a ∷ rest) k r s l = go (tags_at v f n rest k.1 r.2 s.2) (dec_lt n (of_flow its_flow f rest))
  where
    here : (a.flow ≡ f) × (n ≡ of_flow its_flow f rest) → TagsAt v (a ∷ rest) f n
    here h =
        let e = h.0 in
        let before : finish_before (a ∷ rest) f n ≡ last_finish rest f =
        rw h.1 (before_stays f (of_flow its_flow f rest) a rest k (omega arith) ∙ sym (last_is f rest k.1)) in
        let low : last_finish rest f ≤ a.start = subst (λ (g : ℕ). last_finish rest g ≤ a.start) e r.0 in
        let high : a.start ≤ max v (last_finish rest f) = subst (λ (g : ℕ). a.start ≤ max v (last_finish rest g)) e s.0 in
        let start : start_noted (a ∷ rest) f n ≡ a.start = rw h.1 (head_start f a rest k e) in
        let finish : finish_in (a ∷ rest) f n ≡ a.finish = rw h.1 (head_finish f a rest k e) in
        record { after = omega (arith, before, low, start); soon = omega (arith, before, high, start); rises = omega (arith, r.1, start, finish) }

    go : (n < of_flow its_flow f rest → TagsAt v rest f n) → Dec (n < of_flow its_flow f rest) → TagsAt v (a ∷ rest) f n
    go i (yes b) =
        let start = start_stays f n a rest k b in
        let finish = finish_stays f n a rest k b in
        let before = before_stays f n a rest k (omega arith) in
        record {
          after = omega (arith, (i b).after, start, before);
          soon = omega (arith, (i b).soon, start, before);
          rises = omega (arith, (i b).rises, start, finish);
        }
    go i (no b) = here (newest f n a rest b l)

-- what holds of each packet holds of the one of this flow and number
pub record Found (P : Packet → Type 0) (ps : List Packet) (f n : ℕ) : Type 0 where
  pub packet : Packet
  pub holds : P packet
  pub flow : packet.flow ≡ f
  pub number : packet.number ≡ n
  pub start : packet.start ≡ start_noted ps f n

-- there is one of every number below the flow's count
pub found : (P : Packet → Type 0) (f n : ℕ) (ps : List Packet) → PacketsNumbered ps → n < of_flow its_flow f ps → Each P ps → Found P ps f n
unfolding count
found P f n [] k l e = absurd (omega arith)
found P f n (a ∷ rest) k l e = go (λ b. found P f n rest k.1 b e.1) (dec_lt n (of_flow its_flow f rest))
  where
    here : (a.flow ≡ f) × (n ≡ of_flow its_flow f rest) → Found P (a ∷ rest) f n
    here h =
        record {
          packet = a;
          holds = e.0;
          flow = h.0;
          number = head_number its_flow its_number f a rest k h.0 ∙ sym h.1;
          start = rw h.1 (sym (head_start f a rest k h.0));
        }

    go : (n < of_flow its_flow f rest → Found P rest f n) → Dec (n < of_flow its_flow f rest) → Found P (a ∷ rest) f n
    go i (yes b) =
        let x = i b in
        record { packet = x.packet; holds = x.holds; flow = x.flow; number = x.number; start = x.start ∙ sym (start_stays f n a rest k b) }
    go i (no b) = here (newest f n a rest b l)

-- the start tag found by flow and number is the packet's
pub has_start : (f n l s e : ℕ) (ps : List Packet) → PacketsNumbered ps → Any (IsThis f n l s e) ps → start_noted ps f n ≡ s
unfolding start_noted
has_start f n l s e [] k h = absurd h
has_start f n l s e (a ∷ rest) k (inl t) = rw (eq-eqb a.flow f t.0, eq-eqb a.number n t.1) t.3
has_start f n l s e (a ∷ rest) k (inr h) = start_stays f n a rest k (has_number f n l s e rest k.1 h) ∙ has_start f n l s e rest k.1 h
