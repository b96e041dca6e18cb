-- T5: no class's virtual time falls. What has something to send and is not in service starts no earlier than the virtual time of its class, and
-- what is in service finishes no earlier.
use mathlib.Core.Path.{◌≡◌, refl, sym, ◌∙◌, ap}
use mathlib.Core.Bool.{Bool, true, false, cond, true≢false, false≢true}
use mathlib.Core.List.{List, [], ◌∷◌}
use Rattle.std.proofs.Common.{Option, None, Some}
use Prim.Native.Nat.{ℕ, ◌+◌, ◌≤◌, ◌<◌, max}
use native.Mathlib.Omega.{arith}
use borrow.Author.Tests.{ltb-false, eqb-true}
use lib.Dec.{ltb}
use Rattle.units.specs.declared.Tag.{Tag}
use Rattle.places.specs.Members.{Each}
use Rattle.places.proofs.Tests.{neither_told}
use Rattle.plans.specs.declared.Plan.{Plan}
use Rattle.plans.specs.Plans.{Fits}
use Rattle.promises_queue.specs.Packets.{Moment, began as was_begun, ceased as was_ended, in_service, serving}
use Rattle.promises_queue.specs.Refused.{waiting_in}
use Rattle.promises_classes.specs.Events.{History, opened, closed, accepted, began, ceased, packets_in}
use Rattle.promises_classes.specs.Rules.{Child, a_class, a_flow, gets, start_tag, last_finish, virtual_time, largest_ended}
use Rattle.promises_classes.specs.Views.{HangsFrom, way_to, sends, child_on, see_offer, see_begin, see_end, seen}
use Rattle.promises_classes.specs.Promised.{GoesFirst}
use Rattle.promises_classes.proofs.On.{same_self, on, on_each, some_is, child_else, found_on}
use Rattle.promises_classes.proofs.Ways.{Sound, hangs_parent, hangs_sound, sound_hangs, child_here, way_sound}
use Rattle.promises_classes.proofs.Counts.{sum_more, sum_less, below_on, sends_pos, pos_sends}
use Rattle.promises_classes.proofs.Sending.{sends_up}
use Rattle.promises_classes.proofs.Ended.{end_sum}
use Rattle.promises_classes.proofs.Offered.{see_time, see_finish, see_start_else}

-- a child is on the way of the packet in service
abbrev pub served : Plan → List Moment → Child → Bool
served p [] x = false
served p (was_begun f n l s q ∷ ms) x = on x (way_to p f)
served p (was_ended f n l q e w ∷ ms) x = false

-- nothing is, where no packet is in service
none_served : (p : Plan) (ms : List Moment) (x : Child) → in_service ms ≡ false → served p ms x ≡ false
none_served p [] x e = refl
none_served p (was_begun f n l s q ∷ ms) x e = absurd (true≢false e)
none_served p (was_ended f n l q d w ∷ ms) x e = refl

-- those on the way of the flow are, where a packet of it is in service
served_way : (p : Plan) (ms : List Moment) (x : Child) (f : ℕ) → serving ms f ≡ true → served p ms x ≡ on x (way_to p f)
served_way p [] x f e = absurd (false≢true e)
served_way p (was_begun g n l s q ∷ ms) x f e = ap (λ i. on x (way_to p i)) (eqb-true g f e)
served_way p (was_ended g n l q d w ∷ ms) x f e = absurd (false≢true e)

-- what every call keeps of the times
pub record TimesKept (p : Plan) (h : History) : Type 0 where
  pub starts :
      (c : ℕ) (x : Child) → HangsFrom p c x → sends p h x ≡ true → served p (packets_in h).moments x ≡ false
      → virtual_time (seen p c h) ≤ start_tag (seen p c h) x
  pub finishes : (c : ℕ) (x : Child) → HangsFrom p c x → served p (packets_in h).moments x ≡ true → virtual_time (seen p c h) ≤ last_finish (seen p c h) x

-- before any call
pub times_fresh : (p : Plan) → TimesKept p []
unfolding seen virtual_time packets_in
times_fresh p = record { starts = λ c x g e n. omega arith; finishes = λ c x g n. absurd (false≢true n) }

-- an opening
pub open_times : (p : Plan) (h : History) → TimesKept p h → (f weight : ℕ) → TimesKept p (opened f weight ∷ h)
unfolding seen sends packets_in
open_times p h k f weight = record { starts = k.starts; finishes = k.finishes }

-- it leaves the virtual times
pub open_rises : (p : Plan) (h : History) (f weight c : ℕ) → virtual_time (seen p c h) ≤ virtual_time (seen p c (opened f weight ∷ h))
unfolding seen
open_rises p h f weight c = omega arith

-- a closing
pub close_times : (p : Plan) (h : History) → TimesKept p h → (f : ℕ) → TimesKept p (closed f ∷ h)
unfolding seen sends packets_in
close_times p h k f = record { starts = k.starts; finishes = k.finishes }

-- it leaves the virtual times
pub close_rises : (p : Plan) (h : History) (f c : ℕ) → virtual_time (seen p c h) ≤ virtual_time (seen p c (closed f ∷ h))
unfolding seen
close_rises p h f c = omega arith

module _ (p : Plan) (ok : Fits p) (h : History) (k : TimesKept p h) (f number bytes : ℕ) (low : f < 16) where
  -- the child of a class on the way
  abbrev own : ℕ → Option Child
  own c = child_on p c (way_to p f)

  -- it is on the way, and hangs from the class
  own_hangs : (c : ℕ) (z : Child) → child_on p c (way_to p f) ≡ Some z → (on z (way_to p f) ≡ true) × HangsFrom p c z
  own_hangs c z q =
      let w = found_on p c z (way_to p f) q in (w.0, sound_hangs p c z (way_sound p ok 4 (a_flow f) z (low, refl) w.0) w.1)

  -- and a child on the way is that of its class
  own_is : (c : ℕ) (x : Child) → HangsFrom p c x → on x (way_to p f) ≡ true → child_on p c (way_to p f) ≡ Some x
  own_is c x g o = rw (hangs_parent p c x g) at (child_here p ok 4 (a_flow f) x (low, refl) o)

  -- An offer.
  module _ (more : waiting_in (packets_in (accepted f number bytes ∷ h)) f ≡ waiting_in (packets_in h) f + 1)
      (others : (i : ℕ) → (f ≡ i → ⊥) → waiting_in (packets_in (accepted f number bytes ∷ h)) i ≡ waiting_in (packets_in h) i) where
    -- what is not on the way had something to send already
    sent_offer : (x : Child) → Sound p x → on x (way_to p f) ≡ false → sends p (accepted f number bytes ∷ h) x ≡ true → sends p h x ≡ true
    sent_offer x s o e =
        let a = sends_pos p (accepted f number bytes ∷ h) x e in
        let b = sum_more p x h (accepted f number bytes ∷ h) f others more 0 16 (omega arith) (omega (arith, low)) in
        let d = rw (below_on p x f s ∙ o) at b in
        pos_sends p h x (omega (arith, a, d))

    -- what is on the way starts no earlier than the virtual time
    here_offer : (c : ℕ) (x : Child) → HangsFrom p c x → served p (packets_in h).moments x ≡ false
        → virtual_time (seen p c h) ≤ start_tag (see_offer p h (Some x) (seen p c h)) x
    unfolding virtual_time
    here_offer c x g n = go (sends p h x) refl
      where
        go : (b : Bool) → sends p h x ≡ b → virtual_time (seen p c h) ≤ start_tag (cond b (seen p c h) (gets x ∷ seen p c h)) x
        go true e = k.starts c x g e n
        go false e = rw (same_self x) (omega arith)

    -- whatever has something to send starts no earlier than the virtual time
    start_offer : (c : ℕ) (x : Child) → HangsFrom p c x → sends p (accepted f number bytes ∷ h) x ≡ true → served p (packets_in h).moments x ≡ false
        → (b : Bool) → on x (way_to p f) ≡ b → virtual_time (seen p c h) ≤ start_tag (see_offer p h (own c) (seen p c h)) x
    start_offer c x g e n true o = rw (own_is c x g o) (here_offer c x g n)
    start_offer c x g e n false o =
        rw (see_start_else p h (seen p c h) x (own c) (λ z q. child_else p c x z (way_to p f) q o))
        (k.starts c x g (sent_offer x (hangs_sound p c x g) o e) n)

    -- an offer leaves the virtual times
    pub offer_rises : (c : ℕ) → virtual_time (seen p c h) ≤ virtual_time (seen p c (accepted f number bytes ∷ h))
    unfolding seen
    offer_rises c = let e = see_time p h (seen p c h) (own c) in omega (arith, e)

    -- it keeps the times
    pub offer_times : TimesKept p (accepted f number bytes ∷ h)
    unfolding seen packets_in
    offer_times =
        record {
          starts = λ c x g e n. rw (see_time p h (seen p c h) (own c)) (start_offer c x g e n (on x (way_to p f)) refl);
          finishes = λ c x g n. rw (see_time p h (seen p c h) (own c), see_finish p h (seen p c h) x (own c)) (k.finishes c x g n);
        }

  -- A begin, with nothing in service, of a flow whose way goes first.
  module _ (start : Tag) (free : in_service (packets_in h).moments ≡ false)
      (less : waiting_in (packets_in (began f number bytes start ∷ h)) f + 1 ≡ waiting_in (packets_in h) f)
      (others : (i : ℕ) → (f ≡ i → ⊥) → waiting_in (packets_in (began f number bytes start ∷ h)) i ≡ waiting_in (packets_in h) i)
      (way : Each (GoesFirst p h) (way_to p f)) where
    -- what has something to send had it before
    sent_begin : (x : Child) → sends p (began f number bytes start ∷ h) x ≡ true → sends p h x ≡ true
    sent_begin x e =
        let a = sends_pos p (began f number bytes start ∷ h) x e in
        let b = sum_less p x h (began f number bytes start ∷ h) f others low less in
        pos_sends p h x (omega (arith, a, b))

    -- no child is on the way of a packet in service
    idle_begin : (x : Child) → served p (packets_in h).moments x ≡ false
    idle_begin x = none_served p (packets_in h).moments x free

    -- each child on the way goes first
    first : (z : Child) → on z (way_to p f) ≡ true → GoesFirst p h z
    first = on_each (GoesFirst p h) (way_to p f) way

    -- the class goes on to the start of its child, which is no earlier
    time_begin : (c : ℕ) (o : Option Child) → child_on p c (way_to p f) ≡ o → virtual_time (seen p c h) ≤ virtual_time (see_begin p h bytes o (seen p c h))
    unfolding virtual_time
    time_begin c None q = omega arith
    time_begin c (Some z) q = let w = own_hangs c z q in k.starts c z w.1 (first z w.0).0 (idle_begin z)

    -- whatever has something to send starts no earlier than the child that goes first
    start_begin : (c : ℕ) (x : Child) → HangsFrom p c x → sends p h x ≡ true → (o : Option Child) → child_on p c (way_to p f) ≡ o
        → virtual_time (see_begin p h bytes o (seen p c h)) ≤ start_tag (see_begin p h bytes o (seen p c h)) x
    unfolding virtual_time
    start_begin c x g e None q = k.starts c x g e (idle_begin x)
    start_begin c x g e (Some z) q =
        let w = own_hangs c z q in
        let up = hangs_parent p c z w.1 in
        let b = rw up at ((first z w.0).1 x (rw up g) e) in
        ltb-false (start_tag (seen p c h) x) (start_tag (seen p c h) z) (neither_told (ltb (start_tag (seen p c h) x) (start_tag (seen p c h) z)) _ b).0

    -- the child that it begins below finishes no earlier than it starts
    finish_begin : (c : ℕ) (x : Child) → virtual_time (see_begin p h bytes (Some x) (seen p c h)) ≤ last_finish (see_begin p h bytes (Some x) (seen p c h)) x
    unfolding virtual_time
    finish_begin c x = rw (same_self x) (omega arith)

    -- at a begin no virtual time falls
    pub begin_rises : (c : ℕ) → virtual_time (seen p c h) ≤ virtual_time (seen p c (began f number bytes start ∷ h))
    unfolding seen
    begin_rises c = time_begin c (own c) refl

    -- it keeps the times
    pub begin_times : TimesKept p (began f number bytes start ∷ h)
    unfolding seen packets_in
    begin_times =
        record {
          starts = λ c x g e n. start_begin c x g (sent_begin x e) (own c) refl;
          finishes = λ c x g o. rw (own_is c x g o) (finish_begin c x);
        }

  -- An end of a packet of the flow that is in service.
  module _ (serves : serving (packets_in h).moments f ≡ true) where
    -- what has something to send had it before
    sent_end : (x : Child) → sends p (ceased f number bytes ∷ h) x ≡ true → sends p h x ≡ true
    sent_end x e = let a = sends_pos p (ceased f number bytes ∷ h) x e in let b = end_sum p h f number bytes x in pos_sends p h x (omega (arith, a, b))

    -- the children on the way are those in service
    serving_end : (x : Child) → served p (packets_in h).moments x ≡ on x (way_to p f)
    serving_end x = served_way p (packets_in h).moments x f serves

    -- the class stays, or goes on to a finish that is no earlier
    time_end : (c : ℕ) (o : Option Child) → child_on p c (way_to p f) ≡ o → virtual_time (seen p c h) ≤ virtual_time (see_end p h c o (seen p c h))
    unfolding virtual_time
    time_end c None q = omega arith
    time_end c (Some z) q = go (sends p h (a_class c))
      where
        go : (b : Bool) → virtual_time (seen p c h) ≤ cond b (virtual_time (seen p c h)) (max (last_finish (seen p c h) z) (largest_ended (seen p c h)))
        go true = omega arith
        go false = let w = own_hangs c z q in let l = k.finishes c z w.1 (serving_end z ∙ w.0) in omega (arith, l)

    -- whatever has something to send starts no earlier than the virtual time, which stays
    start_end : (c : ℕ) (x : Child) → HangsFrom p c x → sends p h x ≡ true → (o : Option Child) → child_on p c (way_to p f) ≡ o → (b : Bool)
        → on x (way_to p f) ≡ b → virtual_time (see_end p h c o (seen p c h)) ≤ start_tag (see_end p h c o (seen p c h)) x
    unfolding virtual_time
    start_end c x g e None q true r = absurd (let d = own_is c x g r in let z : ◌≡◌ {A = ℕ} 0 1 = cc in omega arith)
    start_end c x g e None q false r = k.starts c x g e (serving_end x ∙ r)
    start_end c x g e (Some z) q true r =
        let i : z ≡ x = some_is z x (sym q ∙ own_is c x g r) in
        rw (sends_up p ok c h x g e, i, same_self x, e) (k.finishes c x g (serving_end x ∙ r))
    start_end c x g e (Some z) q false r =
        rw (sends_up p ok c h x g e, child_else p c x z (way_to p f) q r) (k.starts c x g e (serving_end x ∙ r))

    -- at an end no virtual time falls
    pub end_rises : (c : ℕ) → virtual_time (seen p c h) ≤ virtual_time (seen p c (ceased f number bytes ∷ h))
    unfolding seen
    end_rises c = time_end c (own c) refl

    -- it keeps the times
    pub end_times : TimesKept p (ceased f number bytes ∷ h)
    unfolding seen packets_in
    end_times =
        record {
          starts = λ c x g e n. start_end c x g (sent_end x e) (own c) refl (on x (way_to p f)) refl;
          finishes = λ c x g n. absurd (false≢true n);
        }
