-- What bounds the numbers of a flow: each begin takes the flow's last finish on by the least charge at least, since what waits and is not in
-- service starts no earlier than that finish; and no finish passes the largest tag.
use mathlib.Core.Path.{◌≡◌, refl, sym, ◌∙◌, ap, subst}
use mathlib.Core.Bool.{Bool, true, false, cond, true≢false}
use mathlib.Core.List.{List, [], ◌∷◌}
use Rattle.std.proofs.Common.{Option, None, Some}
use Prim.Native.Nat.{ℕ, ◌+◌, ◌*◌, ◌≤◌, ◌<◌}
use native.Mathlib.Nat.{mul-le-mul_left, mul_comm}
use native.Mathlib.Omega.{arith}
use borrow.Author.Tests.{eqb-true, eqb-false, ne_eqb}
use lib.Dec.{eqb}
use Rattle.units.specs.Limits.{tag_limit, bad_weight}
use Rattle.units.specs.Charges.{charge_of}
use Rattle.units.specs.declared.Tag.{Tag}
use Rattle.units.proofs.Charges.{charge_floor}
use Rattle.places.proofs.Tests.{eqb_self}
use Rattle.plans.specs.declared.Plan.{Plan}
use Rattle.plans.specs.Plans.{class_in, Fits}
use Rattle.promises_queue.specs.Packets.{Moment, began as was_begun, ceased as was_ended, weight_in, serving}
use Rattle.promises_queue.specs.Promised.{begun_of}
use Rattle.promises_queue.specs.Refused.{waiting_in}
use Rattle.promises_classes.specs.Events.{History, opened, closed, accepted, began, ceased, packets_in}
use Rattle.promises_classes.specs.Rules.{Child, a_flow, same, Seen, gets, start_tag, last_finish, virtual_time}
use Rattle.promises_classes.specs.Views.{way_to, sends, child_on, see_offer, see_begin, see_end, seen}
use Rattle.promises_classes.proofs.On.{same_self, child_else}
use Rattle.promises_classes.proofs.Ways.{child_here, reaches, head_on}
use Rattle.promises_classes.proofs.Counts.{end_waiting, below_on}
use Rattle.promises_classes.proofs.Sending.{flow_waits, flow_sends}
use Rattle.promises_classes.proofs.Offered.{see_finish, see_start_else}

-- the start of a flow in its own class
abbrev pub start_of : Plan → History → ℕ → ℕ
start_of p h f = start_tag (seen p (class_in p f) h) (a_flow f)

-- and its last finish
abbrev pub finish_of : Plan → History → ℕ → ℕ
finish_of p h f = last_finish (seen p (class_in p f) h) (a_flow f)

-- a flow keeps pace
pub record Paced (p : Plan) (h : History) (f : ℕ) : Type 0 where
  pub reach : begun_of (packets_in h).moments f * 45045 ≤ finish_of p h f
  pub low : finish_of p h f ≤ tag_limit
  pub late : 0 < waiting_in (packets_in h) f → serving (packets_in h).moments f ≡ false → finish_of p h f ≤ start_of p h f

-- before any call
pub fresh_paced : (p : Plan) (f : ℕ) → Paced p [] f
unfolding seen virtual_time packets_in begun_of
fresh_paced p f = record { reach = omega arith; low = omega arith; late = λ w s. omega arith }

-- an opening
pub open_paced : (p : Plan) (h : History) (g weight f : ℕ) → Paced p h f → Paced p (opened g weight ∷ h) f
unfolding seen packets_in
open_paced p h g weight f k = record { reach = k.reach; low = k.low; late = k.late }

-- a closing
pub close_paced : (p : Plan) (h : History) (g f : ℕ) → Paced p h f → Paced p (closed g ∷ h) f
unfolding seen packets_in
close_paced p h g f k = record { reach = k.reach; low = k.low; late = k.late }

-- a packet of one flow at most is in service
serving_one : (ms : List Moment) (g f : ℕ) → serving ms g ≡ true → (g ≡ f → ⊥) → serving ms f ≡ false
serving_one [] g f e n = refl
serving_one (was_begun i x l s q ∷ ms) g f e n = ne_eqb i f (λ d. n (sym (eqb-true i g e) ∙ d))
serving_one (was_ended i x l q d w ∷ ms) g f e n = refl

-- What a begin and an end change in what a class sees.
module _ (p : Plan) (h : History) (es : List Seen) (x : Child) where
  -- a begin changes no start
  begin_start : (bytes : ℕ) (o : Option Child) → start_tag (see_begin p h bytes o es) x ≡ start_tag es x
  unfolding virtual_time
  begin_start bytes None = refl
  begin_start bytes (Some z) = refl

  -- nor the finish of another child
  begin_finish : (bytes : ℕ) (o : Option Child) → ((z : Child) → o ≡ Some z → same z x ≡ false) → last_finish (see_begin p h bytes o es) x ≡ last_finish es x
  unfolding virtual_time
  begin_finish bytes None n = refl
  begin_finish bytes (Some z) n = rw (n z refl)

  -- an end changes no finish
  end_finish : (c : ℕ) (o : Option Child) → last_finish (see_end p h c o es) x ≡ last_finish es x
  unfolding virtual_time
  end_finish c None = refl
  end_finish c (Some z) = refl

  -- nor the start of another child
  end_start : (c : ℕ) (o : Option Child) → ((z : Child) → o ≡ Some z → same z x ≡ false) → start_tag (see_end p h c o es) x ≡ start_tag es x
  unfolding virtual_time
  end_start c None n = refl
  end_start c (Some z) n = rw (n z refl)

module _ (p : Plan) (ok : Fits p) (h : History) (g number bytes : ℕ) (known : g < 16) where
  -- a flow's class finds the flow on its way
  own : child_on p (class_in p g) (way_to p g) ≡ Some (a_flow g)
  own = child_here p ok 4 (a_flow g) (a_flow g) (known, refl) (head_on p 4 (a_flow g) (reaches p ok g known))

  -- and no other flow
  aside : (f : ℕ) → f < 16 → (g ≡ f → ⊥) → (z : Child) → child_on p (class_in p f) (way_to p g) ≡ Some z → same z (a_flow f) ≡ false
  aside f l n z q =
      child_else p (class_in p f) (a_flow f) z (way_to p g) q (sym (below_on p (a_flow f) g (l, refl)) ∙ ne_eqb f g (λ e. n (sym e)))

  module _ (k : (f : ℕ) → f < 16 → Paced p h f) where
    -- An offer.
    module _ (others : (i : ℕ) → (g ≡ i → ⊥) → waiting_in (packets_in (accepted g number bytes ∷ h)) i ≡ waiting_in (packets_in h) i) where
      -- the flow starts no earlier than its last finish
      late_offer : serving (packets_in h).moments g ≡ false
          → finish_of p h g ≤ start_tag (see_offer p h (Some (a_flow g)) (seen p (class_in p g) h)) (a_flow g)
      unfolding virtual_time
      late_offer s = go (sends p h (a_flow g)) refl
        where
          go : (b : Bool) → sends p h (a_flow g) ≡ b
              → finish_of p h g ≤ start_tag (cond b (seen p (class_in p g) h) (gets (a_flow g) ∷ seen p (class_in p g) h)) (a_flow g)
          go true e = (k g known).late (flow_waits p h g e) s
          go false e = rw (same_self (a_flow g)) (omega arith)

      -- it keeps the pace of every flow
      pub offer_paced : (f : ℕ) → f < 16 → Paced p (accepted g number bytes ∷ h) f
      unfolding seen packets_in
      offer_paced f l =
          record {
            reach = rw (see_finish p h (seen p (class_in p f) h) (a_flow f) (child_on p (class_in p f) (way_to p g))) (k f l).reach;
            low = rw (see_finish p h (seen p (class_in p f) h) (a_flow f) (child_on p (class_in p f) (way_to p g))) (k f l).low;
            late = λ w s.
                rw (see_finish p h (seen p (class_in p f) h) (a_flow f) (child_on p (class_in p f) (way_to p g))) (go w s (eqb g f) refl);
          }
        where
          go : 0 < waiting_in (packets_in (accepted g number bytes ∷ h)) f → serving (packets_in h).moments f ≡ false → (b : Bool) → eqb g f ≡ b
              → finish_of p h f ≤ start_tag (see_offer p h (child_on p (class_in p f) (way_to p g)) (seen p (class_in p f) h)) (a_flow f)
          go w s true q = let e : g ≡ f = eqb-true g f q in rw (sym e, own) (late_offer (ap (serving (packets_in h).moments) e ∙ s))
          go w s false q =
              let n = eqb-false g f q in
              rw (see_start_else p h (seen p (class_in p f) h) (a_flow f) (child_on p (class_in p f) (way_to p g)) (aside f l n))
              ((k f l).late (rw (others f n) at w) s)

    -- A begin, with nothing in service, that fits.
    module _ (start : Tag) (idle : (f : ℕ) → serving (packets_in h).moments f ≡ false) (waits : 0 < waiting_in (packets_in h) g)
        (others : (i : ℕ) → (g ≡ i → ⊥) → waiting_in (packets_in (began g number bytes start ∷ h)) i ≡ waiting_in (packets_in h) i)
        (some_bytes : 1 ≤ bytes) (weighs : bad_weight (weight_in (packets_in h) g) ≡ false)
        (fits : start_of p h g + bytes * charge_of (weight_in (packets_in h) g) ≤ tag_limit) where
      -- its finish is its start and the cost
      finish_here : last_finish (see_begin p h bytes (Some (a_flow g)) (seen p (class_in p g) h)) (a_flow g)
          ≡ start_of p h g + bytes * charge_of (weight_in (packets_in h) g)
      unfolding virtual_time
      finish_here = rw (same_self (a_flow g))

      -- which is further on by the least charge
      reach_here : (1 + begun_of (packets_in h).moments g) * 45045 ≤ start_of p h g + bytes * charge_of (weight_in (packets_in h) g)
      reach_here =
          let a = (k g known).reach in
          let b = (k g known).late waits (idle g) in
          let c = charge_floor (weight_in (packets_in h) g) weighs in
          let d = mul-le-mul_left {m = 1} {n = bytes} (charge_of (weight_in (packets_in h) g)) some_bytes in
          let e = mul_comm bytes (charge_of (weight_in (packets_in h) g)) in
          omega (arith, a, b, c, d, e)

      -- it keeps the flow's pace
      begin_here : Paced p (began g number bytes start ∷ h) g
      unfolding seen packets_in begun_of
      begin_here =
          record {
            reach = rw (own, finish_here, eqb_self g) reach_here;
            low = rw (own, finish_here) fits;
            late = λ w s. absurd (true≢false (sym (eqb_self g) ∙ s));
          }

      -- and that of the others
      begin_else : (f : ℕ) → f < 16 → (g ≡ f → ⊥) → Paced p (began g number bytes start ∷ h) f
      unfolding seen packets_in begun_of
      begin_else f l n =
          let e = begin_finish p h (seen p (class_in p f) h) (a_flow f) bytes (child_on p (class_in p f) (way_to p g)) (aside f l n) in
          let s = begin_start p h (seen p (class_in p f) h) (a_flow f) bytes (child_on p (class_in p f) (way_to p g)) in
          let r = (k f l).reach in
          record {
            reach = rw (e, ne_eqb g f n) (omega (arith, r));
            low = rw e (k f l).low;
            late = λ w i. rw (e, s) ((k f l).late (rw (others f n) at w) (idle f));
          }

      -- so that of every flow
      pub begin_paced : (f : ℕ) → f < 16 → Paced p (began g number bytes start ∷ h) f
      begin_paced f l = go (eqb g f) refl
        where
          go : (b : Bool) → eqb g f ≡ b → Paced p (began g number bytes start ∷ h) f
          go true q = subst (Paced p (began g number bytes start ∷ h)) (eqb-true g f q) begin_here
          go false q = begin_else f l (eqb-false g f q)

    -- An end of a packet of the flow that is in service.
    module _ (serves : serving (packets_in h).moments g ≡ true) where
      -- with more to send the flow starts at its last finish
      late_end : 0 < waiting_in (packets_in h) g
          → finish_of p h g ≤ start_tag (see_end p h (class_in p g) (Some (a_flow g)) (seen p (class_in p g) h)) (a_flow g)
      unfolding virtual_time
      late_end w = rw (same_self (a_flow g), flow_sends p h g known w) (omega arith)

      -- it keeps the pace of every flow
      pub end_paced : (f : ℕ) → f < 16 → Paced p (ceased g number bytes ∷ h) f
      unfolding seen packets_in begun_of
      end_paced f l =
          let e = end_finish p h (seen p (class_in p f) h) (a_flow f) (class_in p f) (child_on p (class_in p f) (way_to p g)) in
          record {
            reach = rw e (k f l).reach;
            low = rw e (k f l).low;
            late = λ w s. rw e (go (eqb g f) refl (rw (end_waiting h g number bytes f) at w));
          }
        where
          go : (b : Bool) → eqb g f ≡ b → 0 < waiting_in (packets_in h) f
              → finish_of p h f ≤ start_tag (see_end p h (class_in p f) (child_on p (class_in p f) (way_to p g)) (seen p (class_in p f) h)) (a_flow f)
          go true q w = let e : g ≡ f = eqb-true g f q in rw (sym e, own) (late_end (rw (sym e) at w))
          go false q w =
              let n = eqb-false g f q in
              rw (end_start p h (seen p (class_in p f) h) (a_flow f) (class_in p f) (child_on p (class_in p f) (way_to p g)) (aside f l n))
              ((k f l).late w (serving_one (packets_in h).moments g f serves n))
