-- T3: each call is refused as the calls and answers so far tell. A begin finds no packet exactly where nothing waits; and the flow that it
-- comes to is the one whose packet it finds, which is the flow's first not begun.
use mathlib.Core.Path.{◌≡◌, refl, sym, ◌∙◌}
use mathlib.Core.Bool.{Bool, true, false, ◌&&◌, ◌||◌}
use mathlib.Core.Logic.{inl, inr}
use mathlib.Core.List.{List, [], ◌∷◌}
use Prim.Native.Nat.{ℕ, ◌+◌, ◌<◌}
use native.Mathlib.Omega.{arith}
use borrow.Author.Tests.{eqb-true, eqb-false, eq-eqb, ne_eqb}
use lib.Dec.{eqb}
use Rattle.units.specs.Refusals.{first_of}
use Rattle.units.specs.declared.Refusal.TheVariants.{TagsUsedUp, PacketInService, NothingWaits}
use Rattle.units.proofs.Refusals.{after_flow}
use Rattle.places.specs.Members.{Each, Any}
use Rattle.places.specs.Places.{count}
use Rattle.places.specs.Choice.{Choice, nothing, at}
use Rattle.places.proofs.Members.{none_passes, each_map}
use Rattle.places.proofs.Numbers.{is_this_lem, head_number, none_above}
use Rattle.places.proofs.Tests.{eqb_self}
use Rattle.tags.specs.declared.Packet.{Packet as Place}
use Rattle.packets.proofs.Refused.{refused_first as queue-first}
use Rattle.plans.specs.declared.Plan.{Plan}
use Rattle.plans.specs.Numbered.{any_from}
use Rattle.plans.specs.Plans.{Fits}
use Rattle.plans.proofs.Numbered.{any_only}
use Rattle.descent.specs.Descent.{flow_met}
use Rattle.taking.specs.Taking.{is_none}
use Rattle.classes.specs.declared.Classes.{Classes}
use Rattle.classes.specs.declared.Call.{Call}
use Rattle.classes.specs.declared.Call.TheVariants.{Open, Close, Offer, Begin, End}
use Rattle.classes.specs.Lane.{chosen, beyond}
use Rattle.classes.specs.Calls.{call_of}
use Rattle.classes.specs.Answers.{refusal_in}
use Rattle.classes.proofs.Refused.{refused_first}
use Rattle.promises_queue.specs.Packets.{Packet, its_flow, its_number, is_packet, waiting_all}
use Rattle.promises_queue.specs.Promised.{PacketsNumbered}
use Rattle.promises_queue.specs.Refused.{waiting_in}
use Rattle.promises_queue.proofs.Numbers.{IsThis, has_number}
use Rattle.promises_queue.proofs.Kept.{busy_told, waiting_told}
use Rattle.promises_queue.proofs.Chosen.{place_flow, held_asked}
use Rattle.promises_queue.proofs.Account.{refused_as_noted as queue-noted}
use Rattle.promises_classes.specs.Events.{History, packets_in}
use Rattle.promises_classes.specs.Views.{any_of, way_to}
use Rattle.promises_classes.specs.Refused.{comes_to, passes_at, would_pass, grounds_noted}
use Rattle.promises_classes.specs.Run.{run, answer_to}
use Rattle.promises_classes.proofs.Sending.{root_sends}
use Rattle.promises_classes.proofs.Descents.{met_some, met_waits}
use Rattle.promises_classes.proofs.Lowest.{lowest_none}
use Rattle.promises_classes.proofs.Fitting.{passes_way}
use Rattle.promises_classes.proofs.Comes.{of_none, told_comes, comes_told, one_comes}
use Rattle.promises_classes.proofs.Good.{Proper, LaneGood, begin_lowest, begin_known, begin_way, begin_next, begin_there, begin_length}
use Rattle.promises_classes.proofs.Runs.{run_good}

-- a test of the packets of this flow and number is that of the one that there is
only_this : (test : ℕ → Bool) (f n l s e : ℕ) (ps : List Packet) → PacketsNumbered ps → Any (IsThis f n l s e) ps
    → any_of (λ (a : Packet). is_packet f n a && test a.length) ps ≡ test l
unfolding any_of
only_this test f n l s e [] k h = absurd h
only_this test f n l s e (a ∷ rest) k (inl t) =
    let z = none_above its_flow its_number f n rest k.1 (omega (arith, t.1, head_number its_flow its_number f a rest k t.0)) in
    let r = of_none (λ (b : Packet). is_packet f n b && test b.length) rest
    (each_map (λ (b : Packet). is_packet f n b ≡ false) _ (λ b x. rw x refl) rest (none_passes (is_packet f n) rest z)) in
    rw (eq-eqb a.flow f t.0, eq-eqb a.number n t.1, t.2, r) (go (test l))
  where
    go : (b : Bool) → (b || false) ≡ b
    go true = refl
    go false = refl
only_this test f n l s e (a ∷ rest) k (inr h) = go (is_packet f n a) refl (only_this test f n l s e rest k.1 h)
  where
    go : (t : Bool) → is_packet f n a ≡ t → any_of (λ (b : Packet). is_packet f n b && test b.length) rest ≡ test l
        → ((t && test a.length) || any_of (λ (b : Packet). is_packet f n b && test b.length) rest) ≡ test l
    go true q i =
        let x = is_this_lem its_flow its_number f n a q in
        absurd (omega (arith, x.1, head_number its_flow its_number f a rest k x.0, has_number f n l s e rest k.1 h))
    go false q i = i

-- where of no flow that there is any packet waits, none does
none_wait : (waits : Packet → Bool) (ps : List Packet) → Each Proper ps
    → ((f : ℕ) → f < 16 → count (λ (a : Packet). eqb a.flow f && waits a) ps ≡ 0) → count waits ps ≡ 0
unfolding count
none_wait waits [] e z = refl
none_wait waits (a ∷ rest) e z =
    let here = rw (eqb_self a.flow) at (z a.flow e.0.0) in
    let there = none_wait waits rest e.1 (λ f l. let w = z f l in omega (arith, w)) in
    omega (arith, here, there)

module _ (p : Plan) (ok : Fits p) (u : Classes) (h : History) (g : LaneGood p u h) where
  -- where a begin finds no packet nothing waits of any flow
  flow_none : chosen u ≡ nothing → (f : ℕ) → f < 16 → waiting_in (packets_in h) f ≡ 0
  flow_none e f l = go (eqb (waiting_in (packets_in h) f) 0) refl
    where
      go : (b : Bool) → eqb (waiting_in (packets_in h) f) 0 ≡ b → waiting_in (packets_in h) f ≡ 0
      go true q = eqb-true (waiting_in (packets_in h) f) 0 q
      go false q =
          let n : waiting_in (packets_in h) f ≡ 0 → ⊥ = eqb-false (waiting_in (packets_in h) f) 0 q in
          let m = met_some p ok u h g.tree (root_sends p h f l (omega (arith, n))) in
          let w = met_waits p ok u h g.tree (flow_met u.tree) m refl in
          let z = lowest_none u.queue g.queue.kept.long (flow_met u.tree) e in
          let t = waiting_told g.queue.kept (flow_met u.tree) m in
          absurd (omega (arith, w, z, t))

  -- a begin finds none exactly where nothing waits
  none_told : (o : Choice Place) → chosen u ≡ o → is_none o ≡ eqb (waiting_all (packets_in h)) 0
  none_told nothing e = sym (eq-eqb (waiting_all (packets_in h)) 0 (none_wait _ (packets_in h).accepted g.proper (flow_none e)))
  none_told (at place x) e =
      let w = held_asked g.queue.kept place x (begin_lowest p ok u h g place x e).held (λ f n l s z. true) refl in
      sym (ne_eqb (waiting_all (packets_in h)) 0 (λ z. omega (arith, w, z)))

  -- the flow that a begin comes to would pass the largest tag
  abbrev passing : ℕ → Bool
  passing f = comes_to p h f && any_of (would_pass p h f) (packets_in h).accepted

  -- where it finds a packet, that packet does exactly where the flow does that it comes to
  passes_noted : (place : ℕ) (x : Place) → chosen u ≡ at place x → beyond u (at place x) ≡ any_from passing 0 16
  passes_noted place x e =
      passes_way p ok u h g.tree x.length (begin_length p ok u h g place x e) (place_flow place) known
      ∙ sym
      (only_this (λ bytes. any_of (passes_at p h bytes) (way_to p (place_flow place))) (place_flow place) x.number x.length x.start.0 x.finish.0
      (packets_in h).accepted g.queue.ordered.numbered (begin_there p ok u h g place x e))
      ∙ rw (begin_next p ok u h g place x e) (sym own)
      ∙ sym (any_only passing (place_flow place) 0 16 (omega arith) (omega (arith, known)) others)
    where
      known : place_flow place < 16
      known = begin_known p ok u h g place x e

      own : passing (place_flow place) ≡ any_of (would_pass p h (place_flow place)) (packets_in h).accepted
      own = rw (told_comes p h (place_flow place) (begin_way p ok u h g place x e)) refl

      others : (j : ℕ) → j < 0 + 16 → (place_flow place ≡ j → ⊥) → passing j ≡ false
      others j l n = go (comes_to p h j) refl
        where
          go : (b : Bool) → comes_to p h j ≡ b → (b && any_of (would_pass p h j) (packets_in h).accepted) ≡ false
          go true q =
              absurd (n (one_comes p ok h (place_flow place) j known (omega (arith, l)) (begin_way p ok u h g place x e) (comes_told p h j ok q)))
          go false q = refl

  -- a begin is refused as noted
  begin_told : (o : Choice Place) → chosen u ≡ o
      → first_of ((PacketInService, u.queue.service.busy) ∷ (NothingWaits, is_none o) ∷ (TagsUsedUp, beyond u o) ∷ [])
      ≡ first_of (grounds_noted p h Begin)
  unfolding first_of
  begin_told nothing e = rw (busy_told u.queue.service (packets_in h).accepted (packets_in h).moments g.queue.kept.service, sym (none_told nothing e))
  begin_told (at place x) e =
      rw (
        busy_told u.queue.service (packets_in h).accepted (packets_in h).moments g.queue.kept.service,
        sym (none_told (at place x) e),
        passes_noted place x e,
      )

  -- each call is refused as noted
  pub refused_noted : (call : Call) → refusal_in (call_of u call).answer ≡ first_of (grounds_noted p h call)
  refused_noted (Open flow weight) =
      refused_first u (Open flow weight) ∙ sym ((queue-first u.queue).opening flow weight) ∙ (queue-noted g.queue).opening flow weight
  refused_noted (Close flow) =
      refused_first u (Close flow) ∙ sym ((queue-first u.queue).closing flow) ∙ (queue-noted g.queue).closing flow
  refused_noted (Offer flow length) =
      refused_first u (Offer flow length)
      ∙ after_flow flow _ _ (λ l. rw (g.queue.kept.open_flows flow (omega arith), waiting_told g.queue.kept flow (omega arith)))
  refused_noted Begin = refused_first u Begin ∙ begin_told (chosen u) refl
  refused_noted End = refused_first u End ∙ sym (queue-first u.queue).ending ∙ (queue-noted g.queue).ending

-- T3: each call is refused exactly as the calls and answers so far tell
pub t3_noted : (p : Plan) → Fits p → (calls : List Call) (call : Call) → refusal_in (answer_to p calls call) ≡ first_of (grounds_noted p (run p calls).history call)
t3_noted p ok calls = refused_noted p ok (run p calls).lane (run p calls).history (run_good p ok calls)
