-- T2: the rules alone settle every answer. A call is refused as noted; and one that goes through is answered as noted: a begin by the one flow that
-- it comes to, whose packet of the number that is next has one length, an offer by how many were accepted, an end by the packet last begun.
use mathlib.Core.Path.{◌≡◌, refl, sym, ◌∙◌, ap}
use mathlib.Core.Bool.{Bool, true, false, cond}
use mathlib.Core.Logic.{inl, inr}
use mathlib.Core.List.{List, [], ◌∷◌}
use Rattle.std.proofs.Common.{Option}
use Prim.Native.Nat.{ℕ, zero, suc, ◌+◌, ◌≤◌, ◌<◌}
use native.Mathlib.Omega.{arith}
use borrow.Author.Tests.{eqb-true, eqb-false, eq-eqb}
use lib.Dec.{eqb}
use Rattle.units.specs.Refusals.{first_of, unless}
use Rattle.units.specs.declared.Refusal.{Refusal}
use Rattle.units.specs.declared.Tag.{Tag}
use Rattle.places.specs.Members.{Any}
use Rattle.places.specs.Choice.{at}
use Rattle.places.proofs.Numbers.{is_this_lem, head_number}
use Rattle.tags.specs.declared.Packet.{Packet as Place}
use Rattle.tags.proofs.Tags.{tag_same}
use Rattle.packets.specs.declared.Answer.TheVariants.{Ended as EndedIn}
use Rattle.plans.specs.declared.Plan.{Plan}
use Rattle.plans.specs.Plans.{class_in, Fits}
use Rattle.tree.specs.Tree.{node_of, node_at}
use Rattle.classes.specs.declared.Classes.{Classes}
use Rattle.classes.specs.declared.Done.{Done}
use Rattle.classes.specs.declared.Call.{Call}
use Rattle.classes.specs.declared.Call.TheVariants.{Open, Close, Offer, Begin, End}
use Rattle.classes.specs.declared.Answer.{Answer}
use Rattle.classes.specs.declared.Answer.TheVariants.{Refused, Taken, Begun, Ended}
use Rattle.classes.specs.Lane.{lane_of, chosen}
use Rattle.classes.specs.Calls.{refused, call_of, answers}
use Rattle.classes.specs.Answers.{refusal_in}
use Rattle.classes.proofs.Cases.{open_cases, close_cases, offer_cases, begin_cases, end_cases}
use Rattle.promises_queue.specs.Packets.{Packet, its_flow, its_number, is_packet, Moment, began, ceased}
use Rattle.promises_queue.specs.Promised.{begun_of, PacketsNumbered, LastBegun}
use Rattle.promises_queue.proofs.Numbers.{IsThis, has_number}
use Rattle.promises_queue.proofs.Chosen.{place_flow}
use Rattle.promises_queue.proofs.Account.{served_last}
use Rattle.promises_classes.specs.Events.{History, packets_in, note}
use Rattle.promises_classes.specs.Rules.{a_flow, start_tag}
use Rattle.promises_classes.specs.Views.{seen}
use Rattle.promises_classes.specs.Refused.{comes_to, grounds_noted}
use Rattle.promises_classes.specs.Answering.{length_in, first_begun, begun_noted, ended_noted, through_noted, answer_noted, answers_noted}
use Rattle.promises_classes.proofs.Descents.{start_told_lem}
use Rattle.promises_classes.proofs.Comes.{told_comes, comes_told, one_comes}
use Rattle.promises_classes.proofs.Good.{LaneGood, good_fresh, begin_known, begin_way, begin_next, begin_there}
use Rattle.promises_classes.proofs.Runs.{call_good}
use Rattle.promises_classes.proofs.Noted.{refused_noted}

-- the length found by flow and number is the packet's
has_length : (f n l s e : ℕ) (ps : List Packet) → PacketsNumbered ps → Any (IsThis f n l s e) ps → length_in ps f n ≡ l
unfolding length_in
has_length f n l s e [] k h = absurd h
has_length f n l s e (a ∷ rest) k (inl t) = rw (eq-eqb a.flow f t.0, eq-eqb a.number n t.1) t.2
has_length f n l s e (a ∷ rest) k (inr h) = go (is_packet f n a) refl (has_length f n l s e rest k.1 h)
  where
    go : (t : Bool) → is_packet f n a ≡ t → length_in rest f n ≡ l → cond t a.length (length_in rest f n) ≡ l
    go true q i =
        let x = is_this_lem its_flow its_number f n a q in
        absurd (omega (arith, x.1, head_number its_flow its_number f a rest k x.0, has_number f n l s e rest k.1 h))
    go false q i = i

-- the packet last begun is the one that an end is noted to answer
last_noted : (ms : List Moment) (flow number length : ℕ) → LastBegun ms (EndedIn flow number length) → Ended flow number length ≡ ended_noted ms
last_noted [] flow number length t = absurd t
last_noted (began f n l s p ∷ ms) flow number length t = rw (t.0, t.1, t.2) refl
last_noted (ceased f n l p e w ∷ ms) flow number length t = absurd t

module _ (p : Plan) (h : History) where
  -- a flow's first packet that is not begun, begun
  abbrev begun_first : ℕ → Answer
  begun_first f = first_begun p h f (begun_of (packets_in h).moments f)

  -- of the flows from k on, the one that a begin comes to is begun, where it comes to none before
  first_noted : (f k n : ℕ) → k ≤ f → f < k + n → comes_to p h f ≡ true → ((j : ℕ) → j < f → comes_to p h j ≡ false) → begun_noted p h k n ≡ begun_first f
  unfolding begun_noted
  first_noted f k zero a b here others = absurd (omega (arith, a, b))
  first_noted f k (suc n) a b here others = go (first_noted f (suc k) n) (eqb k f) refl
    where
      go : (suc k ≤ f → f < suc k + n → comes_to p h f ≡ true → ((j : ℕ) → j < f → comes_to p h j ≡ false) → begun_noted p h (suc k) n ≡ begun_first f)
          → (t : Bool) → eqb k f ≡ t → cond (comes_to p h k) (begun_first k) (begun_noted p h (suc k) n) ≡ begun_first f
      go ih true q =
          let e : k ≡ f = eqb-true k f q in
          ap (λ t. cond t (begun_first k) (begun_noted p h (suc k) n)) (ap (comes_to p h) e ∙ here) ∙ ap begun_first e
      go ih false q =
          let ne : k ≡ f → ⊥ = eqb-false k f q in
          ap (λ t. cond t (begun_first k) (begun_noted p h (suc k) n)) (others k (omega (arith, a, ne)))
          ∙ ih (omega (arith, a, ne)) (omega (arith, b)) here others

module _ (p : Plan) (ok : Fits p) (u : Classes) (h : History) (g : LaneGood p u h) where
  -- the packet that a begin takes
  module _ (place : ℕ) (x : Place) (e : chosen u ≡ at place x) where
    -- a begin comes to its flow and to no other
    one_noted : begun_noted p h 0 16 ≡ begun_first p h (place_flow place)
    one_noted =
        first_noted p h (place_flow place) 0 16 (omega arith) (omega (arith, known)) (told_comes p h (place_flow place) (begin_way p ok u h g place x e)) others
      where
        known : place_flow place < 16
        known = begin_known p ok u h g place x e

        others : (j : ℕ) → j < place_flow place → comes_to p h j ≡ false
        others j l = go (comes_to p h j) refl
          where
            go : (b : Bool) → comes_to p h j ≡ b → b ≡ false
            go true q =
                let s = one_comes p ok h (place_flow place) j known (omega (arith, l, known)) (begin_way p ok u h g place x e) (comes_told p h j ok q) in
                absurd (omega (arith, l, s))
            go false q = refl

    -- so it is answered as noted
    begin_noted : Begun (place_flow place) x.number x.length (node_at u.tree (node_of (place_flow place))).start ≡ begun_noted p h 0 16
    begin_noted =
        let f = place_flow place in
        let ps = (packets_in h).accepted in
        let start = (node_at u.tree (node_of f)).start in
        let tag : Tag = record { 0 = start_tag (seen p (class_in p f) h) (a_flow f) } in
        let bytes = has_length f x.number x.length x.start.0 x.finish.0 ps g.queue.ordered.numbered (begin_there p ok u h g place x e) in
        ap (λ l. Begun f x.number l start) (sym bytes)
        ∙ ap (Begun f x.number (length_in ps f x.number)) (tag_same start tag (start_told_lem p ok u h g.tree f (begin_known p ok u h g place x e)))
        ∙ ap (first_begun p h f) (begin_next p ok u h g place x e)
        ∙ sym one_noted

  -- what a call gives is answered as noted, where it is refused as noted
  abbrev AsNoted : Call → Done → Type 0
  AsNoted call d = (o : Option Refusal) → refusal_in d.answer ≡ o → d.answer ≡ unless Refused o (through_noted p h call)

  -- a refusal is
  refusal_noted : (call : Call) (r : Refusal) → AsNoted call (refused u r)
  refusal_noted call r o q = rw (← q) refl

  -- each call is
  call_noted : (call : Call) → AsNoted call (call_of u call)
  call_noted (Open flow weight) =
      open_cases u (AsNoted (Open flow weight)) (refusal_noted (Open flow weight)) flow weight (λ low shut good o q. rw (← q) refl)
  call_noted (Close flow) = close_cases u (AsNoted (Close flow)) (refusal_noted (Close flow)) flow (λ low none idle o q. rw (← q) refl)
  call_noted (Offer flow length) =
      offer_cases u (AsNoted (Offer flow length)) (refusal_noted (Offer flow length)) flow length
      (λ low opened good room o q. rw (← q) (ap Taken (g.queue.kept.next flow (omega (arith, low)))))
  call_noted Begin = begin_cases u (AsNoted Begin) (refusal_noted Begin) (λ idle place x e fits o q. rw (← q) (begin_noted place x e))
  call_noted End =
      end_cases u (AsNoted End) (refusal_noted End)
      (λ busy o q.
      let v = u.queue.service in
      rw (← q) (last_noted (packets_in h).moments v.flow v.number v.length (served_last g.queue busy)))

  -- so each answer is the one noted
  answer_noted_lem : (call : Call) → (call_of u call).answer ≡ answer_noted p h call
  answer_noted_lem call = call_noted call (first_of (grounds_noted p h call)) (refused_noted p ok u h g call)

-- and so are the answers to all calls of a list
answers_noted_lem : (p : Plan) → Fits p → (u : Classes) (h : History) → LaneGood p u h → (calls : List Call) → answers u calls ≡ answers_noted p h calls
unfolding answers answers_noted
answers_noted_lem p ok u h g [] = refl
answers_noted_lem p ok u h g (call ∷ calls) =
    ap (λ rest. (call_of u call).answer ∷ rest)
    (answers_noted_lem p ok (call_of u call).lane (note h call (call_of u call).answer) (call_good p ok u h g call) calls)
    ∙ ap (λ a. a ∷ answers_noted p (note h call a) calls) (answer_noted_lem p ok u h g call)

-- T2: the rules alone settle every answer
pub t2_answers : (p : Plan) → Fits p → (calls : List Call) → answers (lane_of p) calls ≡ answers_noted p [] calls
t2_answers p ok calls = answers_noted_lem p ok (lane_of p) [] (good_fresh p ok) calls
