-- Each case of what a call gives, by the answer that the queue gave: a refusal is handed on, and the lane is as it was; with any other the lane
-- has what the queue gave.
use mathlib.Core.Path.{◌≡◌, refl, sym, ap, ◌∙◌}
use mathlib.Core.Bool.{Bool, true, false}
use mathlib.Core.List.{[], ◌∷◌}
use Rattle.std.proofs.Common.{Option, None, Some}
use Prim.Native.Nat.{ℕ}
use Rattle.units.specs.Refusals.{first_of, unless}
use Rattle.units.specs.declared.Refusal.{Refusal}
use Rattle.units.specs.declared.Refusal.TheVariants.{TagsUsedUp, PacketInService, NothingWaits, NoCommand}
use Rattle.units.proofs.Refusals.{none_is_none, first_skip, both_cases, unless_same}
use Rattle.places.specs.Choice.{Choice, nothing, at}
use Rattle.tags.specs.declared.Packet.{Packet}
use Rattle.tags.specs.Grounds.{opening_grounds}
use Rattle.packets.specs.declared.Answer.{Answer as QueueAnswer}
use Rattle.packets.specs.declared.Answer.TheVariants.{Refused as RefusedIn, Opened as OpenedIn, Closed as ClosedIn, Accepted, Begun as BegunIn, Ended as EndedIn}
use Rattle.packets.specs.Kept.{Kept, Flows}
use Rattle.packets.specs.declared.Queue.{Queue}
use Rattle.packets.specs.Answers.{refusal_in}
use Rattle.packets.specs.Queue.{flow_at, end_grounds}
use Rattle.packets.specs.Calls.{refused_flows, queue_with, put_grounds, put_of, placed}
use Rattle.packets.specs.Calls.{refused as refused_in, begun as begun_in, opened as opened_in, open_of as open_in, closed as closed_in, close_of as close_in, ended as ended_in, end_of as end_in}
use Rattle.tree.specs.declared.Tree.{Tree}
use Rattle.tree.specs.Tree.{node_of, node_at, with_node}
use Rattle.tree.specs.Steps.{weighed_node}
use Rattle.descent.specs.Descent.{flow_met}
use Rattle.ascent.specs.Ascent.{offered_to, passes_for, begun_from, ended_from}
use Rattle.taking.specs.Taking.{is_none, take_of}
use Rattle.classes.specs.declared.Classes.{Classes}
use Rattle.classes.specs.declared.Done.{Done}
use Rattle.classes.specs.declared.Answer.TheVariants.{Refused, Opened, Closed, Taken, Begun, Ended}
use Rattle.classes.specs.Lane.{chosen, beyond}
use Rattle.classes.specs.Calls.{refused, done, opened, open_of, closed, close_grounds, close_of, untagged, taken, offer_grounds, offer_of, begun, begin_of, ended, end_of}

-- the answer is none of the refusals
abbrev pub Other : QueueAnswer → Type 0
Other a = (r : Refusal) → a ≡ RefusedIn r → ⊥

-- what a call gives by the queue's answer: a refusal hands the lane back, and any other gives this
abbrev pub ByAnswer : Classes → QueueAnswer → Done → Done → Type 0
ByAnswer u a gives done = ((r : Refusal) → a ≡ RefusedIn r → refused u r ≡ done) × (Other a → gives ≡ done)

-- the refusal in an answer
refusal_of : QueueAnswer → Refusal
refusal_of (RefusedIn r) = r
refusal_of OpenedIn = NoCommand
refusal_of ClosedIn = NoCommand
refusal_of (Accepted n s f) = NoCommand
refusal_of (BegunIn f n l s) = NoCommand
refusal_of (EndedIn f n l) = NoCommand

-- what the queue refuses is refused
refused_by : (u : Classes) (gives : Done) (r : Refusal) → ByAnswer u (RefusedIn r) gives (refused u r)
unfolding refusal_of
refused_by u gives r = (λ s e. ap (λ (a : QueueAnswer). refused u (refusal_of a)) (sym e), λ k. absurd (k r refl))

-- and what it does not goes through
given_by : (u : Classes) (gives : Done) (a : QueueAnswer) → refusal_in a ≡ None → ByAnswer u a gives gives
given_by u gives a p = (λ r e. absurd (none_is_none r (sym p ∙ ap refusal_in e)), λ k. refl)

-- a call of the lane and one of its flows or of its queue that are refused for the same
module _ (u : Classes) (o : Option Refusal) (gives : Done) where
  by_flows : (d : Flows) → refusal_in d.answer ≡ None → (given : Flows → Done) → given d ≡ gives
      → ByAnswer u (unless (refused_flows u.queue) o d).answer (given (unless (refused_flows u.queue) o d)) (unless (refused u) o gives)
  by_flows d p given e =
      both_cases (refused_flows u.queue) (refused u) (λ (x : Flows) (y : Done). ByAnswer u x.answer (given x) y)
      (λ r. refused_by u (given (refused_flows u.queue r)) r) o d gives (rw e (given_by u gives d.answer p))

  by_queue : (d : Kept) → refusal_in d.answer ≡ None → (given : Kept → Done) → given d ≡ gives
      → ByAnswer u (unless (refused_in u.queue) o d).answer (given (unless (refused_in u.queue) o d)) (unless (refused u) o gives)
  by_queue d p given e =
      both_cases (refused_in u.queue) (refused u) (λ (x : Kept) (y : Done). ByAnswer u x.answer (given x) y)
      (λ r. refused_by u (given (refused_in u.queue r)) r) o d gives (rw e (given_by u gives d.answer p))

-- a queue that refuses a call is as it was
kept_same : (q : Queue) (o : Option Refusal) (d : Kept) → refusal_in d.answer ≡ None → (r : Refusal) → (unless (refused_in q) o d).answer ≡ RefusedIn r
    → (unless (refused_in q) o d).queue ≡ q
kept_same q o d p r e =
    unless_same (refused_in q) (λ (x : Kept). refusal_in x.answer) (λ (x : Kept). x.queue) q (λ s. refl) o d
    (λ s t. absurd (none_is_none s (sym p ∙ t))) r (ap refusal_in e)

-- and one that refuses a call on its flows
flows_same : (q : Queue) (o : Option Refusal) (d : Flows) → refusal_in d.answer ≡ None → (r : Refusal) → (unless (refused_flows q) o d).answer ≡ RefusedIn r
    → queue_with q (unless (refused_flows q) o d) ≡ q
flows_same q o d p r e =
    unless_same (refused_flows q) (λ (x : Flows). refusal_in x.answer) (queue_with q) q (λ s. refl) o d
    (λ s t. absurd (none_is_none s (sym p ∙ t))) r (ap refusal_in e)

module _ (u : Classes) where
  pub open_by : (flow weight : ℕ) (d : Flows) → d ≡ open_in u.queue flow weight → (t : Tree)
      → t ≡ with_node u.tree (node_of flow) (weighed_node weight (node_at u.tree (node_of flow)))
      → ByAnswer u d.answer (done t (queue_with u.queue d) Opened) (open_of u flow weight)
  unfolding open_of open_in
  open_by flow weight d e t f =
      rw (e, f)
      (by_flows u (first_of (opening_grounds flow weight (flow_at u.queue flow))) (opened u flow weight) (opened_in u.queue flow weight) refl
      (λ (x : Flows). done (with_node u.tree (node_of flow) (weighed_node weight (node_at u.tree (node_of flow)))) (queue_with u.queue x) Opened) refl)

  -- an opening or a closing that the queue refuses, with the queue that it leaves
  pub open_back : (flow weight : ℕ) (d : Flows) → d ≡ open_in u.queue flow weight → (r : Refusal) → d.answer ≡ RefusedIn r
      → done u.tree (queue_with u.queue d) (Refused r) ≡ open_of u flow weight
  unfolding open_in
  open_back flow weight d e r p =
      let same : queue_with u.queue (open_in u.queue flow weight) ≡ u.queue = flows_same u.queue (first_of (opening_grounds flow weight (flow_at u.queue flow))) (opened_in u.queue flow weight) refl r (rw e at p) in
      ap (λ (x : Queue). done u.tree x (Refused r)) (ap (queue_with u.queue) e ∙ same)
      ∙ (open_by flow weight d e (with_node u.tree (node_of flow) (weighed_node weight (node_at u.tree (node_of flow)))) refl).0 r p

  pub close_by : (flow : ℕ) (d : Flows) → d ≡ close_in u.queue flow
      → ByAnswer u d.answer (done u.tree (queue_with u.queue d) Closed) (close_of u flow)
  unfolding close_of close_in
  close_by flow d e =
      rw e
      (by_flows u (first_of (close_grounds u flow)) (closed u flow) (closed_in u.queue flow) refl
      (λ (x : Flows). done u.tree (queue_with u.queue x) Closed) refl)

  pub close_back : (flow : ℕ) (d : Flows) → d ≡ close_in u.queue flow → (r : Refusal) → d.answer ≡ RefusedIn r
      → done u.tree (queue_with u.queue d) (Refused r) ≡ close_of u flow
  unfolding close_in
  close_back flow d e r p =
      let same : queue_with u.queue (close_in u.queue flow) ≡ u.queue = flows_same u.queue (first_of (close_grounds u flow)) (closed_in u.queue flow) refl r (rw e at p) in
      ap (λ (x : Queue). done u.tree x (Refused r)) (ap (queue_with u.queue) e ∙ same) ∙ (close_by flow d e).0 r p

  pub offer_by : (flow length : ℕ) (d : Kept) → d ≡ put_of u.queue flow length (Some untagged) → (t : Tree) → t ≡ offered_to u.tree flow
      → ByAnswer u d.answer (done t d.queue (Taken (flow_at u.queue flow).next)) (offer_of u flow length)
  unfolding offer_of put_of
  offer_by flow length d e t f =
      rw (e, f, first_skip TagsUsedUp (offer_grounds u flow length))
      (by_queue u (first_of (offer_grounds u flow length)) (taken u flow length) (placed u.queue flow length untagged) refl
      (λ (x : Kept). done (offered_to u.tree flow) x.queue (Taken (flow_at u.queue flow).next)) refl)

  -- an offer that the queue refuses, with the queue that it hands back
  pub offer_back : (flow length : ℕ) (d : Kept) → d ≡ put_of u.queue flow length (Some untagged) → (r : Refusal) → d.answer ≡ RefusedIn r
      → done u.tree d.queue (Refused r) ≡ offer_of u flow length
  unfolding put_of
  offer_back flow length d e r p =
      let same : (put_of u.queue flow length (Some untagged)).queue ≡ u.queue = kept_same u.queue (first_of (put_grounds u.queue flow length (Some untagged))) (placed u.queue flow length untagged) refl r (rw e at p) in
      ap (λ (x : Queue). done u.tree x (Refused r)) (ap (λ (x : Kept). x.queue) e ∙ same)
      ∙ (offer_by flow length d e (offered_to u.tree flow) refl).0 r p

  pub end_by : (d : Kept) → d ≡ end_in u.queue → (t : Tree) → t ≡ ended_from u.tree u.queue.service.flow
      → ByAnswer u d.answer (done t d.queue (Ended u.queue.service.flow u.queue.service.number u.queue.service.length)) (end_of u)
  unfolding end_of end_in
  end_by d e t f =
      rw (e, f)
      (by_queue u (first_of (end_grounds u.queue)) (ended u) (ended_in u.queue) refl
      (λ (x : Kept). done (ended_from u.tree u.queue.service.flow) x.queue (Ended u.queue.service.flow u.queue.service.number u.queue.service.length))
      refl)

  -- an end that the queue refuses, with the queue that it hands back
  pub end_back : (d : Kept) → d ≡ end_in u.queue → (r : Refusal) → d.answer ≡ RefusedIn r → done u.tree d.queue (Refused r) ≡ end_of u
  unfolding end_in
  end_back d e r p =
      let same : (end_in u.queue).queue ≡ u.queue = kept_same u.queue (first_of (end_grounds u.queue)) (ended_in u.queue) refl r (rw e at p) in
      ap (λ (x : Queue). done u.tree x (Refused r)) (ap (λ (x : Kept). x.queue) e ∙ same)
      ∙ (end_by d e (ended_from u.tree u.queue.service.flow) refl).0 r p

-- begin, by what taking gave: a refusal is handed on; a packet that would pass the largest tag is refused, and any other begun
abbrev Begins : Classes → Kept → Done → Type 0
Begins u d e =
    ((r : Refusal) → d.answer ≡ RefusedIn r → refused u r ≡ e)
    × (Other d.answer
    → (passes_for u.tree d.queue.service.flow d.queue.service.length ≡ true → refused u TagsUsedUp ≡ e)
    × (passes_for u.tree d.queue.service.flow d.queue.service.length ≡ false
    → done (begun_from u.tree d.queue.service.flow d.queue.service.length) d.queue
    (Begun d.queue.service.flow d.queue.service.number d.queue.service.length (node_at u.tree (node_of d.queue.service.flow)).start)
    ≡ e))

module _ (u : Classes) where
  -- by whether the service is busy, and by the packet
  begins : (busy : Bool) (c : Choice Packet)
      → Begins u (unless (refused_in u.queue) (first_of ((PacketInService, busy) ∷ (NothingWaits, is_none c) ∷ [])) (begun_in u.queue c))
      (unless (refused u) (first_of ((PacketInService, busy) ∷ (NothingWaits, is_none c) ∷ (TagsUsedUp, beyond u c) ∷ [])) (begun u c))
  unfolding first_of
  begins true c = ((refused_by u (refused u PacketInService) PacketInService).0, λ k. absurd (k PacketInService refl))
  begins false nothing = ((refused_by u (refused u NothingWaits) NothingWaits).0, λ k. absurd (k NothingWaits refl))
  begins false (at place p) = (λ r e. absurd (none_is_none r (ap refusal_in e)), λ k. (λ b. rw b, λ b. rw b))

  pub begin_by : (d : Kept) → d ≡ take_of u.queue (flow_met u.tree) → Begins u d (begin_of u)
  unfolding begin_of take_of
  begin_by d e = rw e (begins u.queue.service.busy (chosen u))
