-- What the calls keep says of the promises: F1 to F4 of tags, service, ends and virtual time, and S4 of refusals.
use mathlib.Core.Path.{◌≡◌, sym, ◌∙◌}
use mathlib.Core.Bool.{Bool, true, false, cond, ◌||◌}
use mathlib.Core.List.{[], ◌∷◌}
use Rattle.std.proofs.Common.{None}
use Prim.Native.Nat.{ℕ, ◌≤◌, max}
use native.Mathlib.Nat.{le_refl}
use native.Mathlib.Omega.{arith}
use lib.Dec.{ltb, eqb}
use Rattle.units.specs.Limits.{tag_limit}
use Rattle.units.specs.declared.Refusal.TheVariants.{TagsUsedUp}
use Rattle.units.proofs.Refusals.{none_is_none}
use Rattle.tags.specs.Grounds.{tag_ground}
use Rattle.packets.specs.declared.Answer.{Answer}
use Rattle.packets.specs.Answers.{told, refusal_in}
use Rattle.packets.specs.Queue.{flow_at, by_start}
use Rattle.packets.proofs.Refused.{refused_first as queue-first}
use Rattle.fair.specs.declared.Fair.{Fair}
use Rattle.fair.specs.Lane.{start_of}
use Rattle.fair.specs.Calls.{offer_of, begin_of, end_of}
use Rattle.fair.proofs.Cases.{offer_cases, begin_cases, end_cases}
use Rattle.fair.proofs.Refused.{refused_first}
use Rattle.promises_queue.specs.Packets.{Packets, waiting_all}
use Rattle.promises_queue.specs.Notes.{note_opening, note_closing, note_offer, note_service}
use Rattle.promises_queue.specs.Promised.{accepted_of, LastBegun}
use Rattle.promises_queue.proofs.Moments.{same_opening, same_closing, same_offer}
use Rattle.promises_queue.proofs.Ceased.{finish_of_this}
use Rattle.promises_queue.proofs.Account.{chosen_first, places_in_order, served_last, offer_noted, refused_as_noted as queue-noted}
use Rattle.promises_fair.specs.Times.{last_start, largest_ended, virtual_time}
use Rattle.promises_fair.specs.Promised.{start_in, finish_tag, First, ServedInOrder, NumbersGoOn, NeverFalls}
use Rattle.promises_fair.specs.Refused.{RefusedAsNoted}
use Rattle.promises_fair.proofs.Kept.{start_told_lem, finish_told}
use Rattle.promises_fair.proofs.Began.{begins_late}
use Rattle.promises_fair.proofs.Ceased.{InService, in_service}
use Rattle.promises_fair.proofs.Good.{Good, queue_good}

-- F1: what an accepted offer is told
pub offer_told : (u : Fair) (h : Packets) → Good u h → (flow length : ℕ) → refusal_in (offer_of u flow length).answer ≡ None
    → (told (offer_of u flow length).answer).values ≡ accepted_of h flow ∷ start_in h flow ∷ finish_tag h flow length ∷ []
offer_told u h g flow length =
    let k = g.kept in
    offer_cases u
    (λ d. refusal_in d.answer ≡ None → (told d.answer).values ≡ accepted_of h flow ∷ start_in h flow ∷ finish_tag h flow length ∷ [])
    (λ r e. absurd (none_is_none r (sym e))) flow length
    (λ low o good room fits few e. rw (k.queue.next flow (omega arith), finish_told k flow low length, start_told_lem k flow low))

-- F2: the packet that begins is one that waits, and goes first
pub begins_first : (u : Fair) (h : Packets) → Good u h → First h (begin_of u).answer
begins_first u h g = begin_cases u (λ d. First h d.answer) (λ r. tt) (λ b place p e. chosen_first (queue_good u h g) by_start place p e)

-- F2: places and begins are in order
pub served_in_order : (u : Fair) (h : Packets) → Good u h → ServedInOrder u h
served_in_order u h g = places_in_order (queue_good u h g)

-- F3: the packet in service is the one last begun
pub ends_last : (u : Fair) (h : Packets) → Good u h → LastBegun h.moments (end_of u).answer
ends_last u h g = end_cases u (λ d. LastBegun h.moments d.answer) (λ r. tt) (served_last (queue_good u h g))

-- F3: numbers go on
pub numbers_go_on : (u : Fair) (h : Packets) → Good u h → NumbersGoOn u h
numbers_go_on u h g =
    record { numbered = g.ordered.numbered; few_numbers = λ flow b. omega (arith, g.kept.queue.next flow b, g.paced.few flow) }

-- F4: neither the next begin nor the next end takes virtual time back
pub never_falls : (u : Fair) (h : Packets) → Good u h → NeverFalls u h
unfolding virtual_time largest_ended
never_falls u h g =
    record {
      begins =
          begin_cases u (λ d. virtual_time h.moments ≤ virtual_time (note_service h d.answer).moments) (λ r. le_refl (virtual_time h.moments))
          (λ b place p e. begins_late g.kept g.ordered g.paced place p e);
      ends =
          end_cases u (λ d. virtual_time h.moments ≤ virtual_time (note_service h d.answer).moments) (λ r. le_refl (virtual_time h.moments))
          (λ b. go (in_service u.queue.service h.accepted h.moments b g.kept.queue.service g.paced.in_hand) (eqb (waiting_all h) 0));
    }
  where
    go : InService u.queue.service h.accepted h.moments → (b : Bool)
        → virtual_time h.moments ≤ cond b (max (finish_of_this u.queue.service h.accepted) (largest_ended h.moments)) (last_start h.moments)
    go s true = omega arith
    go s false = omega arith

-- S4: each call is refused as its queue's is, an offer for its tags as they are noted
pub refused_as_noted : (u : Fair) (h : Packets) → Good u h → RefusedAsNoted u h
refused_as_noted u h g =
    let q = queue-noted (queue_good u h g) in
    let first = queue-first u.queue in
    record {
      opening = λ flow weight. (refused_first u).opening flow weight ∙ sym (first.opening flow weight) ∙ q.opening flow weight;
      closing = λ flow. (refused_first u).closing flow ∙ sym (first.closing flow) ∙ q.closing flow;
      offering = λ flow length.
          (refused_first u).offering flow length
          ∙ offer_noted (queue_good u h g) flow length (tag_ground (flow_at u.queue flow) (start_of u flow) length)
          (TagsUsedUp, ltb tag_limit (finish_tag h flow length) || ltb tag_limit (accepted_of h flow))
          (λ l. rw (finish_told g.kept flow l length, g.kept.queue.next flow (omega arith)));
      beginning = (refused_first u).beginning ∙ sym (first.beginning by_start) ∙ q.beginning by_start;
      ending = (refused_first u).ending ∙ sym first.ending ∙ q.ending;
    }

-- F4: and no opening, closing or offer takes it back: an opening
pub opening_keeps : (h : Packets) (flow weight : ℕ) (a : Answer) → virtual_time h.moments ≤ virtual_time (note_opening h flow weight a).moments
opening_keeps h flow weight a = rw (same_opening h flow weight a) (le_refl (virtual_time h.moments))

-- a closing
pub closing_keeps : (h : Packets) (flow : ℕ) (a : Answer) → virtual_time h.moments ≤ virtual_time (note_closing h flow a).moments
closing_keeps h flow a = rw (same_closing h flow a) (le_refl (virtual_time h.moments))

-- an offer
pub offer_keeps : (h : Packets) (flow length : ℕ) (a : Answer) → virtual_time h.moments ≤ virtual_time (note_offer h flow length a).moments
offer_keeps h flow length a = rw (same_offer h flow length a) (le_refl (virtual_time h.moments))
