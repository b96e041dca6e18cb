-- What the calls keep of a queue says of the promises: a begin takes the packet that goes first by the queue's rank, places and numbers are in
-- order, an end is of the packet last begun, and each call is refused as the calls and answers so far tell.
use Rattle.std.specs.Option.{is_none}
use mathlib.Core.Path.{◌≡◌, refl, ap, ◌∙◌}
use mathlib.Core.Bool.{true, not}
use mathlib.Core.List.{[], ◌∷◌, ◌++◌}
use Prim.Native.Nat.{ℕ, ◌≤◌}
use native.Mathlib.Omega.{arith}
use Rattle.units.specs.Refusals.{Ground, first_of}
use Rattle.units.specs.declared.Refusal.TheVariants.{TagsUsedUp}
use Rattle.units.proofs.Refusals.{after_flow}
use Rattle.places.specs.Choice.{at}
use Rattle.places.proofs.Leading.{it_is_first}
use Rattle.places.proofs.Members.{some_map}
use Rattle.tags.specs.declared.Packet.{Packet as Place}
use Rattle.tags.specs.Tags.{free_packet, is_held}
use Rattle.tags.specs.Grounds.{waiting_grounds}
use Rattle.packets.specs.declared.Queue.{Queue}
use Rattle.packets.specs.Queue.{flow_at, waiting_of, Rank, chosen_by}
use Rattle.packets.specs.Calls.{begun, ended}
use Rattle.packets.proofs.Refused.{refused_first}
use Rattle.promises_queue.specs.Packets.{Packets, waits}
use Rattle.promises_queue.specs.Promised.{FirstBy, PlacesInOrder, LastBegun}
use Rattle.promises_queue.specs.Refused.{waiting_noted, RefusedAsNoted}
use Rattle.promises_queue.proofs.Kept.{Facts, place_facts, packet_facts, packets_tied, busy_told, serving_told, waiting_told, waiting_all}
use Rattle.promises_queue.proofs.Chosen.{facts_key, alike, alike_self, alike_told, lead}
use Rattle.promises_queue.proofs.Ceased.{last_begun}
use Rattle.promises_queue.proofs.Good.{QueueGood}

module _ {q : Queue} {h : Packets} (g : QueueGood q h) where
  -- the packet that is chosen is one that waits, and goes first
  pub chosen_first : (rank : Rank) (place : ℕ) (p : Place) → chosen_by rank q ≡ at place p → FirstBy rank h (begun q (at place p)).answer
  chosen_first rank place p e =
      some_map _ _
      (λ a t. (
        t.0,
        ap (λ (x : Facts). x.0) t.1,
        ap (λ (x : Facts). x.1) t.1,
        ap (λ (x : Facts). x.2) t.1,
        ap (λ (x : Facts). x.3) t.1,
        t.2,
      )) h.accepted
      (it_is_first is_held place_facts packet_facts (facts_key rank) free_packet q.packets h.accepted (waits h) (packets_tied g.kept) place p
      (lead g.kept place p rank e) alike alike_self alike_told)

  -- places and begins are in order
  pub places_in_order : PlacesInOrder q h
  places_in_order = record { in_order = g.ordered.in_order; packet_for_packet = g.kept.tied }

  -- the packet in service is the one last begun
  pub served_last : q.service.busy ≡ true → LastBegun h.moments (ended q).answer
  served_last b = last_begun q.service h.accepted h.moments b g.kept.service

  -- what refuses an offer without a tag is noted; a lane has its own ground about tags, and says how that is noted
  pub offer_noted : (flow length : ℕ) (ground noted : Ground) → (flow ≤ 15 → ground ≡ noted)
      → first_of (waiting_grounds flow (flow_at q flow) (waiting_of q flow) length ++ ground ∷ []) ≡ first_of (waiting_noted h flow length ++ noted ∷ [])
  offer_noted flow length ground noted same =
      after_flow flow _ _ (λ l. rw (g.kept.open_flows flow (omega arith), waiting_told g.kept flow (omega arith), same l))

  -- each call is refused as the calls and answers so far tell
  pub refused_as_noted : RefusedAsNoted q h
  refused_as_noted =
      let k = g.kept in
      let busy = busy_told q.service h.accepted h.moments k.service in
      record {
        opening = λ flow weight. (refused_first q).opening flow weight ∙ after_flow flow _ _ (λ l. rw (k.open_flows flow (omega arith)));
        closing = λ flow.
            (refused_first q).closing flow
            ∙ after_flow flow _ _
            (λ l. rw (
              k.open_flows flow (omega arith),
              waiting_told k flow (omega arith),
              serving_told q.service h.accepted h.moments k.service flow,
            ));
        putting = λ flow length quote.
            (refused_first q).putting flow length quote
            ∙ offer_noted flow length (TagsUsedUp, is_none quote) (TagsUsedUp, is_none quote) (λ l. refl);
        beginning = λ rank. (refused_first q).beginning rank ∙ rw (busy, waiting_all k);
        ending = (refused_first q).ending ∙ rw busy;
      }
