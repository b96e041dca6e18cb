-- A call is refused exactly for the first of its grounds that holds.
use mathlib.Core.Path.{◌≡◌, refl}
use mathlib.Core.Bool.{Bool, true, false, cond}
use Rattle.std.proofs.Common.{Option, None, Some, not, [], ◌∷◌, ℕ, leb}
use Rattle.units.specs.Limits.{place_count, no_such_flow, bad_length}
use Rattle.packets.specs.declared.Quote.{Quote}
use borrow.Author.Tests.{eq-eqb}
use Rattle.units.specs.Refusals.{first_of, unless}
use Rattle.units.specs.declared.Refusal.{Refusal}
use Rattle.units.specs.declared.Refusal.TheVariants.{NoSuchFlow, NotOpen, PlacesFull, TagsUsedUp, BadLength, PacketInService, NothingWaits}
use Rattle.units.proofs.Refusals.{unless_first}
use Rattle.places.specs.Choice.{Choice, nothing, at}
use Rattle.places.proofs.Least.{none_held}
use Rattle.tags.specs.declared.Packet.{Packet}
use Rattle.tags.specs.Tags.{free_packet, is_held}
use Rattle.tags.specs.Grounds.{opening_grounds, closing_grounds}
use Rattle.packets.specs.declared.Queue.{Queue}
use Rattle.packets.specs.Kept.{Kept, Flows}
use Rattle.packets.specs.Queue.{flow_at, waiting_of, waiting, busy_with, Rank, key_by, chosen_by, begin_grounds, end_grounds}
use Rattle.packets.specs.Calls.{refused_flows, refused, opened, open_of, closed, close_of, placed, put_grounds, put_of, begun, begin_by, ended, end_of}
use Rattle.packets.specs.Answers.{refusal_in}
use Rattle.packets.specs.Laws.{RefusedFirst}

module _ (q : Queue) where
  flows_first : (o : Option Refusal) (d : Flows) → refusal_in d.answer ≡ None → refusal_in (unless (refused_flows q) o d).answer ≡ o
  flows_first = unless_first (refused_flows q) (λ (d : Flows). refusal_in d.answer) (λ r. refl)

  first : (o : Option Refusal) (d : Kept) → refusal_in d.answer ≡ None → refusal_in (unless (refused q) o d).answer ≡ o
  first = unless_first (refused q) (λ (d : Kept). refusal_in d.answer) (λ r. refl)

  -- begin: with nothing to choose from, it is refused for that, or for the packet in service
  begin_first : (rank : Rank) (x : Choice Packet) → chosen_by rank q ≡ x
      → refusal_in (unless (refused q) (first_of (begin_grounds q)) (begun q x)).answer ≡ first_of (begin_grounds q)
  unfolding first_of
  begin_first rank nothing e = rw (eq-eqb (waiting q) 0 (none_held is_held (key_by rank) free_packet refl q.packets e)) (go q.service.busy)
    where
      go : (b : Bool)
          → refusal_in (unless (refused q) (cond b (Some PacketInService) (Some NothingWaits)) (refused q NothingWaits)).answer
          ≡ cond b (Some PacketInService) (Some NothingWaits)
      go true = refl
      go false = refl
  begin_first rank (at place p) e = first (first_of (begin_grounds q)) (begun q (at place p)) refl

  -- a packet that is quoted none is refused for that, or for what comes before it
  put_first : (flow length : ℕ) (quote : Option Quote) → refusal_in (put_of q flow length quote).answer ≡ first_of (put_grounds q flow length quote)
  unfolding put_of first_of
  put_first flow length (Some quote) = first (first_of (put_grounds q flow length (Some quote))) (placed q flow length quote) refl
  put_first flow length None = go (no_such_flow flow) (not (flow_at q flow).opened) (bad_length length) (leb place_count (waiting_of q flow))
    where
      go : (a b c d : Bool)
          → refusal_in (unless (refused q) (first_of ((NoSuchFlow, a) ∷ (NotOpen, b) ∷ (BadLength, c) ∷ (PlacesFull, d) ∷ (TagsUsedUp, true) ∷ [])) (refused q TagsUsedUp)).answer
          ≡ first_of ((NoSuchFlow, a) ∷ (NotOpen, b) ∷ (BadLength, c) ∷ (PlacesFull, d) ∷ (TagsUsedUp, true) ∷ [])
      go true b c d = refl
      go false true c d = refl
      go false false true d = refl
      go false false false true = refl
      go false false false false = refl

  pub refused_first : RefusedFirst q
  unfolding open_of close_of put_of begin_by end_of
  refused_first =
      record {
        opening = λ flow weight. flows_first (first_of (opening_grounds flow weight (flow_at q flow))) (opened q flow weight) refl;
        closing = λ flow. flows_first (first_of (closing_grounds flow (flow_at q flow) (waiting_of q flow) (busy_with q.service flow))) (closed q flow) refl;
        putting = λ flow length quote. put_first flow length quote;
        beginning = λ rank. begin_first rank (chosen_by rank q) refl;
        ending = first (first_of (end_grounds q)) (ended q) refl;
      }
