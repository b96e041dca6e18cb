-- Each case of what taking gives, from the tests that lead to it.
use mathlib.Core.Path.{◌≡◌, sym, ap, ◌∙◌}
use mathlib.Core.Bool.{Bool, true, false}
use Rattle.std.proofs.Common.{None, Some}
use mathlib.Core.List.{List, [], ◌∷◌}
use Prim.Native.Nat.{ℕ, ◌+◌, ◌*◌, ◌<◌}
use native.Mathlib.Omega.{arith}
use lib.ListN.{length, set, take, drop, drop_of_length-le}
use Rattle.units.specs.Limits.{place_count}
use Rattle.units.specs.Refusals.{first_of, unless}
use Rattle.units.specs.declared.Refusal.TheVariants.{PacketInService, NothingWaits}
use Rattle.places.specs.Places.{places_of}
use Rattle.places.specs.Choice.{Choice, nothing, at, chosen_of, least, least_held}
use Rattle.places.proofs.Scan.{chosen_at, chosen_none}
use Rattle.tags.specs.declared.Packet.{Packet}
use Rattle.tags.specs.Tags.{free_packet, is_held}
use Rattle.packets.specs.declared.Queue.{Queue}
use Rattle.packets.specs.Kept.{Kept}
use Rattle.packets.specs.Calls.{refused, begun}
use Rattle.taking.specs.Taking.{by_number, among_all, lowest_of, is_none, take_of}

module _ (q : Queue) (flow : ℕ) where
  -- the choice among the flow's places
  abbrev pub own : Choice Packet
  own = least_held is_held by_number (places_of place_count flow q.packets)

  -- which is the choice among all places
  pub lowest_at : (k : ℕ) (p : Packet) → Some (k, p) ≡ chosen_of own → lowest_of q flow ≡ at (flow * 16 + k) p
  lowest_at k p e = ap (among_all flow) (chosen_at own k p e)

  -- what taking gives, by its test and the choice
  by_choice : Bool → Choice Packet → Kept
  by_choice busy choice = unless (refused q) (first_of ((PacketInService, busy) ∷ (NothingWaits, is_none choice) ∷ [])) (begun q choice)

  pub take_8 : q.service.busy ≡ true → take_of q flow ≡ refused q PacketInService
  unfolding take_of first_of by_choice
  take_8 o = ap (λ (t : Bool). by_choice t (lowest_of q flow)) o

  module _ (o : q.service.busy ≡ false) where
    take_by : (x : Choice Packet) → own ≡ x → take_of q flow ≡ by_choice false (among_all flow x)
    unfolding take_of by_choice
    take_by x e = ap (λ (t : Bool). by_choice t (lowest_of q flow)) o ∙ ap (λ (y : Choice Packet). by_choice false (among_all flow y)) e

    pub take_9 : None ≡ chosen_of own → take_of q flow ≡ refused q NothingWaits
    unfolding by_choice first_of
    take_9 e = take_by nothing (chosen_none own e)

    -- a flow that has no places has no packet
    pub take_no_flow : places_of place_count flow q.packets ≡ [] → take_of q flow ≡ refused q NothingWaits
    unfolding least by_choice first_of
    take_no_flow e = take_by nothing (ap (least_held is_held by_number) e)

    pub take_ok : (k : ℕ) (p : Packet) → Some (k, p) ≡ chosen_of own → take_of q flow ≡ begun q (at (flow * 16 + k) p)
    unfolding by_choice first_of
    take_ok k p e = take_by (at k p) (chosen_at own k p e)
