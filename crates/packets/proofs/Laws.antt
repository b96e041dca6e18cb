-- What a begin answers is what the least held place holds, and that place leads.
use mathlib.Core.Path.{◌≡◌, refl}
use mathlib.Core.Bool.{Bool, true, false, cond}
use Rattle.std.proofs.Common.{None, Some}
use Prim.Native.Nat.{ℕ}
use native.Mathlib.Omega.{arith}
use lib.Dec.{eqb}
use Rattle.units.specs.Refusals.{first_of, unless}
use Rattle.units.specs.declared.Refusal.TheVariants.{PacketInService, NothingWaits}
use Rattle.places.specs.Choice.{Choice, nothing, at, Leads}
use Rattle.places.proofs.Least.{leads}
use Rattle.tags.specs.declared.Packet.{Packet}
use Rattle.tags.specs.Tags.{free_packet, is_held}
use Rattle.packets.specs.Kept.{Kept}
use Rattle.packets.specs.declared.Answer.TheVariants.{Begun}
use Rattle.packets.specs.Queue.{key_by, waiting, chosen_by}
use Rattle.packets.specs.Calls.{refused, begun, begin_by}
use Rattle.packets.specs.Laws.{BegunFirst, BeginsFirst}

pub begins_first : BeginsFirst
unfolding begin_by first_of
begins_first rank q flow number bytes start = go q.service.busy refl (eqb (waiting q) 0) refl (chosen_by rank q) refl
  where
    -- the begin, where it is refused or not and has chosen
    by_choice : Bool → Bool → Choice Packet → Kept
    by_choice busy none_waits x = unless (refused q) (cond busy (Some PacketInService) (cond none_waits (Some NothingWaits) None)) (begun q x)

    go : (busy : Bool) → q.service.busy ≡ busy → (none_waits : Bool) → eqb (waiting q) 0 ≡ none_waits → (x : Choice Packet) → chosen_by rank q ≡ x
        → (by_choice busy none_waits x).answer ≡ Begun flow number bytes start → BegunFirst rank q flow number bytes start
    go true b w n x c e = absurd (let z : ◌≡◌ {A = ℕ} 0 1 = cc in omega arith)
    go false b true n x c e = absurd (let z : ◌≡◌ {A = ℕ} 0 1 = cc in omega arith)
    go false b false n nothing c e = absurd (let z : ◌≡◌ {A = ℕ} 0 1 = cc in omega arith)
    go false b false n (at place p) c e =
        let l : Leads is_held (key_by rank) free_packet q.packets (at place p) = rw c at (leads is_held (key_by rank) free_packet refl q.packets) in
        record {
          place = place;
          within = l.0;
          waited = rw l.1 l.2;
          flow_told = cc;
          number_told = rw l.1 (cc);
          length_told = rw l.1 (cc);
          start_told = rw l.1 (cc);
          goes_first = rw l.1 l.3;
          whole = rw (b, n, c, l.1);
        }
