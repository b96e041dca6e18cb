-- What holds of a fresh station and is kept by each call holds after every list of calls; and the lanes apart over whole lists.
use mathlib.Core.Path.{◌≡◌, refl, ap₂, ◌∙◌}
use mathlib.Core.Bool.{Bool, true, false, cond}
use mathlib.Core.List.{List, [], ◌∷◌, ◌++◌}
use Prim.Native.Nat.{◌≤◌}
use native.Mathlib.Nat.{le_refl, le_trans}
use borrow.Author.Tests.{not-true, not-false}
use Rattle.station.specs.declared.Station.{Station}
use Rattle.station.specs.declared.Reply.{Reply}
use Rattle.station.specs.declared.Call.{Call}
use Rattle.station.specs.declared.Call.TheVariants.{OpenUrgent, OpenFair, CloseUrgent, CloseFair, OfferCell, OfferPacket, OpenTurn, LostTurn, Begin, End}
use Rattle.station.specs.Calls.{fresh_station, call_of}
use Rattle.station.specs.Laws.{is_urgent}
use Rattle.station.proofs.Laws.{lanes_apart}
use Rattle.units.specs.Refusals.{first_of}
use Rattle.station.specs.Answers.{refusal_in}
use Rattle.promises_urgent.proofs.Account.{refused_as_noted as urgent-noted}
use Rattle.promises_fair.proofs.Account.{refused_as_noted as fair-noted, opening_keeps, closing_keeps, offer_keeps, never_falls}
use Rattle.promises_fair.specs.Times.{virtual_time}
use Rattle.fair.specs.Calls.{open_of as open_fair_of, close_of as close_fair_of, offer_of as offer_packet_of}
use Rattle.promises_fair.proofs.Good.{Good as FairGood, good_fresh as fair-fresh, good_open as fair_open, good_close as fair-close, good_offer as fair-offer, good_begin, good_end, good_other}
use Rattle.promises_urgent.proofs.Good.{Good, good_fresh, good_open, good_close, good_offer, good_turn}
use Rattle.promises.specs.Promises.{is_fair, grounds_noted}
use Rattle.promises.specs.Run.{Run, after, fresh, run, run_from, replies, replies_to, only}

pub run_on : (r : Run) (xs ys : List Call) → run_from r (xs ++ ys) ≡ run_from (run_from r xs) ys
unfolding run_from
run_on r [] ys = refl
run_on r (call ∷ xs) ys = run_on (after r call) xs ys

-- ---- the urgent lane
abbrev GoodRun : Run → Type 0
GoodRun r = Good r.station.urgent r.cells

good_after : (r : Run) (call : Call) → GoodRun r → GoodRun (after r call)
unfolding call_of
good_after r (OpenUrgent flow deadline) g = good_open r.station.urgent r.cells g flow deadline
good_after r (OpenFair flow weight) g = g
good_after r (CloseUrgent flow) g = good_close r.station.urgent r.cells g flow
good_after r (CloseFair flow) g = g
good_after r (OfferCell flow deadline) g = good_offer r.station.urgent r.cells g flow deadline
good_after r (OfferPacket flow length) g = g
good_after r OpenTurn g = good_turn r.station.urgent r.cells g true
good_after r LostTurn g = good_turn r.station.urgent r.cells g false
good_after r Begin g = g
good_after r End g = g

good_from : (r : Run) (calls : List Call) → GoodRun r → GoodRun (run_from r calls)
unfolding run_from
good_from r [] g = g
good_from r (call ∷ calls) g = good_from (after r call) calls (good_after r call g)

pub good_run : (calls : List Call) → Good (run calls).station.urgent (run calls).cells
good_run calls = good_from fresh calls good_fresh

-- ---- the fair lane
abbrev FairRun : Run → Type 0
FairRun r = FairGood r.station.fair r.packets

fair_after : (r : Run) (call : Call) → FairRun r → FairRun (after r call)
unfolding call_of
fair_after r (OpenUrgent flow deadline) g = good_other r.station.fair r.packets g
fair_after r (OpenFair flow weight) g = fair_open r.station.fair r.packets g flow weight
fair_after r (CloseUrgent flow) g = good_other r.station.fair r.packets g
fair_after r (CloseFair flow) g = fair-close r.station.fair r.packets g flow
fair_after r (OfferCell flow deadline) g = good_other r.station.fair r.packets g
fair_after r (OfferPacket flow length) g = fair-offer r.station.fair r.packets g flow length
fair_after r OpenTurn g = good_other r.station.fair r.packets g
fair_after r LostTurn g = good_other r.station.fair r.packets g
fair_after r Begin g = good_begin r.station.fair r.packets g
fair_after r End g = good_end r.station.fair r.packets g

fair_from : (r : Run) (calls : List Call) → FairRun r → FairRun (run_from r calls)
unfolding run_from
fair_from r [] g = g
fair_from r (call ∷ calls) g = fair_from (after r call) calls (fair_after r call g)

pub fair_run : (calls : List Call) → FairGood (run calls).station.fair (run calls).packets
fair_run calls = fair_from fresh calls fair-fresh

-- virtual time never falls
time_after : (r : Run) (call : Call) → FairRun r → virtual_time r.packets.moments ≤ virtual_time (after r call).packets.moments
unfolding call_of
time_after r (OpenUrgent flow deadline) g = le_refl (virtual_time r.packets.moments)
time_after r (OpenFair flow weight) g = opening_keeps r.packets flow weight (open_fair_of r.station.fair flow weight).answer
time_after r (CloseUrgent flow) g = le_refl (virtual_time r.packets.moments)
time_after r (CloseFair flow) g = closing_keeps r.packets flow (close_fair_of r.station.fair flow).answer
time_after r (OfferCell flow deadline) g = le_refl (virtual_time r.packets.moments)
time_after r (OfferPacket flow length) g = offer_keeps r.packets flow length (offer_packet_of r.station.fair flow length).answer
time_after r OpenTurn g = le_refl (virtual_time r.packets.moments)
time_after r LostTurn g = le_refl (virtual_time r.packets.moments)
time_after r Begin g = (never_falls r.station.fair r.packets g).begins
time_after r End g = (never_falls r.station.fair r.packets g).ends

time_from : (r : Run) (calls : List Call) → FairRun r → virtual_time r.packets.moments ≤ virtual_time (run_from r calls).packets.moments
unfolding run_from
time_from r [] g = le_refl (virtual_time r.packets.moments)
time_from r (call ∷ calls) g = le_trans (time_after r call g) (time_from (after r call) calls (fair_after r call g))

pub time_run : (xs ys : List Call) → virtual_time (run xs).packets.moments ≤ virtual_time (run (xs ++ ys)).packets.moments
time_run xs ys = rw (run_on fresh xs ys) (time_from (run xs) ys (fair_run xs))

-- ---- what a call is refused for
refused_from : (r : Run) → GoodRun r → FairRun r → (call : Call) → refusal_in (call_of r.station call).reply ≡ first_of (grounds_noted r call)
unfolding call_of
refused_from r g f (OpenUrgent flow deadline) = (urgent-noted r.station.urgent r.cells g.kept).opening flow deadline
refused_from r g f (OpenFair flow weight) = (fair-noted r.station.fair r.packets f).opening flow weight
refused_from r g f (CloseUrgent flow) = (urgent-noted r.station.urgent r.cells g.kept).closing flow
refused_from r g f (CloseFair flow) = (fair-noted r.station.fair r.packets f).closing flow
refused_from r g f (OfferCell flow deadline) = (urgent-noted r.station.urgent r.cells g.kept).offering flow deadline
refused_from r g f (OfferPacket flow length) = (fair-noted r.station.fair r.packets f).offering flow length
refused_from r g f OpenTurn = (urgent-noted r.station.urgent r.cells g.kept).turning true
refused_from r g f LostTurn = (urgent-noted r.station.urgent r.cells g.kept).turning false
refused_from r g f Begin = (fair-noted r.station.fair r.packets f).beginning
refused_from r g f End = (fair-noted r.station.fair r.packets f).ending

pub refused_as_noted : (calls : List Call) (call : Call) → refusal_in (call_of (run calls).station call).reply ≡ first_of (grounds_noted (run calls) call)
refused_as_noted calls call = refused_from (run calls) (good_run calls) (fair_run calls) call

-- ---- the lanes apart: of two stations with one lane alike, one gets all calls and the other only those of that lane
module _ (test : Call → Bool) (Alike : Station → Station → Type 0)
    (other : (s t : Station) (call : Call) → test call ≡ false → Alike s t → Alike (call_of s call).station t)
    (own : (s t : Station) (call : Call) → test call ≡ true → Alike s t → ((call_of s call).reply ≡ (call_of t call).reply) × Alike (call_of s call).station (call_of t call).station)
  where
    only_own : (s t : Station) (calls : List Call) → Alike s t → replies_to test s calls ≡ replies t (only test calls)
    unfolding replies_to replies only
    only_own s t [] e = refl
    only_own s t (call ∷ calls) e = go (test call) refl (λ t'. only_own (call_of s call).station t' calls)
      where
        go : (b : Bool) → test call ≡ b
            → ((t' : Station) → Alike (call_of s call).station t' → replies_to test (call_of s call).station calls ≡ replies t' (only test calls))
            → cond b ((call_of s call).reply ∷ replies_to test (call_of s call).station calls) (replies_to test (call_of s call).station calls)
            ≡ replies t (cond b (call ∷ only test calls) (only test calls))
        go true p r =
            let o = own s t call p e in
            ap₂ (λ (x : Reply) (xs : List Reply). x ∷ xs) o.0 (r (call_of t call).station o.1)
        go false p r = r t (other s t call p e)

pub urgent_only : (calls : List Call) → replies_to is_urgent fresh_station calls ≡ replies fresh_station (only is_urgent calls)
urgent_only calls =
    only_own is_urgent (λ s t. s.urgent ≡ t.urgent) (λ s t call p e. lanes_apart.fair_call s call p ∙ e) lanes_apart.urgent_alone fresh_station fresh_station calls refl

pub fair_only : (calls : List Call) → replies_to is_fair fresh_station calls ≡ replies fresh_station (only is_fair calls)
fair_only calls =
    only_own is_fair (λ s t. s.fair ≡ t.fair) (λ s t call p e. lanes_apart.urgent_call s call (not-false (is_urgent call) p) ∙ e)
    (λ s t call p. lanes_apart.fair_alone s t call (not-true (is_urgent call) p)) fresh_station fresh_station calls refl
