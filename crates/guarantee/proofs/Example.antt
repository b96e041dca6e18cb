-- The examples, computed. The cells keep their declarations, as each flow's are a burst and one cell in each period after it, all a slot later.
use Rattle.std.specs.Prelude.{Ok}
use mathlib.Core.Path.{◌≡◌, refl}
use mathlib.Core.Bool.{true, ◌&&◌}
use mathlib.Core.List.{List, [], ◌∷◌, map}
use Prim.Native.Nat.{ℕ, zero, suc, ◌+◌, ◌-◌}
use native.Mathlib.Nat.{le_trans}
use native.Mathlib.Omega.{arith}
use borrow.Author.Tests.{leb-true, ltb-true, le-leb, lt-ltb}
use lib.Dec.{leb, ltb, eqb}
use lib.ListN.{replicate}
use Rattle.units.specs.Refusals.{first_of}
use Rattle.places.proofs.Count.{bit_le, count_le, count_map}
use Rattle.places.proofs.Tests.{and_told}
use Rattle.places.specs.Places.{count, first_free}
use Rattle.places.specs.Choice.{comes_before, better, least}
use Rattle.places.specs.Members.{Each}
use Rattle.places.specs.Marks.{opens, in_force}
use Rattle.link.specs.declared.Declaration.{Declaration}
use Rattle.link.specs.Demand.{demand_of, fails_from}
use Rattle.link.specs.Rate.{rate_of, greatest_of}
use Rattle.link.specs.Verdicts.{by_numbers, admit_of}
use Rattle.urgent.specs.Calls.{open_of, close_of, offer_of, turn_of}
use Rattle.tags.specs.Tags.{finish_of}
use Rattle.packets.specs.Quotes.{quote_of}
use Rattle.packets.specs.Calls.{open_of as open_in, put_of}
use Rattle.fair.specs.Calls.{open_of as open_fair_of, offer_of as offer_packet_of}
use Rattle.station.specs.Calls.{call_of}
use Rattle.promises.specs.Run.{run, run_from}
use Rattle.promises.proofs.Promises.{promises}
use Rattle.guarantee.specs.Arrivals.{Arrival, arrives_in, KeepsDeclaration, AllKeep, NoOthers}
use Rattle.guarantee.specs.Heaviest.{burst_and, heaviest_from}
use Rattle.guarantee.specs.Conditions.{AsDeclared, FullDeadlines, with_one}
use Rattle.guarantee.specs.Example.{declaration, cell, two_flows, calls, offered, Met, Sixteenth, TooMuch}
use Rattle.guarantee.proofs.Computed.{brought, marks, history, answers}
use Rattle.guarantee.proofs.Heaviest.{burst_keeps}
use Rattle.guarantee.proofs.Turns.{is_lost, none_lost}

full : FullDeadlines calls
unfolding run_from call_of open_of close_of offer_of turn_of open_fair_of open_in offer_packet_of put_of quote_of finish_of first_of count first_free comes_before better least in_force
full = (refl, (refl, (refl, (refl, (refl, (refl, tt))))))

admitted : admit_of two_flows ≡ Ok tt
unfolding by_numbers first_of rate_of greatest_of fails_from demand_of
admitted = refl

-- a cell that comes a slot later
abbrev later : Arrival → Arrival
later a = record { flow = a.flow; slot = suc a.slot }

-- cells that all come a slot later keep the declaration as before
moved : (d : Declaration) (flow : ℕ) (cells : List Arrival) → KeepsDeclaration d flow cells → KeepsDeclaration d flow (map later cells)
moved d flow cells keeps s k l =
    rw (count_map later (arrives_in flow s k) cells)
    (le_trans (count_le (λ (a : Arrival). arrives_in flow s k (later a)) (arrives_in flow (s - 1) k)
    (λ a. bit_le (arrives_in flow s k (later a)) (arrives_in flow (s - 1) k a) (same a)) cells) (keeps (s - 1) k l))
  where
    same : (a : Arrival) → arrives_in flow s k (later a) ≡ true → arrives_in flow (s - 1) k a ≡ true
    same a e =
        let t = and_told (eqb a.flow flow) (leb s (suc a.slot) && ltb (suc a.slot) (s + k)) e in
        let w = and_told (leb s (suc a.slot)) (ltb (suc a.slot) (s + k)) t.1 in
        rw (t.0, le-leb (s - 1) a.slot (omega (arith, leb-true s (suc a.slot) w.0)))
        (lt-ltb a.slot (s - 1 + k) (omega (arith, l, ltb-true (suc a.slot) (s + k) w.1)))

keep : AllKeep two_flows brought
unfolding count burst_and
keep zero l s k m = omega (arith, moved (declaration 2 4 3) 0 (burst_and 0 (declaration 2 4 3) 1) (burst_keeps 0 (declaration 2 4 3) (((promises.A1.admitted two_flows).0 admitted).0.within 0 l) 1) s k m)
keep (suc zero) l s k m = omega (arith, moved (declaration 1 2 2) 1 (burst_and 1 (declaration 1 2 2) 2) (burst_keeps 1 (declaration 1 2 2) (((promises.A1.admitted two_flows).0 admitted).0.within 1 l) 2) s k m)
keep (suc (suc n)) l s k m = absurd (omega arith)

opened : Each (AsDeclared two_flows) marks
opened = ((λ l. refl), (tt, ((λ l. absurd (omega arith)), ((λ l. refl), ((λ l. refl), tt)))))

others : NoOthers two_flows brought
others = (omega arith, (omega arith, (omega arith, (omega arith, (omega arith, (omega arith, tt))))))

all_open : count is_lost calls ≡ 0
unfolding count
all_open = refl

pub met : Met
met =
    record {
      conditions =
          record {
            admitted = admitted;
            opened = rw history.2 opened;
            full = full;
            others = rw history.0 others;
            keep = rw history.0 keep;
            turns = none_lost calls all_open;
          };
      cells = history.0;
      sent = history.1;
    }

held : ((run (offered 15)).cells.marks ≡ opens 0 16 ∷ []) × (with_one (offered 15) 0 ≡ replicate 16 (cell 0 0))
unfolding run_from call_of open_of offer_of first_of count first_free in_force
held = (refl, refl)

pub sixteenth : Sixteenth
unfolding burst_and
sixteenth =
    record {
      room = omega arith;
      opened = rw held.0 ((λ l. refl), tt);
      keeps = rw held.1 (burst_keeps 0 (declaration 16 5040 16) ((omega arith, omega arith), (1, refl), (omega arith, omega arith)) 0);
      taken = answers.0;
      no_more = answers.1;
    }

pub too_much : TooMuch
unfolding heaviest_from burst_and by_numbers first_of rate_of greatest_of fails_from demand_of
too_much = record { fails = refl; cells = refl; windows = refl; rate = refl; by = refl }
