-- Each condition left out, computed: the others are met, and one cell is missed. The cells are bursts, which keep their declarations.
use Rattle.std.specs.Prelude.{Ok}
use mathlib.Core.Path.{◌≡◌, refl}
use mathlib.Core.List.{[], ◌∷◌}
use Prim.Native.Nat.{zero, suc}
use native.Mathlib.Omega.{arith}
use Rattle.units.specs.Refusals.{first_of}
use Rattle.places.specs.Places.{count, first_free}
use Rattle.places.specs.Choice.{comes_before, better, least}
use Rattle.places.specs.Marks.{opens, in_force}
use Rattle.link.specs.Demand.{demand_of, fails_from}
use Rattle.link.specs.Rate.{rate_of, greatest_of}
use Rattle.link.specs.Verdicts.{by_numbers, admit_of}
use Rattle.link.specs.Published.{Within}
use Rattle.urgent.specs.Calls.{open_of, offer_of, turn_of}
use Rattle.station.specs.Calls.{call_of}
use Rattle.promises.specs.Run.{run, run_from}
use Rattle.guarantee.specs.Arrivals.{AllKeep}
use Rattle.guarantee.specs.Heaviest.{burst_and}
use Rattle.guarantee.specs.Conditions.{arrivals, FullDeadlines}
use Rattle.guarantee.specs.Example.{declaration, cell, case_k}
use Rattle.guarantee.specs.Needed.{OneMissed, at_once, pair, two_at_once, pair_at_once, pair_cut_short, lost_at_once, Needed}
use Rattle.guarantee.proofs.Heaviest.{burst_keeps}
use Rattle.guarantee.proofs.Turns.{is_lost, none_lost}

-- the four lists of calls, computed: what is marked and accepted, and the one missed cell
two : ((run two_at_once).cells.marks ≡ opens 1 1 ∷ opens 0 1 ∷ []) × (arrivals two_at_once ≡ cell 1 0 ∷ cell 0 0 ∷ []) × OneMissed two_at_once
unfolding run_from call_of open_of offer_of turn_of first_of count first_free comes_before better least in_force
two = (refl, refl, refl)

both : ((run pair_at_once).cells.marks ≡ opens 0 1 ∷ []) × (arrivals pair_at_once ≡ cell 0 0 ∷ cell 0 0 ∷ []) × OneMissed pair_at_once
unfolding run_from call_of open_of offer_of turn_of first_of count first_free comes_before better least in_force
both = (refl, refl, refl)

short : ((run pair_cut_short).cells.marks ≡ opens 0 2 ∷ []) × (arrivals pair_cut_short ≡ cell 0 0 ∷ cell 0 0 ∷ []) × OneMissed pair_cut_short
unfolding run_from call_of open_of offer_of turn_of first_of count first_free comes_before better least in_force
short = (refl, refl, refl)

lost : ((run lost_at_once).cells.marks ≡ opens 0 1 ∷ []) × (arrivals lost_at_once ≡ cell 0 0 ∷ []) × OneMissed lost_at_once
unfolding run_from call_of open_of offer_of turn_of first_of count first_free comes_before better least in_force
lost = (refl, refl, refl)

-- in three of them the cells have their flows' full deadlines
full : FullDeadlines two_at_once × FullDeadlines pair_at_once × FullDeadlines lost_at_once
unfolding run_from call_of open_of offer_of turn_of first_of count first_free comes_before better least in_force
full = ((refl, (refl, tt)), (refl, (refl, tt)), (refl, tt))

all_open : (count is_lost two_at_once ≡ 0) × (count is_lost pair_at_once ≡ 0) × (count is_lost pair_cut_short ≡ 0)
unfolding count
all_open = (refl, refl, refl)

once_admitted : admit_of at_once ≡ Ok tt
unfolding by_numbers first_of rate_of greatest_of fails_from demand_of
once_admitted = refl

pair_admitted : admit_of pair ≡ Ok tt
unfolding by_numbers first_of rate_of greatest_of fails_from demand_of
pair_admitted = refl

-- the numbers of the declarations are good
once_good : Within (declaration 1 2 1)
once_good = ((omega arith, omega arith), (2520, refl), (omega arith, omega arith))

pair_good : Within (declaration 2 2 2)
pair_good = ((omega arith, omega arith), (2520, refl), (omega arith, omega arith))

-- a burst of each declared flow keeps its declaration, whatever cells other flows have
keep_k : AllKeep case_k (cell 1 0 ∷ cell 0 0 ∷ [])
unfolding count burst_and
keep_k zero l s k m = omega (arith, burst_keeps 0 (declaration 1 2 1) once_good 0 s k m)
keep_k (suc zero) l s k m = omega (arith, burst_keeps 1 (declaration 1 2 1) once_good 0 s k m)
keep_k (suc (suc n)) l s k m = absurd (omega arith)

keep_pair : AllKeep pair (cell 0 0 ∷ cell 0 0 ∷ [])
unfolding count burst_and
keep_pair zero l s k m = omega (arith, burst_keeps 0 (declaration 2 2 2) pair_good 0 s k m)
keep_pair (suc n) l s k m = absurd (omega arith)

keep_first : AllKeep at_once (cell 1 0 ∷ cell 0 0 ∷ [])
unfolding count burst_and
keep_first zero l s k m = omega (arith, burst_keeps 0 (declaration 1 2 1) once_good 0 s k m)
keep_first (suc n) l s k m = absurd (omega arith)

keep_one : AllKeep at_once (cell 0 0 ∷ [])
unfolding count burst_and
keep_one zero l s k m = omega (arith, burst_keeps 0 (declaration 1 2 1) once_good 0 s k m)
keep_one (suc n) l s k m = absurd (omega arith)

pub needed : Needed
needed =
    record {
      admitted = (
        rw two.0 ((λ l. refl), ((λ l. refl), tt)),
        full.0,
        rw two.1 (omega arith, (omega arith, tt)),
        rw two.1 keep_k,
        none_lost two_at_once all_open.0,
        two.2,
      );
      opened = (pair_admitted, full.1, rw both.1 (omega arith, (omega arith, tt)), rw both.1 keep_pair, none_lost pair_at_once all_open.1, both.2);
      full = (
        pair_admitted,
        rw short.0 ((λ l. refl), tt),
        rw short.1 (omega arith, (omega arith, tt)),
        rw short.1 keep_pair,
        none_lost pair_cut_short all_open.2,
        short.2,
      );
      others = (once_admitted, rw two.0 ((λ l. absurd (omega arith)), ((λ l. refl), tt)), full.0, rw two.1 keep_first, none_lost two_at_once all_open.0, two.2);
      keep = (once_admitted, rw both.0 ((λ l. refl), tt), full.1, rw both.1 (omega arith, (omega arith, tt)), none_lost pair_at_once all_open.1, both.2);
      turns = (once_admitted, rw lost.0 ((λ l. refl), tt), full.2, rw lost.1 (omega arith, tt), rw lost.1 keep_one, lost.2);
    }
