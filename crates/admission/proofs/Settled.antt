-- What is known of a list once nothing is held against it before its demand: it is not too long and within its limits, so that its demand can be
-- summed and its greatest deadline is at most 4,096.
use Rattle.std.proofs.Common.{◌≡◌, ℕ, ◌*◌, ◌^◌, ◌≤◌, ◌<◌, List, Ok, length, get_or, ap, ltb-false, arith}
use Rattle.std.specs.List.{All, sum_by}
use Rattle.std.proofs.lemmas.List.{get_or_default}
use Rattle.std.proofs.lemmas.List.Sums.{sum_by-le}
use Rattle.link.specs.declared.Declaration.{Declaration}
use Rattle.link.specs.Limits.{no_declaration, too_long}
use Rattle.link.specs.Demand.{demand_one}
use Rattle.link.specs.Rate.{greatest_of}
use Rattle.link.specs.Verdicts.{admits, grounds_of}
use Rattle.link.proofs.Numbers.{Good, good_all}
use Rattle.link.proofs.Judged.{grounds_admit}
use Rattle.link.proofs.Greatest.{greatest_4096}
use Rattle.admission.proofs.Steps.{demand_most}

module _ (ds : List Declaration) (nothing : grounds_of (too_long ds) ds ≡ Ok tt) where
  good : Good ds
  good = good_all ds (grounds_admit (too_long ds) ds (ap admits nothing)).1

  pub few : length ds ≤ 16
  few = ltb-false 16 (length ds) (grounds_admit (too_long ds) ds (ap admits nothing)).0

  pub short : All (λ (d : Declaration). d.burst ≤ 16) ds
  short k d l = rw (get_or_default ds k d no_declaration l) ((good k l).0.1)

  pub soon : greatest_of ds ≤ 4096
  soon = greatest_4096 ds good

-- the demand of such a list is small
pub demand_fits : (t : ℕ) (ds : List Declaration) → length ds ≤ 16 → All (λ (d : Declaration). d.burst ≤ 16) ds → t ≤ 9135
    → sum_by (λ d. demand_one d t) ds < 2 ^ 64
demand_fits t ds few short tested =
    let each : All (λ d. demand_one d t ≤ 9151) ds = λ k d l. omega (arith, demand_most (get_or ds k d) t (short k d l)) in
    let most = sum_by-le (λ (d : Declaration). demand_one d t) 9151 ds each in
    let all : length ds * 9151 ≤ 16 * 9151 = omega (arith, few) in
    omega (arith, most, all)
