-- The definitions compute.
use mathlib.Core.Path.{refl}
use Rattle.units.specs.Refusals.{first_of}
use Rattle.link.specs.Demand.{demand_of, fails_from}
use Rattle.link.specs.Rate.{rate_of, greatest_of}
use Rattle.link.specs.Verdicts.{by_numbers}
use Rattle.cases.specs.EveryT.{EveryT}

pub every_t : EveryT
unfolding first_of by_numbers rate_of greatest_of fails_from demand_of
every_t =
    record {
      told = refl;
      client_rate = refl;
      client_early = refl;
      client_late = refl;
      late_rate = refl;
      late_greatest = refl;
      late_demand = refl;
      latest_rate = refl;
      latest_greatest = refl;
    }
