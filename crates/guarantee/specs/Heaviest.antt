-- The heaviest cells that declarations allow: each flow's burst in slot 0, and one cell more in each period after it.
use Rattle.std.specs.Prelude.{cond, List, [], ◌∷◌, ◌++◌, ℕ, zero, suc, ◌-◌, ◌*◌, ◌/◌, leb, replicate}
use Rattle.link.specs.declared.Declaration.{Declaration}
use Rattle.guarantee.specs.Arrivals.{Arrival}

-- a flow's burst in slot 0, and one cell in each of j periods after it, the newest first
unfoldable pub burst_and : ℕ → Declaration → ℕ → List Arrival
burst_and flow d zero = replicate d.burst (record { flow = flow; slot = 0 })
burst_and flow d (suc j) = record { flow = flow; slot = suc j * d.period } ∷ burst_and flow d j

-- of a flow's heaviest cells those that have to go in the first t slots
abbrev pub heaviest_of : ℕ → Declaration → ℕ → List Arrival
heaviest_of flow d t = cond (leb d.deadline t) (burst_and flow d ((t - d.deadline) / d.period)) []

-- the same for declarations of the flows from one on
unfoldable pub heaviest_from : ℕ → List Declaration → ℕ → List Arrival
heaviest_from flow [] t = []
heaviest_from flow (d ∷ ds) t = heaviest_of flow d t ++ heaviest_from (suc flow) ds t

-- the heaviest cells of a list that have to go in the first t slots
abbrev pub heaviest : List Declaration → ℕ → List Arrival
heaviest ds t = heaviest_from 0 ds t
