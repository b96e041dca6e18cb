-- Under which conditions no cell is missed, a field a clause of the guarantee, and what it is that none is.
use Rattle.std.specs.Prelude.{◌≡◌, ◌≢◌, false, List, ◌∷◌, map, ℕ, ◌+◌, ◌-◌, ◌/◌, ◌≤◌, ◌<◌, length, Ok}
use Rattle.places.specs.Members.{Each}
use Rattle.places.specs.Marks.{Mark, opens, closes}
use Rattle.link.specs.Verdicts.{admit_of}
use Rattle.link.specs.declared.Declaration.{Declaration}
use Rattle.station.specs.declared.Call.{Call}
use Rattle.station.specs.declared.Call.TheVariants.{LostTurn}
use Rattle.promises_urgent.specs.Cells.{Cell, Cells, is_missed}
use Rattle.promises.specs.Run.{run}
use Rattle.guarantee.specs.Arrivals.{Arrival, declared, AllKeep, NoOthers}

-- an accepted cell, as one that arrives in the slot of its acceptance
abbrev pub arrival_of : Cell → Arrival
arrival_of a = record { flow = a.flow; slot = a.arrival }

-- the accepted cells of a list of calls
abbrev pub arrivals : List Call → List Arrival
arrivals calls = map arrival_of (run calls).cells.accepted

-- an opening of a declared flow has its declaration's deadline
abbrev pub AsDeclared : List Declaration → Mark → Type 0
AsDeclared ds (opens flow deadline) = flow < length ds → deadline ≡ (declared ds flow).deadline
AsDeclared ds (closes flow) = Unit {0}

-- every opening that was answered ok is as declared: a flow may be opened once, never, or again after a closing
abbrev pub OpenedAsDeclared : List Declaration → List Call → Type 0
OpenedAsDeclared ds calls = Each (AsDeclared ds) (run calls).cells.marks

-- every accepted cell has its flow's full deadline, and none a shorter one of its own
abbrev pub FullDeadlines : List Call → Type 0
FullDeadlines calls = Each (λ (a : Cell). a.deadline ≡ a.full) (run calls).cells.accepted

-- every turn is open
abbrev pub NoneLost : List Call → Type 0
NoneLost calls = Each (λ (call : Call). call ≢ LostTurn) calls

pub record Conditions (ds : List Declaration) (calls : List Call) : Type 0 where
  -- the list is admitted
  pub admitted : admit_of ds ≡ Ok tt
  -- declaration i is that of flow i: each flow is opened with its deadline
  pub opened : OpenedAsDeclared ds calls
  -- each accepted cell has its flow's full deadline
  pub full : FullDeadlines calls
  -- no other flow has accepted cells
  pub others : NoOthers ds (arrivals calls)
  -- the accepted cells of each flow keep its declaration
  pub keep : AllKeep ds (arrivals calls)
  -- every turn is open
  pub turns : NoneLost calls

-- no accepted cell is missed, and the missed counts that turns answered add up to 0
pub record NoneMissed (h : Cells) : Type 0 where
  pub cells : Each (λ (a : Cell). is_missed h a ≡ false) h.accepted
  pub counts : h.missed ≡ 0

-- an opening of this flow has this deadline
abbrev pub OpenedWith : ℕ → ℕ → Mark → Type 0
OpenedWith flow deadline (opens f number) = f ≡ flow → number ≡ deadline
OpenedWith flow deadline (closes f) = Unit {0}

-- one cell more of a flow, offered now
abbrev pub with_one : List Call → ℕ → List Arrival
with_one calls flow = record { flow = flow; slot = (run calls).cells.slot } ∷ arrivals calls

-- a flow that keeps a declaration has places for all its cells that can wait at once: they arrive within a deadline
abbrev pub HaveRoom : Declaration → Type 0
HaveRoom d = d.burst + (d.deadline - 1) / d.period ≤ 16
