-- Cells that arrive in slots, and what it is to keep declarations: flow i has declaration i.
use Rattle.std.specs.Prelude.{Bool, ◌&&◌, List, ℕ, ◌+◌, ◌-◌, ◌/◌, ◌≤◌, ◌<◌, leb, ltb, eqb, length, get_or}
use Rattle.places.specs.Places.{count}
use Rattle.places.specs.Members.{Each}
use Rattle.link.specs.Limits.{no_declaration}
use Rattle.link.specs.declared.Declaration.{Declaration}
use Rattle.promises_urgent.specs.Plans.{Window, window_from}

-- a cell of a flow that arrives in a slot
pub record Arrival : Type 0 where
  pub flow : ℕ
  pub slot : ℕ

-- the declaration of a flow
abbrev pub declared : List Declaration → ℕ → Declaration
declared ds flow = get_or ds flow no_declaration

-- a cell is of this flow, and arrives in one of the k slots from slot s on
abbrev pub arrives_in : ℕ → ℕ → ℕ → Arrival → Bool
arrives_in flow s k a = eqb a.flow flow && (leb s a.slot && ltb a.slot (s + k))

-- a flow's cells keep a declaration: in any k slots in a row, k from 1 on, no more than B + floor((k − 1)/P) of them arrive
abbrev pub KeepsDeclaration : Declaration → ℕ → List Arrival → Type 0
KeepsDeclaration d flow cells = (s k : ℕ) → 1 ≤ k → count (arrives_in flow s k) cells ≤ d.burst + (k - 1) / d.period

-- the cells of each declared flow keep its declaration
abbrev pub AllKeep : List Declaration → List Arrival → Type 0
AllKeep ds cells = (flow : ℕ) → flow < length ds → KeepsDeclaration (declared ds flow) flow cells

-- no other flow has cells
abbrev pub NoOthers : List Declaration → List Arrival → Type 0
NoOthers ds cells = Each (λ (a : Arrival). a.flow < length ds) cells

-- cells within the declarations
pub record WithinDeclarations (ds : List Declaration) (cells : List Arrival) : Type 0 where
  pub keep : AllKeep ds cells
  pub others : NoOthers ds cells

-- the window of a cell with its flow's declared deadline
abbrev pub window_in : List Declaration → Arrival → Window
window_in ds a = window_from a.slot (declared ds a.flow).deadline
