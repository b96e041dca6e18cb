-- Plans drawn up in hindsight, over plain lists: windows in which cells may be sent, and slots that were open.
use Rattle.std.specs.Prelude.{◌≡◌, ◌⊎◌, ◌&&◌, List, [], ◌∷◌, map, ℕ, ◌+◌, ◌-◌, ◌≤◌, ◌<◌, leb, length, get_or}
use Rattle.places.specs.Members.{Each}
use Rattle.places.specs.Places.{count}

-- a number is a member of a list
abbrev pub Member : ℕ → List ℕ → Type 0
Member n [] = ⊥
Member n (x ∷ xs) = (n ≡ x) ⊎ Member n xs

-- no number stands twice in a list
abbrev pub Apart : List ℕ → Type 0
Apart [] = Unit {0}
Apart (x ∷ xs) = (Member x xs → ⊥) × Apart xs

-- the slots in which a cell may be sent: from the first to the last
pub record Window : Type 0 where
  pub first : ℕ
  pub last : ℕ

abbrev pub no_window : Window
no_window = record { first = 0; last = 0 }

-- the window of a cell: as many slots as its deadline says, from the slot of its arrival on
abbrev pub window_from : ℕ → ℕ → Window
window_from arrival deadline = record { first = arrival; last = arrival + deadline - 1 }

-- what a plan does: the cell, by its index in the list of windows, is sent in the slot
pub record Sending : Type 0 where
  pub cell : ℕ
  pub slot : ℕ

-- the cell is one of the list, and the slot is open and inside the cell's window
abbrev pub Allowed : List Window → List ℕ → Sending → Type 0
Allowed windows slots s =
    (s.cell < length windows)
    × Member s.slot slots
    × ((get_or windows s.cell no_window).first ≤ s.slot)
    × (s.slot ≤ (get_or windows s.cell no_window).last)

-- A plan sends no cell twice, uses no slot twice, and each of its sendings is allowed.
pub record Plan (windows : List Window) (slots : List ℕ) (plan : List Sending) : Type 0 where
  pub allowed : Each (Allowed windows slots) plan
  pub cells_apart : Apart (map (λ (s : Sending). s.cell) plan)
  pub slots_apart : Apart (map (λ (s : Sending). s.slot) plan)

-- how many windows open in slot a or later and close in slot b or before
abbrev pub due : List Window → ℕ → ℕ → ℕ
due windows a b = count (λ (w : Window). leb a w.first && leb w.last b) windows

-- how many of the slots lie from a to b
abbrev pub slots_in : List ℕ → ℕ → ℕ → ℕ
slots_in slots a b = count (λ (t : ℕ). leb a t && leb t b) slots

-- A cell with this window had a reason to be missed: from some slot on, not after its arrival, more cells arrived that had to go by its
-- last slot than slots were open until then.
abbrev pub Overloaded : List Window → List ℕ → Window → Type 0
Overloaded windows slots w = (a : ℕ) × (a ≤ w.first) × (slots_in slots a w.last < due windows a w.last)
