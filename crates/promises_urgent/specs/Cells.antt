-- What has become of the urgent lane's cells, read off the calls and their answers alone. Each list has the newest first.
use Rattle.std.specs.Prelude.{Bool, false, not, ◌&&◌, ◌||◌, List, [], ◌∷◌, map, ℕ, leb, ltb, eqb}
use Rattle.places.specs.Marks.{Mark, in_force}
use Rattle.places.specs.Numbers.{is_this}
use Rattle.promises_urgent.specs.Plans.{Window, window_from}

-- an accepted cell: its flow, its number and last slot as answered, the slot number at its acceptance, its own deadline as offered, and the
-- deadline of its flow then in force, which is the most that it could have had
pub record Cell : Type 0 where
  pub flow : ℕ
  pub number : ℕ
  pub last : ℕ
  pub arrival : ℕ
  pub deadline : ℕ
  pub full : ℕ

abbrev pub no_cell : Cell
no_cell = record { flow = 0; number = 0; last = 0; arrival = 0; deadline = 0; full = 0 }

-- a cell is known by its flow and its number
abbrev pub its_flow : Cell → ℕ
its_flow a = a.flow

abbrev pub its_number : Cell → ℕ
its_number a = a.number

-- the cell of this flow and number
abbrev pub is_cell : ℕ → ℕ → Cell → Bool
is_cell flow number a = is_this its_flow its_number flow number a

-- a cell that a turn answered as sent, and the slot of that turn
pub record Gone : Type 0 where
  pub flow : ℕ
  pub number : ℕ
  pub slot : ℕ

pub record Cells : Type 0 where
  -- how many turns were answered and not refused
  pub slot : ℕ
  -- the openings and closings that were answered ok
  pub marks : List Mark
  pub accepted : List Cell
  -- the slots of the open turns that were not refused, idle ones too
  pub usable : List ℕ
  pub sent : List Gone
  -- the sum of the missed counts that turns were answered with
  pub missed : ℕ

-- before any call
abbrev pub no_cells : Cells
no_cells = record { slot = 0; marks = []; accepted = []; usable = []; sent = []; missed = 0 }

-- the deadline in force: that of the flow's newest opening, 0 before any
abbrev pub deadline_in : Cells → ℕ → ℕ
deadline_in h flow = in_force h.marks flow

-- the cell was sent: it is known by its flow and its number
unfoldable pub was_sent : List Gone → ℕ → ℕ → Bool
was_sent [] flow number = false
was_sent (g ∷ gs) flow number = (eqb g.flow flow && eqb g.number number) || was_sent gs flow number

-- an accepted cell waits: it is not sent, and its last slot has not gone by
abbrev pub waits : Cells → Cell → Bool
waits h a = not (was_sent h.sent a.flow a.number) && leb h.slot a.last

-- an accepted cell is missed: it is not sent, and its last slot has gone by
abbrev pub is_missed : Cells → Cell → Bool
is_missed h a = not (was_sent h.sent a.flow a.number) && ltb a.last h.slot

-- the window of an accepted cell, from the slot of its acceptance and its own deadline
abbrev pub window_of : Cell → Window
window_of a = window_from a.arrival a.deadline

abbrev pub windows : Cells → List Window
windows h = map window_of h.accepted
