-- Which flows of a lane are open, and the number that each was last opened with, read off the openings and closings that were
-- answered ok, the newest first.
use Rattle.std.specs.Prelude.{Bool, true, false, cond, List, [], ◌∷◌, ℕ, eqb}

-- a flow was opened with a number, which is its deadline or its weight, or closed
pub data Mark : Type 0 where
  opens : (flow number : ℕ) → Mark
  closes : (flow : ℕ) → Mark

-- the flow is open: it was opened, and not closed since
unfoldable pub open_in : List Mark → ℕ → Bool
open_in [] flow = false
open_in (opens f number ∷ marks) flow = cond (eqb f flow) true (open_in marks flow)
open_in (closes f ∷ marks) flow = cond (eqb f flow) false (open_in marks flow)

-- the number in force: that of the flow's newest opening, 0 before any
unfoldable pub in_force : List Mark → ℕ → ℕ
in_force [] flow = 0
in_force (opens f number ∷ marks) flow = cond (eqb f flow) number (in_force marks flow)
in_force (closes f ∷ marks) flow = in_force marks flow
