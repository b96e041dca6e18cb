-- The promises of the urgent lane, each as a statement about a lane, what the calls and answers so far tell of its cells, or both.
use Rattle.std.specs.Prelude.{◌≡◌, Bool, true, false, cond, ◌&&◌, List, [], ◌∷◌, map, ℕ, suc, ◌+◌, ◌-◌, ◌*◌, ◌≤◌, ◌<◌, eqb, length, get_or}
use Rattle.units.specs.Limits.{place_count, slot_limit}
use Rattle.places.specs.Places.{count, count_at, flow_of}
use Rattle.places.specs.Choice.{Key, comes_before}
use Rattle.urgent.specs.declared.Urgent.{Urgent}
use Rattle.urgent.specs.declared.Cell.{Cell as Place}
use Rattle.urgent.specs.declared.Answer.{Answer}
use Rattle.urgent.specs.declared.Answer.TheVariants.{Refused, Opened, Closed, Accepted, Sent, Idle}
use Rattle.urgent.specs.Lane.{flow_at, waiting_of}
use Rattle.places.specs.Members.{Each, Any}
use Rattle.places.specs.Numbers.{of_flow, Numbered}
use Rattle.places.specs.Marks.{open_in}
use Rattle.promises_urgent.specs.Plans.{Sending, Plan, Overloaded}
use Rattle.promises_urgent.specs.Cells.{Cell, its_flow, its_number, is_cell, deadline_in, no_cell, Gone, Cells, waits, is_missed, window_of, windows}

-- U0: the lane's next slot is the number of turns answered and not refused.
abbrev pub OnTime : Urgent → Cells → Type 0
OnTime u h = u.now.0 ≡ h.slot

-- how many cells of a flow were accepted, were sent, are missed, and wait
abbrev pub accepted_of : Cells → ℕ → ℕ
accepted_of h flow = of_flow its_flow flow h.accepted

abbrev pub sent_of : Cells → ℕ → ℕ
sent_of h flow = count (λ (g : Gone). eqb g.flow flow) h.sent

abbrev pub missed_of : Cells → ℕ → ℕ
missed_of h flow = count (λ (a : Cell). eqb a.flow flow && is_missed h a) h.accepted

abbrev pub waiting_in : Cells → ℕ → ℕ
waiting_in h flow = count (λ (a : Cell). eqb a.flow flow && waits h a) h.accepted

-- a question about a cell: its flow, its number and its last slot
abbrev pub Question : Type 0
Question = ℕ → ℕ → ℕ → Bool

-- a place is held, and by a cell of which the answer is yes
abbrev pub holds : Question → ℕ → Place → Bool
holds ask place c = c.held && ask (flow_of place_count place) c.number c.last.0

-- U1: of each flow as many cells were accepted as were sent, are missed and hold a place, together; the missed counts that turns
-- answered add up to the missed cells; and the places held are, cell for cell, the accepted cells that wait: whatever is asked of a
-- cell's flow, number and last slot, as many places as waiting cells answer to it.
pub record Accounted (u : Urgent) (h : Cells) : Type 0 where
  pub conserved : (flow : ℕ) → flow < 16 → accepted_of h flow ≡ sent_of h flow + missed_of h flow + waiting_of u flow
  pub missed_add_up : h.missed ≡ count (is_missed h) h.accepted
  pub cell_for_cell :
      (ask : Question)
      → count_at (holds ask) 0 u.cells ≡ count (λ (a : Cell). ask a.flow a.number a.last && waits h a) h.accepted

-- what an open turn's choice goes by
abbrev pub cell_key : Cell → Key
cell_key a = record { rank = a.last; flow = a.flow; number = a.number }

-- U2: an open turn that sends answers flow and number of a waiting cell that no waiting cell comes before by last slot, flow and number;
-- it is idle only where none waits, and refused only where the slot numbers are used up.
abbrev pub Earliest : Cells → Answer → Type 0
Earliest h (Sent flow number missed) =
    Any
    (λ (a : Cell).
    (waits h a ≡ true)
    × (a.flow ≡ flow)
    × (a.number ≡ number)
    × Each (λ (b : Cell). waits h b ≡ true → comes_before (cell_key b) (cell_key a) ≡ false) h.accepted)
    h.accepted
Earliest h (Idle missed) = Each (λ (b : Cell). waits h b ≡ false) h.accepted
Earliest h (Refused r) = slot_limit ≤ h.slot
Earliest h Opened = ⊥
Earliest h Closed = ⊥
Earliest h (Accepted number last) = ⊥

-- U3: each accepted cell's number, as answered, is how many of its flow were accepted before it.
abbrev pub CellsNumbered : List Cell → Type 0
CellsNumbered cells = Numbered its_flow its_number cells

-- U3: and its last slot, as answered, is that of its window, which has a slot at least and is no longer than its flow's deadline.
abbrev pub Windowed : List Cell → Type 0
Windowed cells = Each (λ (a : Cell). (a.last ≡ (window_of a).last) × (1 ≤ a.deadline) × (a.deadline ≤ a.full)) cells

-- the last slot of the window of a cell accepted now with a deadline
abbrev pub last_in : Cells → ℕ → ℕ
last_in h deadline = h.slot + deadline - 1

-- U3: and no flow's next number comes near the end of its type: at most sixteen cells of a flow leave in a slot, and sixteen wait.
abbrev pub FewNumbers : Urgent → Type 0
FewNumbers u = (flow : ℕ) → flow < 16 → (flow_at u flow).next ≤ 16 * slot_limit + 16

-- the index of the accepted cell of this flow and number; where there is none, how many cells were accepted
unfoldable pub index_of : List Cell → ℕ → ℕ → ℕ
index_of [] flow number = 0
index_of (a ∷ rest) flow number = cond (is_cell flow number a) 0 (suc (index_of rest flow number))

-- the lane's own sendings: the very cells that the turns answered, in the slots of those turns
abbrev pub own_plan : Cells → List Sending
own_plan h = map (λ (g : Gone). record { cell = index_of h.accepted g.flow g.number; slot = g.slot }) h.sent

-- U4: the lane's own sendings are a plan, so that a cell is sent at most once, in an open slot, inside its window; and each is of
-- the accepted cell that the turn named.
pub record OwnPlan (h : Cells) : Type 0 where
  pub plan : Plan (windows h) h.usable (own_plan h)
  pub named :
      Each
      (λ (g : Gone).
      ((get_or h.accepted (index_of h.accepted g.flow g.number) no_cell).flow ≡ g.flow)
      × ((get_or h.accepted (index_of h.accepted g.flow g.number) no_cell).number ≡ g.number))
      h.sent

-- U5: no plan for the open slots so far, even one drawn up in hindsight, sends more of the accepted cells than the lane has sent.
abbrev pub NoneBetter : Cells → Type 0
NoneBetter h = (plan : List Sending) → Plan (windows h) h.usable plan → length plan ≤ length h.sent

-- U6: every missed cell has a reason: some slots up to its last one were too few for the cells that had to go in them.
abbrev pub Explained : Cells → Type 0
Explained h = Each (λ (a : Cell). is_missed h a ≡ true → Overloaded (windows h) h.usable (window_of a)) h.accepted

-- a cell was accepted while its flow's deadline was this, and its own is at most that
abbrev pub OnTerms : Cell → ℕ → Type 0
OnTerms a deadline = (a.full ≡ deadline) × (a.deadline ≤ deadline)

-- U7: a cell that waits is of an open flow, whose deadline is still that of the cell's acceptance; the cell's own is at most that.
abbrev pub TermsStand : Cells → Type 0
TermsStand h =
    Each (λ (a : Cell). waits h a ≡ true → (open_in h.marks a.flow ≡ true) × OnTerms a (deadline_in h a.flow)) h.accepted
