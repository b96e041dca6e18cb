-- What a client is sold: flows that keep an admitted list, with their full deadlines on all cells, lose none, and for a list that fails or is too fast
-- there are cells within it that nobody could send in time.
use Rattle.std.specs.Prelude.{◌≡◌, ◌≢◌, ◌↔◌, List, ◌++◌, map, ℕ, ◌*◌, ◌<◌, length, Some, Ok, Err}
use Rattle.units.specs.declared.Refusal.TheVariants.{PlacesFull}
use Rattle.places.specs.Members.{Each}
use Rattle.link.specs.Rate.{greatest_of}
use Rattle.link.specs.Verdicts.{admit_of}
use Rattle.link.specs.Published.{Fits, Within}
use Rattle.link.specs.declared.Declaration.{Declaration}
use Rattle.link.specs.declared.Objection.TheVariants.{FailsAt, Rate}
use Rattle.station.specs.declared.Call.{Call}
use Rattle.station.specs.declared.Call.TheVariants.{OfferCell}
use Rattle.station.specs.Answers.{refusal_in}
use Rattle.promises_urgent.specs.Plans.{Sending, Plan}
use Rattle.promises_urgent.specs.Cells.{windows}
use Rattle.promises.specs.Run.{run, reply_to}
use Rattle.guarantee.specs.Arrivals.{Arrival, KeepsDeclaration, WithinDeclarations, window_in}
use Rattle.guarantee.specs.Heaviest.{heaviest}
use Rattle.guarantee.specs.Conditions.{arrivals, Conditions, NoneMissed, OpenedWith, with_one, HaveRoom}
use Rattle.guarantee.specs.Example.{Met, Sixteenth, TooMuch}
use Rattle.guarantee.specs.Needed.{Needed}

-- cells within the declarations that nobody could send: every plan, over whatever slots, sends fewer of them than there are
pub record Beyond (ds : List Declaration) (cells : List Arrival) : Type 0 where
  pub within : WithinDeclarations ds cells
  pub no_plan :
      (slots : List ℕ) (plan : List Sending) → Plan (map (window_in ds) cells) slots plan → length plan < length cells

-- cells that could all be sent: some plan, over some slots, sends as many of them as there are
abbrev pub Sendable : List Declaration → List Arrival → Type 0
Sendable ds cells =
    (slots : List ℕ) × (plan : List Sending) × Plan (map (window_in ds) cells) slots plan × (length plan ≡ length cells)

pub record Guarantee : Type 0 where
  -- G1: under the conditions no cell is missed, whatever is called besides
  pub G1 : (ds : List Declaration) (calls : List Call) → Conditions ds calls → NoneMissed (run calls).cells
  -- ever: nor was any missed after the first so many of the calls
  pub G1-ever : (ds : List Declaration) (xs ys : List Call) → Conditions ds (xs ++ ys) → NoneMissed (run xs).cells
  -- the windows of the accepted cells are those that the declarations give them
  pub G1-windows : (ds : List Declaration) (calls : List Call) → Conditions ds calls → windows (run calls).cells ≡ map (window_in ds) (arrivals calls)
  -- the conditions can be met, and none of them can be left out
  pub G1-met : Met
  pub G1-needed : Needed
  -- of one flow and its declaration, whatever other flows do, whichever turns are lost and whatever deadlines the cells have: a cell with which the
  -- flow keeps it is not refused for want of a place, if there are places for all that may come within the flow's deadline
  pub G1-places :
      (d : Declaration) (flow deadline : ℕ) (calls : List Call) → Within d → Each (OpenedWith flow d.deadline) (run calls).cells.marks
      → KeepsDeclaration d flow (with_one calls flow) → HaveRoom d
      → refusal_in (reply_to calls (OfferCell flow deadline)) ≢ Some PlacesFull
  -- as the sixteenth of sixteen is not
  pub G1-sixteenth : Sixteenth
  -- G2: of a list that fails at t the heaviest cells by t are within the declarations, and nobody could send them all
  pub G2-fails : (ds : List Declaration) (t : ℕ) → admit_of ds ≡ Err (FailsAt t) → Beyond ds (heaviest ds t)
  -- and of a list of too high a rate those by 5,041 times its greatest deadline
  pub G2-rate : (ds : List Declaration) → admit_of ds ≡ Err Rate → Beyond ds (heaviest ds (5041 * greatest_of ds))
  -- so a list within its limits is admitted exactly where all cells within its declarations could be sent, whichever they are
  pub G2-exact :
      (ds : List Declaration) → Fits ds
      → (admit_of ds ≡ Ok tt) ↔ ((cells : List Arrival) → WithinDeclarations ds cells → Sendable ds cells)
  -- there are lists that are not admitted, case K among them
  pub G2-met : TooMuch
