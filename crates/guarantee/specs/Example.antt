-- The guarantee is not empty: calls that meet its conditions, and lists that are not admitted.
use Rattle.std.specs.Prelude.{◌≡◌, List, [], ◌∷◌, map, ℕ, ◌*◌, replicate, None, Some, Err}
use Rattle.units.specs.declared.Refusal.TheVariants.{PlacesFull}
use Rattle.places.specs.Members.{Each}
use Rattle.link.specs.Rate.{greatest_of}
use Rattle.link.specs.Verdicts.{admit_of}
use Rattle.link.specs.declared.Declaration.{Declaration}
use Rattle.link.specs.declared.Objection.TheVariants.{FailsAt, Rate}
use Rattle.station.specs.declared.Call.{Call}
use Rattle.station.specs.declared.Call.TheVariants.{OpenUrgent, CloseUrgent, OfferCell, OpenFair, CloseFair, OfferPacket, Begin, End, OpenTurn}
use Rattle.station.specs.Answers.{refusal_in}
use Rattle.promises_urgent.specs.Cells.{Gone}
use Rattle.promises_urgent.specs.Plans.{window_from}
use Rattle.promises.specs.Run.{run, reply_to}
use Rattle.guarantee.specs.Arrivals.{Arrival, KeepsDeclaration, window_in}
use Rattle.guarantee.specs.Heaviest.{heaviest}
use Rattle.guarantee.specs.Conditions.{arrivals, Conditions, OpenedWith, with_one, HaveRoom}

-- a declaration by its numbers
abbrev pub declaration : ℕ → ℕ → ℕ → Declaration
declaration burst period deadline = record { burst = burst; period = period; deadline = deadline }

-- a cell of a flow that arrives in a slot
abbrev pub cell : ℕ → ℕ → Arrival
cell flow slot = record { flow = flow; slot = slot }

-- a cell of a flow, by its number, that is sent in a slot
abbrev pub gone : ℕ → ℕ → ℕ → Gone
gone flow number slot = record { flow = flow; number = number; slot = slot }

-- flow 0 has two cells at once and one more in each four slots, to go within three; flow 1 one in each two slots, within two
abbrev pub two_flows : List Declaration
two_flows = declaration 2 4 3 ∷ declaration 1 2 2 ∷ []

-- from slot 1 on both flows bring all that they may. Besides, flow 1 is closed and opened again, flow 5 is opened and has no cell, two cells
-- are refused, one of a flow that is not open and one that would wait too long, and a packet comes and goes
abbrev pub calls : List Call
calls =
    OpenUrgent 0 3
    ∷ OpenUrgent 1 2
    ∷ OpenUrgent 5 9
    ∷ OpenTurn
    ∷ OfferCell 0 3
    ∷ OfferCell 0 3
    ∷ OfferCell 1 2
    ∷ OpenTurn
    ∷ OpenTurn
    ∷ OfferCell 1 2
    ∷ OpenTurn
    ∷ OpenTurn
    ∷ CloseUrgent 1
    ∷ OpenUrgent 1 2
    ∷ OfferCell 6 1
    ∷ OfferCell 0 4
    ∷ OpenFair 0 1
    ∷ OfferPacket 0 100
    ∷ Begin
    ∷ End
    ∷ CloseFair 0
    ∷ OfferCell 0 3
    ∷ OfferCell 1 2
    ∷ OpenTurn
    ∷ OpenTurn
    ∷ OpenTurn
    ∷ []

-- a flow is opened, of which sixteen cells may come at once, and so many are offered
abbrev pub offered : ℕ → List Call
offered n = OpenUrgent 0 16 ∷ replicate n (OfferCell 0 16)

-- case K
abbrev pub case_k : List Declaration
case_k = declaration 1 2 1 ∷ declaration 1 2 1 ∷ []

-- four declarations that a client made, of rate 5,041
abbrev pub too_fast : List Declaration
too_fast = declaration 1 2 1000 ∷ declaration 1 3 1000 ∷ declaration 1 6 1000 ∷ declaration 1 5040 1000 ∷ []

-- the calls meet the conditions, with a burst and a later cell in flow 0 and one cell after another in flow 1; and all of them are sent
pub record Met : Type 0 where
  pub conditions : Conditions two_flows calls
  pub cells : arrivals calls ≡ cell 1 5 ∷ cell 0 5 ∷ cell 1 3 ∷ cell 1 1 ∷ cell 0 1 ∷ cell 0 1 ∷ []
  pub sent : (run calls).cells.sent ≡ gone 0 2 6 ∷ gone 1 2 5 ∷ gone 1 1 4 ∷ gone 0 1 3 ∷ gone 0 0 2 ∷ gone 1 0 1 ∷ []

-- places for all that may come within a deadline, and no more: the sixteenth cell is taken, and a seventeenth, which is not within the
-- declaration, is not
pub record Sixteenth : Type 0 where
  pub room : HaveRoom (declaration 16 5040 16)
  pub opened : Each (OpenedWith 0 16) (run (offered 15)).cells.marks
  pub keeps : KeepsDeclaration (declaration 16 5040 16) 0 (with_one (offered 15) 0)
  pub taken : refusal_in (reply_to (offered 15) (OfferCell 0 16)) ≡ None
  pub no_more : refusal_in (reply_to (offered 16) (OfferCell 0 16)) ≡ Some PlacesFull

-- case K fails at 1: two cells arrive in slot 0, and both have to go in slot 0; and the client's list is too fast
pub record TooMuch : Type 0 where
  pub fails : admit_of case_k ≡ Err (FailsAt 1)
  pub cells : heaviest case_k 1 ≡ cell 0 0 ∷ cell 1 0 ∷ []
  pub windows : map (window_in case_k) (heaviest case_k 1) ≡ window_from 0 1 ∷ window_from 0 1 ∷ []
  pub rate : admit_of too_fast ≡ Err Rate
  pub by : 5041 * greatest_of too_fast ≡ 5041000
