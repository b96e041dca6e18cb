-- No condition of the guarantee can be left out: for each there are calls that meet the five others, and a cell is missed.
use Rattle.std.specs.Prelude.{◌≡◌, List, [], ◌∷◌, Ok}
use Rattle.link.specs.Verdicts.{admit_of}
use Rattle.link.specs.declared.Declaration.{Declaration}
use Rattle.station.specs.declared.Call.{Call}
use Rattle.station.specs.declared.Call.TheVariants.{OpenUrgent, OfferCell, OpenTurn, LostTurn}
use Rattle.promises.specs.Run.{run}
use Rattle.guarantee.specs.Arrivals.{AllKeep, NoOthers}
use Rattle.guarantee.specs.Conditions.{arrivals, OpenedAsDeclared, FullDeadlines, NoneLost}
use Rattle.guarantee.specs.Example.{declaration, case_k}

-- turns have told of one missed cell
abbrev pub OneMissed : List Call → Type 0
OneMissed calls = (run calls).cells.missed ≡ 1

-- one cell in each two slots, to go at once
abbrev pub at_once : List Declaration
at_once = declaration 1 2 1 ∷ []

-- two cells in the first slot, to go within two
abbrev pub pair : List Declaration
pair = declaration 2 2 2 ∷ []

-- a cell of each of two flows, to go at once
abbrev pub two_at_once : List Call
two_at_once = OpenUrgent 0 1 ∷ OpenUrgent 1 1 ∷ OfferCell 0 1 ∷ OfferCell 1 1 ∷ OpenTurn ∷ []

-- two cells of one flow, to go at once
abbrev pub pair_at_once : List Call
pair_at_once = OpenUrgent 0 1 ∷ OfferCell 0 1 ∷ OfferCell 0 1 ∷ OpenTurn ∷ []

-- two cells of a flow that could wait for two slots, and are to go at once
abbrev pub pair_cut_short : List Call
pair_cut_short = OpenUrgent 0 2 ∷ OfferCell 0 1 ∷ OfferCell 0 1 ∷ OpenTurn ∷ []

-- a cell, to go in a slot that is lost
abbrev pub lost_at_once : List Call
lost_at_once = OpenUrgent 0 1 ∷ OfferCell 0 1 ∷ LostTurn ∷ []

pub record Needed : Type 0 where
  -- a list that is not admitted: two cells are due in slot 0
  pub admitted :
      OpenedAsDeclared case_k two_at_once
      × FullDeadlines two_at_once
      × NoOthers case_k (arrivals two_at_once)
      × AllKeep case_k (arrivals two_at_once)
      × NoneLost two_at_once
      × OneMissed two_at_once
  -- a flow opened with a shorter deadline than declared
  pub opened :
      (admit_of pair ≡ Ok tt)
      × FullDeadlines pair_at_once
      × NoOthers pair (arrivals pair_at_once)
      × AllKeep pair (arrivals pair_at_once)
      × NoneLost pair_at_once
      × OneMissed pair_at_once
  -- two cells with a shorter deadline than their flow's
  pub full :
      (admit_of pair ≡ Ok tt)
      × OpenedAsDeclared pair pair_cut_short
      × NoOthers pair (arrivals pair_cut_short)
      × AllKeep pair (arrivals pair_cut_short)
      × NoneLost pair_cut_short
      × OneMissed pair_cut_short
  -- a cell of a flow that is not declared
  pub others :
      (admit_of at_once ≡ Ok tt)
      × OpenedAsDeclared at_once two_at_once
      × FullDeadlines two_at_once
      × AllKeep at_once (arrivals two_at_once)
      × NoneLost two_at_once
      × OneMissed two_at_once
  -- a flow with one cell more than its declaration allows
  pub keep :
      (admit_of at_once ≡ Ok tt)
      × OpenedAsDeclared at_once pair_at_once
      × FullDeadlines pair_at_once
      × NoOthers at_once (arrivals pair_at_once)
      × NoneLost pair_at_once
      × OneMissed pair_at_once
  -- a lost turn
  pub turns :
      (admit_of at_once ≡ Ok tt)
      × OpenedAsDeclared at_once lost_at_once
      × FullDeadlines lost_at_once
      × NoOthers at_once (arrivals lost_at_once)
      × AllKeep at_once (arrivals lost_at_once)
      × OneMissed lost_at_once
