-- The refusals by their numbers, and which one a call gives.
use Rattle.std.specs.Prelude.{ℕ, Bool, cond, List, [], ◌∷◌, Option, None, Some}
use Rattle.units.specs.declared.Refusal.{Refusal}
use Rattle.units.specs.declared.Refusal.TheVariants.{NoSuchFlow, NotOpen, AlreadyOpen, PlacesFull, TagsUsedUp, SlotsUsedUp, PacketInService, NothingWaits, NothingInService, NoCommand, FlowInUse, BadWeight, BadDeadline, BadLength, ListTooLong, BadBurst, BadPeriod, BadTree}

abbrev pub number_of : Refusal → ℕ
number_of NoSuchFlow = 1
number_of NotOpen = 2
number_of AlreadyOpen = 3
number_of PlacesFull = 5
number_of TagsUsedUp = 6
number_of SlotsUsedUp = 7
number_of PacketInService = 8
number_of NothingWaits = 9
number_of NothingInService = 10
number_of NoCommand = 11
number_of FlowInUse = 12
number_of BadWeight = 13
number_of BadDeadline = 14
number_of BadLength = 15
number_of ListTooLong = 16
number_of BadBurst = 17
number_of BadPeriod = 18
number_of BadTree = 27

-- a refusal and whether its condition holds for the call at hand
abbrev pub Ground : Type 0
Ground = Refusal × Bool

-- the first refusal of a call's list whose condition holds
unfoldable pub first_of : List Ground → Option Refusal
first_of [] = None
first_of (g ∷ gs) = cond g.1 (Some g.0) (first_of gs)

-- what a call gives: it goes through, unless some refusal applies; then it gives what it gives for that refusal
abbrev pub unless : {D : Type 0} → (Refusal → D) → Option Refusal → D → D
unless refused None done = done
unless refused (Some r) done = refused r
