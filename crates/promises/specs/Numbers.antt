-- The rules' numbers: those of the refusals, and the limits.
use Rattle.std.specs.Prelude.{◌≡◌, ◌||◌, List, [], ◌∷◌, map, ℕ, ltb}
use Rattle.units.specs.Limits.{no_such_flow, place_count, outside_of, bad_weight, bad_deadline, bad_length, slot_limit, tag_limit}
use Rattle.units.specs.Refusals.{number_of}
use Rattle.units.specs.declared.Refusal.{Refusal}
use Rattle.units.specs.declared.Refusal.TheVariants.{NoSuchFlow, NotOpen, AlreadyOpen, PlacesFull, TagsUsedUp, SlotsUsedUp, PacketInService, NothingWaits, NothingInService, NoCommand, FlowInUse, BadWeight, BadDeadline, BadLength, ListTooLong, BadBurst, BadPeriod}
use Rattle.text.specs.Reading.{largest}

-- the refusals in the order of their numbers
abbrev pub by_number : List Refusal
by_number =
    NoSuchFlow
    ∷ NotOpen
    ∷ AlreadyOpen
    ∷ PlacesFull
    ∷ TagsUsedUp
    ∷ SlotsUsedUp
    ∷ PacketInService
    ∷ NothingWaits
    ∷ NothingInService
    ∷ NoCommand
    ∷ FlowInUse
    ∷ BadWeight
    ∷ BadDeadline
    ∷ BadLength
    ∷ ListTooLong
    ∷ BadBurst
    ∷ BadPeriod
    ∷ []

-- Each refusal has its number.
abbrev pub RefusalsNumbered : Type 0
RefusalsNumbered = map number_of by_number ≡ 1 ∷ 2 ∷ 3 ∷ 5 ∷ 6 ∷ 7 ∷ 8 ∷ 9 ∷ 10 ∷ 11 ∷ 12 ∷ 13 ∷ 14 ∷ 15 ∷ 16 ∷ 17 ∷ 18 ∷ []

-- The limits: flows to 15 with sixteen places each; weights, deadlines and lengths; where slots and tags end; the largest number of a line.
pub record LimitsSaid : Type 0 where
  pub flows : (flow : ℕ) → no_such_flow flow ≡ ltb 15 flow
  pub places : place_count ≡ 16
  pub weights : (weight : ℕ) → bad_weight weight ≡ (ltb weight 1 || ltb 16 weight)
  pub deadlines : (deadline : ℕ) → bad_deadline deadline ≡ (ltb deadline 1 || ltb 4096 deadline)
  -- a cell's own deadline is 1 to the most that its flow allows
  pub own_deadlines : (deadline most : ℕ) → outside_of deadline most ≡ (ltb deadline 1 || ltb most deadline)
  pub lengths : (length : ℕ) → bad_length length ≡ (ltb length 1 || ltb 1500 length)
  pub slots : slot_limit ≡ 4000000000
  pub tags : tag_limit ≡ 4611686018427387904
  pub numbers : largest ≡ 4294967295
