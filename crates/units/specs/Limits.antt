-- The limits of the numbers that a call may bring, and of the numbers that the station counts up to.
use Rattle.std.specs.Prelude.{ℕ, Bool, ◌||◌, nat_lt}

-- flows are numbered 0 to 15, in each lane
abbrev pub no_such_flow : ℕ → Bool
no_such_flow flow = nat_lt 15 flow

-- a flow has sixteen places in each lane
abbrev pub place_count : ℕ
place_count = 16

-- n is none of the numbers 1 to most
abbrev pub outside_of : ℕ → ℕ → Bool
outside_of n most = nat_lt n 1 || nat_lt most n

-- a weight is 1 to 16
abbrev pub bad_weight : ℕ → Bool
bad_weight weight = outside_of weight 16

-- a deadline is 1 to 4,096 slots
abbrev pub bad_deadline : ℕ → Bool
bad_deadline deadline = outside_of deadline 4096

-- a packet is 1 to 1,500 bytes long
abbrev pub bad_length : ℕ → Bool
bad_length len = outside_of len 1500

-- a turn's slot number is below this
abbrev pub slot_limit : ℕ
slot_limit = 4000000000

-- no tag and no packet's number is above this
abbrev pub tag_limit : ℕ
tag_limit = 4611686018427387904
