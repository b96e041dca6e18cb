-- The tags of a packet, and what a place and a flow's record are when nothing is in them.
use Rattle.std.specs.Prelude.{Bool, false, cond, ◌||◌, Option, None, Some, ℕ, ◌+◌, ◌*◌, ltb}
use Rattle.units.specs.Limits.{tag_limit, bad_length}
use Rattle.units.specs.Charges.{charge_of}
use Rattle.units.specs.declared.Tag.{Tag}
use Rattle.tags.specs.declared.Flow.{Flow}
use Rattle.tags.specs.declared.Packet.{Packet}

-- a free place
abbrev pub free_packet : Packet
free_packet = record { held = false; number = 0; length = 0; start = record { 0 = 0 }; finish = record { 0 = 0 } }

-- a packet waits in this place
abbrev pub is_held : Packet → Bool
is_held p = p.held

-- a flow that was never opened
abbrev pub shut_flow : Flow
shut_flow = record { opened = false; weight = 0; next = 0; finish = record { 0 = 0 } }

-- the later of two tags
abbrev pub later_of : Tag → Tag → Tag
later_of a b = cond (ltb a.0 b.0) b a

-- a packet finishes later than it starts by its length times its flow's charge for a byte
abbrev pub finish_at : Tag → ℕ → ℕ → ℕ
finish_at start length weight = start.0 + length * charge_of weight

-- a packet of no good length, or one that would finish past the largest tag, has no finish
unfoldable pub finish_of : Tag → ℕ → ℕ → Option Tag
finish_of start length weight =
    cond (bad_length length || ltb tag_limit (finish_at start length weight)) None (Some (record { 0 = finish_at start length weight }))
