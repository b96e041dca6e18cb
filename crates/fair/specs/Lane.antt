-- The fair lane's state: a queue that ranks by start tag, and virtual time.
use Rattle.std.specs.Prelude.{ℕ}
use Rattle.units.specs.declared.Tag.{Tag}
use Rattle.tags.specs.Tags.{later_of}
use Rattle.packets.specs.Queue.{fresh_queue, flow_at}
use Rattle.packets.specs.Quotes.{start_after}
use Rattle.fair.specs.declared.Fair.{Fair}

-- the lane before any call
abbrev pub fresh_lane : Fair
fresh_lane = record { time = record { 0 = 0 }; largest = record { 0 = 0 }; queue = fresh_queue }

-- a packet offered now starts at the virtual time, or where its flow's last packet finishes if that is later
abbrev pub start_of : Fair → ℕ → Tag
start_of u flow = start_after (flow_at u.queue flow) u.time

-- the largest finish tag of all packets ended, once the packet in service has ended
abbrev pub largest_ended : Fair → Tag
largest_ended u = later_of u.largest u.queue.service.finish
