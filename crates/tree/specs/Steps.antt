-- What becomes of one node, and of the times of one class, where a packet below it is offered, begun or ended.
use Rattle.std.specs.Prelude.{ℕ, ◌+◌, ◌-◌, ◌%◌, ◌^◌, Bool, true, false, cond, ◌==◌, Option, None, Some}
use Rattle.units.specs.declared.Tag.{Tag}
use Rattle.tags.specs.Tags.{later_of, finish_of}
use Rattle.tree.specs.declared.Node.{Node}
use Rattle.tree.specs.declared.Class.{Class}

-- a node with another count of what waits below it, another start and another finish
abbrev pub with_tags : Node → ℕ → Tag → Tag → Node
with_tags x waiting start finish = record { parent = x.parent; weight = x.weight; waiting = waiting; start = start; finish = finish }

-- the flow of a node is opened with another weight
abbrev pub weighed_node : ℕ → Node → Node
weighed_node weight x = record { parent = x.parent; weight = weight; waiting = x.waiting; start = x.start; finish = x.finish }

-- one packet more. A count past the largest of its type would be 0 again; no calls come so far
abbrev pub one_more : Node → ℕ
one_more x = (x.waiting + 1) % 2 ^ 64

-- Offered below a child of a class at this time: where nothing waited below it, it starts at that time, or at its last finish if that is
-- later.
abbrev pub offered_node : Tag → Node → Node
offered_node time x = with_tags x (one_more x) (cond (x.waiting == 0) (later_of time x.finish) x.start) x.finish

-- the root has no start and no finish: it counts
abbrev pub offered_root : Node → Node
offered_root x = with_tags x (one_more x) x.start x.finish

-- the finish that is reached, or the last one where none is
abbrev pub reached : Tag → Option Tag → Tag
reached last (Some finish) = finish
reached last None = last

-- no finish is reached: it would pass the largest tag
abbrev pub is_beyond : Option Tag → Bool
is_beyond (Some finish) = false
is_beyond None = true

-- the finish of a child for a packet of this length that is begun below it
abbrev pub finish_for : Node → ℕ → Option Tag
finish_for x length = finish_of x.start length x.weight

-- Begun below a child: one waits less, and its finish is worked out.
abbrev pub begun_node : ℕ → Node → Node
begun_node length x = with_tags x (x.waiting - 1) x.start (reached x.finish (finish_for x length))

-- below the root one waits less
abbrev pub begun_root : Node → Node
begun_root x = with_tags x (x.waiting - 1) x.start x.finish

-- the class above it goes on to its start
abbrev pub begun_class : Node → Class → Class
begun_class x c = record { time = x.start; largest = c.largest }

-- Ended below a child: with more to send it starts at its last finish.
abbrev pub ended_node : Node → Node
ended_node x = with_tags x x.waiting (cond (x.waiting == 0) x.start x.finish) x.finish

-- the largest finish of all that ended, this child's too
abbrev pub largest_ended : Node → Class → Tag
largest_ended x c = later_of c.largest x.finish

-- the class above it takes its finish, and goes on to the largest where nothing waits below that class any more
abbrev pub ended_class : Node → Node → Class → Class
ended_class x up c = record { time = cond (up.waiting == 0) (largest_ended x c) c.time; largest = largest_ended x c }
