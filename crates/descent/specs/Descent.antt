-- The way down: from a class to that child of it which goes first, until a flow is met.
use Rattle.std.specs.Prelude.{Bool, cond, ◌&&◌, ℕ, zero, suc, ◌-◌, ltb, leb, eqb}
use Rattle.places.specs.Choice.{Key, Choice, nothing, at, least_held}
use Rattle.tree.specs.declared.Node.{Node}
use Rattle.tree.specs.declared.Tree.{Tree}

-- a child of the class that has something to send
abbrev pub is_child : ℕ → Node → Bool
is_child class x = ltb 0 x.waiting && eqb x.parent class

-- what the choice goes by: the start, then the place among the nodes, where the classes come before the flows
abbrev pub key_of : ℕ → Node → Key
key_of place x = record { rank = x.start.0; flow = place; number = 0 }

-- the child that goes first
abbrev pub least_child : Tree → ℕ → Choice Node
least_child t class = least_held (is_child class) key_of t.nodes

-- its place, 47 where no child has anything to send
abbrev pub place_in : Choice Node → ℕ
place_in nothing = 47
place_in (at k x) = k

-- a flow is met at this place, or the way goes on from a class; the place 47 is that of flow 16, which is none
abbrev pub on_from : (ℕ → ℕ) → ℕ → ℕ
on_from go k = cond (leb 31 k) (k - 31) (go k)

-- the flow that is met from a class in so many steps, 16 where none is
unfoldable pub descend_of : ℕ → Tree → ℕ → ℕ
descend_of zero t class = 16
descend_of (suc left) t class = on_from (descend_of left t) (place_in (least_child t class))

-- the flow that is met from the root, which is one of at most four classes on the way
abbrev pub flow_met : Tree → ℕ
flow_met t = descend_of 4 t 0
