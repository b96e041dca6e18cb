-- Ten wrong lanes, each of which differs from the class lane in one thing. The v of a class is its virtual time.
use Rattle.std.specs.Prelude.{cond, ◌&&◌, ℕ, zero, suc, ◌+◌, ◌-◌, ◌%◌, ltb, eqb}
use Rattle.places.specs.Choice.{Key, least_held}
use Rattle.tree.specs.declared.Node.{Node}
use Rattle.tree.specs.declared.Tree.{Tree}
use Rattle.tree.specs.Tree.{node_at, class_at, with_node}
use Rattle.tree.specs.Steps.{with_tags, weighed_node, one_more, begun_node, largest_ended}
use Rattle.descent.specs.Descent.{is_child, key_of, place_in, on_from}
use Rattle.ascent.specs.Ascent.{with_times, offer_step, offer_top, begin_step, end_step}
use Rattle.class_cases.specs.Parts.{Parts, right}

-- the class lane but for its offers, its ends, or its way down
abbrev pub offering : (Tree → ℕ → ℕ → Tree) → Parts
offering step = record { at_offer = λ busy. step; at_begin = right.at_begin; at_end = right.at_end; down = right.down }

abbrev pub ending : (Tree → ℕ → ℕ → Tree) → Parts
ending step = record { at_offer = right.at_offer; at_begin = right.at_begin; at_end = step; down = right.down }

abbrev pub meeting : (Tree → ℕ) → Parts
meeting down = record { at_offer = right.at_offer; at_begin = right.at_begin; at_end = right.at_end; down = down }

-- a step after which the root's times are as they were
abbrev pub root_kept : (Tree → ℕ → ℕ → Tree) → Tree → ℕ → ℕ → Tree
root_kept step t k up = with_times (step t k up) 0 (class_at t 0)

-- the root's v never moves
abbrev pub root_stands : Parts
root_stands = record { at_offer = right.at_offer; at_begin = λ length. root_kept (begin_step length); at_end = root_kept end_step; down = right.down }

-- a way down by a key of its own, which is told how many steps are left
unfoldable pub down_by : (ℕ → ℕ → Node → Key) → ℕ → Tree → ℕ → ℕ
down_by key zero t class = 16
down_by key (suc left) t class = on_from (down_by key left t) (place_in (least_held (is_child class) (key left) t.nodes))

-- below a class at depth 3, from which one step is left beyond its own, the last child goes first
abbrev pub last_key : ℕ → Node → Key
last_key place x = record { rank = 47 - place; flow = 0; number = 0 }

abbrev pub deep_wrong : Parts
deep_wrong = meeting (λ t. down_by (λ left place x. cond (eqb left 1) (last_key place x) (key_of place x)) 4 t 0)

-- a class that gets something to send while a packet is in service gets no start
abbrev pub forgets_start : Parts
forgets_start =
    record {
      at_offer = λ busy t k up. cond (busy && ltb k 31) (offer_top t k) (offer_step t k up);
      at_begin = right.at_begin;
      at_end = right.at_end;
      down = right.down;
    }

-- a class's v stays where it is when the class drains; the root's does not
abbrev pub time_kept : Parts
time_kept =
    ending
    (λ t k up. cond (eqb up 0) (end_step t k up)
    (with_times (end_step t k up) up (record { time = (class_at t up).time; largest = largest_ended (node_at t k) (class_at t up) })))

-- a class is charged by weight 1; it keeps its own
abbrev pub weight_ignored : Parts
weight_ignored =
    record {
      at_offer = right.at_offer;
      at_begin =
          λ length t k up. cond (ltb k 31)
          (with_node (begin_step length t k up) k (weighed_node (node_at t k).weight (begun_node length (weighed_node 1 (node_at t k)))))
          (begin_step length t k up);
      at_end = right.at_end;
      down = right.down;
    }

-- of equal starts a flow's goes before a class's
abbrev pub flow_key : ℕ → Node → Key
flow_key place x = record { rank = x.start.0; flow = (place + 16) % 47; number = 0 }

abbrev pub flow_first : Parts
flow_first = meeting (λ t. down_by (λ left. flow_key) 4 t 0)

-- after an end with more to send a child starts at the v of its class
abbrev pub starts_at_time : Parts
starts_at_time =
    ending
    (λ t k up. with_node (end_step t k up) k
    (with_tags (node_at t k) (node_at t k).waiting (cond (eqb (node_at t k).waiting 0) (node_at t k).start (class_at t up).time) (node_at t k).finish))

-- a class that drains goes on to the finish that ended last, and not to the largest
abbrev pub last_ended : Parts
last_ended =
    ending
    (λ t k up. with_times (end_step t k up) up
    (record { time = cond (eqb (node_at t up).waiting 0) (node_at t k).finish (class_at t up).time; largest = (node_at t k).finish }))

-- a child that gets something to send starts at the v of its class, whatever its last finish
abbrev pub last_finish_forgotten : Parts
last_finish_forgotten =
    offering
    (λ t k up. with_node t k
    (with_tags (node_at t k) (one_more (node_at t k)) (cond (eqb (node_at t k).waiting 0) (class_at t up).time (node_at t k).start) (node_at t k).finish))

-- every child starts by the root's v
abbrev pub root_time_only : Parts
root_time_only = offering (λ t k up. offer_step t k 0)
