-- The fair rules as one class runs them among its children, over what that class sees and nothing else.
use Rattle.std.specs.Prelude.{Bool, true, false, cond, ◌&&◌, ◌||◌, List, [], ◌∷◌, ℕ, ◌+◌, max, eqb, ltb}

-- a child of a class is a class or a flow
pub data Child : Type 0 where
  a_class : ℕ → Child
  a_flow : ℕ → Child

-- two children are one
abbrev pub same : Child → Child → Bool
same (a_class j) (a_class k) = eqb j k
same (a_class j) (a_flow f) = false
same (a_flow g) (a_class k) = false
same (a_flow g) (a_flow f) = eqb g f

-- What a class sees, the newest first: a child, below which nothing waited, gets something to send; a packet below a child is begun, at a cost
-- of its length times what the child is charged for a byte; a packet below a child is ended, where the child has more to send or not, and
-- the class has something left to send or not.
pub data Seen : Type 0 where
  gets : (child : Child) → Seen
  begins : (child : Child) (cost : ℕ) → Seen
  ends : (child : Child) (more left : Bool) → Seen

unfoldable mutual
  -- A child that gets something to send starts at the class's virtual time, or at its own last finish where that is larger; one that has more
  -- to send after an end starts at its last finish. 0 at first.
  pub start_tag : List Seen → Child → ℕ
  start_tag [] x = 0
  start_tag (gets y ∷ es) x = cond (same y x) (max (virtual_time es) (last_finish es x)) (start_tag es x)
  start_tag (begins y cost ∷ es) x = start_tag es x
  start_tag (ends y more left ∷ es) x = cond (same y x && more) (last_finish es x) (start_tag es x)

  -- A child's finish is settled when a packet below it is begun: its start and what that packet costs it. 0 at first.
  pub last_finish : List Seen → Child → ℕ
  last_finish [] x = 0
  last_finish (gets y ∷ es) x = last_finish es x
  last_finish (begins y cost ∷ es) x = cond (same y x) (start_tag es x + cost) (last_finish es x)
  last_finish (ends y more left ∷ es) x = last_finish es x

  -- The virtual time of the class: at a begin, the start of the child taken; at an end that leaves nothing to send below the class, which is the
  -- end of its busy period, the largest finish of all that ended; else as before. 0 at first.
  pub virtual_time : List Seen → ℕ
  virtual_time [] = 0
  virtual_time (gets y ∷ es) = virtual_time es
  virtual_time (begins y cost ∷ es) = start_tag es y
  virtual_time (ends y more left ∷ es) = cond left (virtual_time es) (max (last_finish es y) (largest_ended es))

  -- The largest finish of all children that had a packet ended.
  pub largest_ended : List Seen → ℕ
  largest_ended [] = 0
  largest_ended (gets y ∷ es) = largest_ended es
  largest_ended (begins y cost ∷ es) = largest_ended es
  largest_ended (ends y more left ∷ es) = max (last_finish es y) (largest_ended es)

-- of two children that start alike a class goes before a flow, and among classes, or among flows, the lower number before the higher
abbrev pub lower : Child → Child → Bool
lower (a_class j) (a_class k) = ltb j k
lower (a_class j) (a_flow f) = true
lower (a_flow g) (a_class k) = false
lower (a_flow g) (a_flow f) = ltb g f

-- the child y goes before the child x: it starts earlier, or alike and is the lower
abbrev pub comes_before : List Seen → Child → Child → Bool
comes_before es y x = ltb (start_tag es y) (start_tag es x) || (eqb (start_tag es y) (start_tag es x) && lower y x)
