-- A begin at the largest tag, worked by hand in states that are written out, since no session comes so far.
use Rattle.std.specs.Prelude.{◌≡◌, [], ◌∷◌, ℕ, ◌-◌, None, Some}
use Rattle.units.specs.declared.Tag.{Tag}
use Rattle.units.specs.Refusals.{first_of}
use Rattle.units.specs.declared.Refusal.TheVariants.{TagsUsedUp}
use Rattle.tree.specs.declared.Tree.{Tree}
use Rattle.tree.specs.Tree.{node_of, node_at, with_node}
use Rattle.tree.specs.Steps.{with_tags}
use Rattle.ascent.specs.Ascent.{with_times}
use Rattle.classes.specs.declared.Classes.{Classes}
use Rattle.classes.specs.declared.Call.TheVariants.{Open, Offer, Begin, End}
use Rattle.classes.specs.Calls.{refused, call_of}
use Rattle.promises_classes.specs.Events.{opened, accepted}
use Rattle.promises_classes.specs.Refused.{grounds_noted}
use Rattle.promises_classes.specs.Run.{run}
use Rattle.class_cases.specs.Table.{plan_of, told_by, no, taken, begun, ended}
use Rattle.class_cases.specs.Fans.{fans_plan}
use Rattle.class_cases.specs.Ways.{deep_plan}

-- the two fans, where one byte of flow 0 waits
abbrev pub waiting : Classes
waiting = (run fans_plan (Open 0 1 ∷ Open 1 1 ∷ Open 2 1 ∷ Offer 0 1 ∷ [])).lane

-- a child's last finish and its start at a tag, and the v of the class above it where that child's last byte started
abbrev pub worn_tree : ℕ → Tag → Tree → Tree
worn_tree k tag t =
    with_times (with_node t k (with_tags (node_at t k) 1 tag tag)) (node_at t k).parent
    (record { time = record { 0 = tag.0 - 720720 }; largest = tag })

-- a lane where the child at this place starts at this tag
abbrev pub worn_at : Classes → ℕ → ℕ → Classes
worn_at u k tag = record { tree = worn_tree k (record { 0 = tag }) u.tree; queue = u.queue }

-- class 1 would finish in the root one past the largest tag, and at it
abbrev pub past : Classes
past = worn_at waiting 1 4611686018426667185

abbrev pub within : Classes
within = worn_at waiting 1 4611686018426667184

-- flow 0 would finish in class 1 one past it
abbrev pub flow_past : Classes
flow_past = worn_at waiting (node_of 0) 4611686018426667185

-- a byte of the flow below four classes waits, and the one in the middle of its way, class 2, would finish in class 1 one past it
abbrev pub middle_past : Classes
middle_past = worn_at (run deep_plan (Open 0 1 ∷ Offer 0 1 ∷ [])).lane 2 4611686018426667185

-- What is answered there.
pub record Limit : Type 0 where
  -- a begin is refused with 6, at a class, at a flow or at a class in the middle of the way, and nothing changes
  pub six : call_of past Begin ≡ refused past TagsUsedUp
  pub six_of_flow : call_of flow_past Begin ≡ refused flow_past TagsUsedUp
  pub six_of_middle : call_of middle_past Begin ≡ refused middle_past TagsUsedUp
  -- one tag lower it goes through, and class 1 finishes at the largest tag
  pub goes : told_by within (Begin ∷ []) ≡ begun 0 0 1 0 ∷ []
  pub finish : (node_at (call_of within Begin).lane.tree 1).finish.0 ≡ 4611686018427387904
  -- An offer is taken all the same. Flow 2's gives class 2 a start at the root's v, 720,720 lower than class 1's: it goes first, and gets through.
  -- While it is in service a begin is refused with 8, and after it with 6 again.
  pub other :
      told_by past (Begin ∷ Offer 0 1 ∷ Begin ∷ Offer 2 1 ∷ Begin ∷ Begin ∷ End ∷ Begin ∷ [])
      ≡ no 6 ∷ taken 1 ∷ no 6 ∷ taken 0 ∷ begun 2 0 1 0 ∷ no 8 ∷ ended 2 0 1 ∷ no 6 ∷ []
  -- so it is in class 1 where flow 0 would pass: flow 1 starts at the v of class 1, and gets through
  pub beside :
      told_by flow_past (Begin ∷ Offer 1 1 ∷ Begin ∷ End ∷ Begin ∷ [])
      ≡ no 6 ∷ taken 0 ∷ begun 1 0 1 4611686018425946465 ∷ ended 1 0 1 ∷ no 6 ∷ []
  -- By the rules alone, of a length that no packet has: flow 0, of weight 16, is far from the largest tag in class 1; class 1 comes within
  -- 720,720 of it in the root, or passes it.
  pub noted_within : first_of (grounds_noted fans_plan (accepted 0 0 6398720749288 ∷ opened 0 16 ∷ []) Begin) ≡ None
  pub noted_past : first_of (grounds_noted fans_plan (accepted 0 0 6398720749289 ∷ opened 0 16 ∷ []) Begin) ≡ Some TagsUsedUp
  -- so does the middle of three classes, of weight 1 between two of weight 16
  pub noted_middle :
      first_of (grounds_noted (plan_of (0 ∷ 0 ∷ 1 ∷ 2 ∷ []) (1 ∷ 16 ∷ 1 ∷ 16 ∷ []) (3 ∷ [])) (accepted 0 0 6398720749289 ∷ opened 0 16 ∷ []) Begin)
      ≡ Some TagsUsedUp
