-- Sessions of two fans, worked by hand. A byte costs 720,720 at weight 1, and 360,360 at weight 2. The v of a class is its virtual time.
use Rattle.std.specs.Prelude.{[], ◌∷◌, ◌++◌, replicate}
use Rattle.plans.specs.declared.Plan.{Plan}
use Rattle.classes.specs.declared.Call.TheVariants.{Open, Offer, Begin}
use Rattle.class_cases.specs.Table.{Case, Answered, plan_of, served, ok, no, taken, begun, ended}

-- classes 1 and 2 below the root, all of weight 1; flows 0 and 1 in class 1, flow 2 in class 2, the others in the root
abbrev pub fans_plan : Plan
fans_plan = plan_of (0 ∷ 0 ∷ 0 ∷ []) (1 ∷ 1 ∷ 1 ∷ []) (1 ∷ 1 ∷ 2 ∷ [])

-- Packets of one byte: two of flow 0, two of flow 1, four of flow 2. In the root classes 1 and 2 both start at 0 and go on by 720,720 at each
-- begin, and of equal starts class 1's goes first: they take turns, so that flow 2 has every other packet. In class 1 flows 0 and 1 do likewise.
abbrev pub halves : Case
halves =
    record {
      plan = fans_plan;
      calls =
          Open 0 1 ∷ Open 1 1 ∷ Open 2 1
          ∷ replicate 2 (Offer 0 1) ++ replicate 2 (Offer 1 1) ++ replicate 4 (Offer 2 1) ++ served 8 ++ Begin ∷ [];
      expected =
          ok ∷ ok ∷ ok ∷ taken 0 ∷ taken 1 ∷ taken 0 ∷ taken 1 ∷ taken 0 ∷ taken 1 ∷ taken 2 ∷ taken 3
          ∷ begun 0 0 1 0
          ∷ ended 0 0 1
          ∷ begun 2 0 1 0
          ∷ ended 2 0 1
          ∷ begun 1 0 1 0
          ∷ ended 1 0 1
          ∷ begun 2 1 1 720720
          ∷ ended 2 1 1
          ∷ begun 0 1 1 720720
          ∷ ended 0 1 1
          ∷ begun 2 2 1 1441440
          ∷ ended 2 2 1
          ∷ begun 1 1 1 720720
          ∷ ended 1 1 1
          ∷ begun 2 3 1 2162160
          ∷ ended 2 3 1
          ∷ no 9
          ∷ [];
    }

-- class 1 of weight 2, class 2 of weight 1, with a flow each, 0 and 1
abbrev pub double_plan : Plan
double_plan = plan_of (0 ∷ 0 ∷ 0 ∷ []) (1 ∷ 2 ∷ 1 ∷ []) (1 ∷ 2 ∷ [])

-- In the root class 1 goes on by 360,360 at each begin, and class 2 by 720,720. Class 1 starts at 0, 360,360, 720,720 and 1,081,080, class 2 at 0
-- and 720,720: flow 0 sends four packets while flow 1 sends two. In its own class each flow goes on by 720,720.
abbrev pub double : Case
double =
    record {
      plan = double_plan;
      calls = Open 0 1 ∷ Open 1 1 ∷ replicate 4 (Offer 0 1) ++ replicate 2 (Offer 1 1) ++ served 6;
      expected =
          ok ∷ ok ∷ taken 0 ∷ taken 1 ∷ taken 2 ∷ taken 3 ∷ taken 0 ∷ taken 1
          ∷ begun 0 0 1 0
          ∷ ended 0 0 1
          ∷ begun 1 0 1 0
          ∷ ended 1 0 1
          ∷ begun 0 1 1 720720
          ∷ ended 0 1 1
          ∷ begun 0 2 1 1441440
          ∷ ended 0 2 1
          ∷ begun 1 1 1 720720
          ∷ ended 1 1 1
          ∷ begun 0 3 1 2162160
          ∷ ended 0 3 1
          ∷ [];
    }

-- In class 1 flow 0's three bytes finish at 2,162,160 and flow 1's two at 1,441,440, and those end last: with nothing more below it class 1's v goes
-- on to 2,162,160. The root is busy with flow 2, whose packets of two bytes start class 2 at 0, 1,441,440 and 2,882,880. Flow 1's next packet
-- starts at 2,162,160 in class 1, and class 1 at its last finish in the root, 3,603,600, and not at the root's v, 2,162,160: class 2 goes before it.
abbrev pub drained : Case
drained =
    record {
      plan = fans_plan;
      calls =
          Open 0 1 ∷ Open 1 1 ∷ Open 2 1 ∷ Offer 0 3 ∷ Offer 1 2 ∷ Offer 2 2 ∷ Offer 2 2 ∷ Offer 2 2
          ∷ served 4 ++ Offer 1 1 ∷ served 2;
      expected =
          ok ∷ ok ∷ ok ∷ taken 0 ∷ taken 0 ∷ taken 0 ∷ taken 1 ∷ taken 2
          ∷ begun 0 0 3 0
          ∷ ended 0 0 3
          ∷ begun 2 0 2 0
          ∷ ended 2 0 2
          ∷ begun 2 1 2 1441440
          ∷ ended 2 1 2
          ∷ begun 1 0 2 0
          ∷ ended 1 0 2
          ∷ taken 1
          ∷ begun 2 2 2 2882880
          ∷ ended 2 2 2
          ∷ begun 1 1 1 2162160
          ∷ ended 1 1 1
          ∷ [];
    }

-- Each is answered as it should be.
pub record Fans : Type 0 where
  pub halves : Answered halves
  pub double : Answered double
  pub drained : Answered drained
