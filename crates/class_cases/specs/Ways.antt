-- Sessions worked by hand: a class before a flow, a flow below four classes, every refusal but 6, and a tree of one class.
use Rattle.std.specs.Prelude.{◌≡◌, [], ◌∷◌, ◌++◌, map, replicate}
use Rattle.packets.specs.declared.Answer.{Answer as FairAnswer}
use Rattle.fair.specs.Lane.{fresh_lane}
use Rattle.plans.specs.declared.Plan.{Plan}
use Rattle.plans.specs.Numbered.{list_from}
use Rattle.classes.specs.declared.Call.TheVariants.{Open, Close, Offer, Begin, End}
use Rattle.classes.specs.Answers.{told}
use Rattle.one_class.specs.OneClass.{fair_answers, as_class}
use Rattle.class_cases.specs.Table.{Case, Answered, plan_of, served, ok, no, taken, begun, ended}
use Rattle.class_cases.specs.Fans.{fans_plan}

-- Flow 0 hangs from the root, and flow 1 from class 1. In the root both flow 0 and class 1 start at 0: the class goes first, though the flow's
-- number is lower and its packet came earlier.
abbrev pub tie : Case
tie =
    record {
      plan = plan_of (0 ∷ 0 ∷ []) (1 ∷ 1 ∷ []) (0 ∷ 1 ∷ []);
      calls = Open 0 1 ∷ Open 1 1 ∷ Offer 0 3 ∷ Offer 1 2 ∷ served 2;
      expected =
          ok ∷ ok ∷ taken 0 ∷ taken 0
          ∷ begun 1 0 2 0
          ∷ ended 1 0 2
          ∷ begun 0 0 3 0
          ∷ ended 0 0 3
          ∷ [];
    }

-- class 1 below the root, class 2 below class 1, class 3 below class 2, with a flow each: 0 in class 3, 1 in class 2, 2 in class 1, 3 in the root
abbrev pub deep_plan : Plan
deep_plan = plan_of (0 ∷ 0 ∷ 1 ∷ 2 ∷ []) (1 ∷ 1 ∷ 1 ∷ 1 ∷ []) (3 ∷ 2 ∷ 1 ∷ 0 ∷ [])

-- Two packets of one byte of each flow. In the root, in class 1 and in class 2 a class and a flow take turns, the class first, while the flow has
-- any: so every other packet is flow 3's, of the others every other one flow 2's, and of the rest flow 1's. In its own class each flow starts
-- its second packet at 720,720, where the first finished.
abbrev pub deep : Case
deep =
    record {
      plan = deep_plan;
      calls =
          Open 0 1 ∷ Open 1 1 ∷ Open 2 1 ∷ Open 3 1
          ∷ replicate 2 (Offer 0 1) ++ replicate 2 (Offer 1 1) ++ replicate 2 (Offer 2 1) ++ replicate 2 (Offer 3 1) ++ served 8;
      expected =
          ok ∷ ok ∷ ok ∷ ok ∷ taken 0 ∷ taken 1 ∷ taken 0 ∷ taken 1 ∷ taken 0 ∷ taken 1 ∷ taken 0 ∷ taken 1
          ∷ begun 0 0 1 0
          ∷ ended 0 0 1
          ∷ begun 3 0 1 0
          ∷ ended 3 0 1
          ∷ begun 2 0 1 0
          ∷ ended 2 0 1
          ∷ begun 3 1 1 720720
          ∷ ended 3 1 1
          ∷ begun 1 0 1 0
          ∷ ended 1 0 1
          ∷ begun 2 1 1 720720
          ∷ ended 2 1 1
          ∷ begun 0 1 1 720720
          ∷ ended 0 1 1
          ∷ begun 1 1 1 720720
          ∷ ended 1 1 1
          ∷ [];
    }

-- Each refusal but 6. Flow 0's two bytes finish at 1,441,440 in class 1, which drains there. Closed and opened again with weight 2, flow 0 starts
-- there, with number 1, and goes on by 360,360 a byte. Flow 2 has sixteen places.
abbrev pub refusals : Case
refusals =
    record {
      plan = fans_plan;
      calls =
          Begin ∷ End ∷ Offer 0 1 ∷ Close 0 ∷ Open 16 1 ∷ Open 0 17 ∷ Open 0 1 ∷ Open 0 1 ∷ Offer 0 1501 ∷ Offer 0 2 ∷ Close 0 ∷ Begin
          ∷ Begin ∷ Close 0 ∷ End ∷ Close 0 ∷ Open 0 2 ∷ Offer 0 1 ∷ Offer 0 1
          ∷ served 2 ++ Open 2 1 ∷ replicate 17 (Offer 2 1);
      expected =
          no 9 ∷ no 10 ∷ no 2 ∷ no 2 ∷ no 1 ∷ no 13 ∷ ok ∷ no 3 ∷ no 15 ∷ taken 0 ∷ no 12 ∷ begun 0 0 2 0
          ∷ no 8 ∷ no 12 ∷ ended 0 0 2 ∷ ok ∷ ok ∷ taken 1 ∷ taken 2
          ∷ begun 0 1 1 1441440
          ∷ ended 0 1 1
          ∷ begun 0 2 1 1801800
          ∷ ended 0 2 1
          ∷ ok
          ∷ list_from taken 0 16 ++ no 5 ∷ [];
    }

-- The rules' case B in a tree of one class, of weight 5: 100 bytes finish at 72,072,000 by weight 1, and 100 and 100 at 36,036,000 and 72,072,000
-- by weight 2. The root drains at 72,072,000, where flow 2's packet starts.
abbrev pub B : Case
B =
    record {
      plan = plan_of (0 ∷ []) (5 ∷ []) [];
      calls =
          Open 0 1 ∷ Open 1 2 ∷ Offer 0 100 ∷ Offer 1 100 ∷ Offer 1 100 ∷ served 3 ++ Open 2 1 ∷ Offer 2 1 ∷ Begin ∷ [];
      expected =
          ok ∷ ok ∷ taken 0 ∷ taken 0 ∷ taken 1
          ∷ begun 0 0 100 0
          ∷ ended 0 0 100
          ∷ begun 1 0 100 0
          ∷ ended 1 0 100
          ∷ begun 1 1 100 36036000
          ∷ ended 1 1 100
          ∷ ok
          ∷ taken 0
          ∷ begun 2 0 1 72072000
          ∷ [];
    }

-- Each is answered as it should be; case B as the fair lane answers it, but for the tags of its offers.
pub record Ways : Type 0 where
  pub tie : Answered tie
  pub deep : Answered deep
  pub refusals : Answered refusals
  pub case_b : Answered B
  pub fair : map (λ (a : FairAnswer). told (as_class a)) (fair_answers fresh_lane B.calls) ≡ B.expected
