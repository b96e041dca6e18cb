-- Sessions worked by hand in the classes below the root: a class of another weight at depth 3, a class that comes back while the one above it is
-- busy, and a flow that is closed and opened again while its class is. A byte costs 720,720 by weight 1.
use Rattle.std.specs.Prelude.{[], ◌∷◌, ◌++◌}
use Rattle.plans.specs.declared.Plan.{Plan}
use Rattle.classes.specs.declared.Call.TheVariants.{Open, Close, Offer, Begin, End}
use Rattle.class_cases.specs.Table.{Case, Answered, plan_of, served, ok, taken, begun, ended}
use Rattle.class_cases.specs.Fans.{fans_plan}

-- class 1 below the root; classes 2, of weight 2, and 3 below class 1; class 4 below the root; flows 0 and 1 in class 2, flow 2 in class 3
abbrev pub inner_plan : Plan
inner_plan = plan_of (0 ∷ 0 ∷ 1 ∷ 1 ∷ 0 ∷ []) (1 ∷ 1 ∷ 2 ∷ 1 ∷ 1 ∷ []) (2 ∷ 2 ∷ 3 ∷ 4 ∷ [])

-- In class 1, class 2 starts at 0 with flow 0's three bytes and at 1,081,080 with flow 1's two, which came meanwhile and start at class 2's v, 0; then
-- it would start at 1,801,800. Class 3 gets something to send while class 2 is in service at class 1's v of 1,081,080, starts there and so goes
-- first. Flow 1's next three bytes come while class 2's v is 0, and start at its last finish, 1,441,440, before flow 0's second packet, which
-- starts at 2,162,160 and goes when flow 1's third comes after it. Class 3, with more to send, starts at its last finish, 3,243,240, after both.
abbrev pub inner : Case
inner =
    record {
      plan = inner_plan;
      calls =
          Open 0 1 ∷ Open 1 1 ∷ Open 2 1 ∷ Offer 0 3 ∷ Offer 0 3 ∷ Begin ∷ Offer 1 2 ∷ End ∷ Begin ∷ Offer 2 3 ∷ End ∷ Begin
          ∷ Offer 1 3 ∷ Offer 0 2 ∷ Offer 2 2 ∷ End ∷ Begin ∷ End ∷ Offer 1 3 ∷ Begin ∷ [];
      expected =
          ok ∷ ok ∷ ok ∷ taken 0 ∷ taken 1
          ∷ begun 0 0 3 0
          ∷ taken 0
          ∷ ended 0 0 3
          ∷ begun 1 0 2 0
          ∷ taken 0
          ∷ ended 1 0 2
          ∷ begun 2 0 3 0
          ∷ taken 1 ∷ taken 2 ∷ taken 1
          ∷ ended 2 0 3
          ∷ begun 1 1 3 1441440
          ∷ ended 1 1 3
          ∷ taken 2
          ∷ begun 0 1 3 2162160
          ∷ [];
    }

-- Class 2 drains with flow 1's three bytes: its v goes on to 2,162,160, and in class 1 it finished at 1,081,080. Class 1 is busy with class 3, at v 0,
-- when class 2 comes back: it starts there at its last finish, after class 3, and flow 0 in it at its v.
abbrev pub returning : Case
returning =
    record {
      plan = inner_plan;
      calls =
          Open 0 1 ∷ Open 1 1 ∷ Open 2 1 ∷ Offer 1 3 ∷ Offer 2 2 ∷ Begin ∷ End ∷ Offer 0 2 ∷ Begin ∷ Offer 0 3 ∷ End ∷ Begin ∷ [];
      expected =
          ok ∷ ok ∷ ok ∷ taken 0 ∷ taken 0
          ∷ begun 1 0 3 0
          ∷ ended 1 0 3
          ∷ taken 0
          ∷ begun 2 0 2 0
          ∷ taken 1
          ∷ ended 2 0 2
          ∷ begun 0 0 2 2162160
          ∷ [];
    }

-- Flow 0's three bytes finish at 2,162,160 in class 1, where flow 1 has two packets of one byte to send and v is 0. Closed and opened again, flow 0
-- goes on from its last finish: after both.
abbrev pub reopened : Case
reopened =
    record {
      plan = fans_plan;
      calls =
          Open 0 1 ∷ Open 1 1 ∷ Offer 0 3 ∷ Offer 1 1 ∷ Offer 1 1
          ∷ served 1 ++ Close 0 ∷ Open 0 1 ∷ Offer 0 1 ∷ served 2 ++ Begin ∷ [];
      expected =
          ok ∷ ok ∷ taken 0 ∷ taken 0 ∷ taken 1
          ∷ begun 0 0 3 0
          ∷ ended 0 0 3
          ∷ ok ∷ ok ∷ taken 1
          ∷ begun 1 0 1 0
          ∷ ended 1 0 1
          ∷ begun 1 1 1 720720
          ∷ ended 1 1 1
          ∷ begun 0 1 1 2162160
          ∷ [];
    }

-- Each is answered as it should be.
pub record Inner : Type 0 where
  pub inner : Answered inner
  pub returning : Answered returning
  pub reopened : Answered reopened
