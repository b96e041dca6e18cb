-- What shuts each wrong lane out: calls after which its begin is answered otherwise than by the class lane, and not as the rules settle it.
use Rattle.std.specs.Prelude.{◌≡◌, List, [], ◌∷◌, ◌++◌}
use Rattle.units.specs.Answers.{Told}
use Rattle.plans.specs.declared.Plan.{Plan}
use Rattle.classes.specs.declared.Call.{Call}
use Rattle.classes.specs.declared.Call.TheVariants.{Open, Offer, Begin, End}
use Rattle.classes.specs.Answers.{told}
use Rattle.promises_classes.specs.Promised.{BeginSettled}
use Rattle.promises_classes.specs.Run.{answer_to}
use Rattle.class_cases.specs.Table.{served, begun}
use Rattle.class_cases.specs.Fans.{fans_plan, double_plan}
use Rattle.class_cases.specs.Ways.{deep_plan}
use Rattle.class_cases.specs.Parts.{Parts, ran_by, begin_by}
use Rattle.class_cases.specs.Wrong.{root_stands, deep_wrong, forgets_start, time_kept, weight_ignored, flow_first, starts_at_time, last_ended, last_finish_forgotten, root_time_only}

-- A wrong lane is shut out by calls on a tree: a begin after them tells one thing by the class lane and another by the wrong one, and that is not
-- how the rules settle it, by the wrong lane's own calls and answers.
pub record ShutBy (w : Parts) (p : Plan) (calls : List Call) (good bad : Told) : Type 0 where
  pub lane : told (answer_to p calls Begin) ≡ good
  pub wrong : told (begin_by w p calls) ≡ bad
  pub apart : good ≡ bad → ⊥
  pub unsettled : BeginSettled p (ran_by w p calls).history (begin_by w p calls) → ⊥

-- Each wrong lane is shut out.
pub record ShutOut : Type 0 where
  -- flow 3 in the root comes after class 1 has sent one byte there
  pub root_stands_lem :
      ShutBy root_stands fans_plan (Open 0 1 ∷ Open 3 1 ∷ Offer 0 1 ∷ served 1 ++ Offer 3 1 ∷ []) (begun 3 0 1 720720) (begun 3 0 1 0)
  -- below class 2, at depth 3, flow 0 is in class 3, and flow 1 is a child
  pub deep_wrong_lem : ShutBy deep_wrong deep_plan (Open 0 1 ∷ Open 1 1 ∷ Offer 0 1 ∷ Offer 1 1 ∷ []) (begun 0 0 1 0) (begun 1 0 1 0)
  -- class 2 gets something to send while flow 3 is in service, at a root's v of 720,720, and class 1 after that: both start there, and class 1
  -- goes first
  pub forgets_start_lem :
      ShutBy forgets_start fans_plan
      (Open 0 1 ∷ Open 2 1 ∷ Open 3 1 ∷ Offer 3 1 ∷ Offer 3 1 ∷ served 1 ++ Begin ∷ Offer 2 1 ∷ End ∷ Offer 0 1 ∷ [])
      (begun 0 0 1 0) (begun 2 0 1 0)
  -- flow 1 comes to class 1 after that drained at 720,720
  pub time_kept_lem :
      ShutBy time_kept fans_plan (Open 0 1 ∷ Open 1 1 ∷ Offer 0 1 ∷ served 1 ++ Offer 1 1 ∷ []) (begun 1 0 1 720720) (begun 1 0 1 0)
  -- one byte moves class 1, of weight 2, by 360,360, where flow 2 starts after it
  pub weight_ignored_lem :
      ShutBy weight_ignored double_plan (Open 0 1 ∷ Open 2 1 ∷ Offer 0 1 ∷ served 1 ++ Offer 2 1 ∷ []) (begun 2 0 1 360360) (begun 2 0 1 720720)
  -- class 1 and flow 3 start alike in the root
  pub flow_first_lem : ShutBy flow_first fans_plan (Open 0 1 ∷ Open 3 1 ∷ Offer 0 1 ∷ Offer 3 1 ∷ []) (begun 0 0 1 0) (begun 3 0 1 0)
  -- the second byte of flow 0 starts where the first finished
  pub starts_at_time_lem : ShutBy starts_at_time fans_plan (Open 0 1 ∷ Offer 0 1 ∷ Offer 0 1 ∷ served 1) (begun 0 1 1 720720) (begun 0 1 1 0)
  -- in class 1 flow 0 finishes at 1,441,440, and flow 1 after it at 720,720
  pub last_ended_lem :
      ShutBy last_ended fans_plan (Open 0 1 ∷ Open 1 1 ∷ Offer 0 2 ∷ Offer 1 1 ∷ served 2 ++ Offer 1 1 ∷ []) (begun 1 1 1 1441440) (begun 1 1 1 720720)
  -- flow 0 comes back to class 1, where it finished at 720,720, while flow 1 starts at 0
  pub last_finish_forgotten_lem :
      ShutBy last_finish_forgotten fans_plan (Open 0 1 ∷ Open 1 1 ∷ Offer 0 1 ∷ Offer 1 1 ∷ served 1 ++ Offer 0 1 ∷ []) (begun 1 0 1 0) (begun 0 1 1 0)
  -- the root's v is 720,720 when flow 2 comes to class 2, whose own v is 0
  pub root_time_only_lem :
      ShutBy root_time_only fans_plan (Open 0 1 ∷ Open 2 1 ∷ Offer 0 1 ∷ served 1 ++ Offer 2 1 ∷ []) (begun 2 0 1 0) (begun 2 0 1 720720)
