-- `set_up` meets its contract: where the tree is refused, the description starts anew and the lane is as it was.
use Rattle.std.proofs.Common.{◌∙◌}
use Rattle.class_desk.proofs.Cases.{starts_over}
use Rattle.class_desk.proofs.Desk.set_up.Goals as goal

pub returns-in-Err : goal.returns-in-Err
returns-in-Err c =
    c.replies-in-Err.ensures
    ∙ starts_over c.args.self c.set_up-planted.result c.set_up-planted.ensures c.in-Err.refusal c.in-Err.is c.no_plan-none.result c.no_plan-none.ensures
