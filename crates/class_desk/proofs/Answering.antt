-- Setting up by the rules of a tree, and the calls of a desk that is set up.
use mathlib.Core.Path.{◌≡◌, refl, sym, ap, ◌∙◌}
use mathlib.Core.Bool.{true}
use mathlib.Core.List.{List, [], ◌∷◌, map}
use Rattle.plans.proofs.Rules.{rules_kept}
use Rattle.classes.specs.declared.Call.{Call}
use Rattle.classes.specs.Lane.{lane_of}
use Rattle.classes.specs.Calls.{call_of, answers}
use Rattle.planting.proofs.Laws.{set_up_broken, set_up_whole}
use Rattle.planting.proofs.Rightly.{unfit_broken}
use Rattle.class_desk.specs.declared.Desk.{Desk}
use Rattle.class_desk.specs.declared.Command.TheVariants.{SetUp, Ask}
use Rattle.class_desk.specs.declared.Reply.{Reply}
use Rattle.class_desk.specs.declared.Reply.TheVariants.{Answered}
use Rattle.class_desk.specs.declared.Heard.{Heard}
use Rattle.class_desk.specs.Desk.{no_plan, asked, hear_of}
use Rattle.class_desk.specs.Laws.{SetsUpAsTold, desk_after, replies_to, AsksAnswered}
use Rattle.class_desk.proofs.Cases.{desk_ready, starts_anew, hears_then, hears_first}

pub sets_up_as_told : SetsUpAsTold
sets_up_as_told d e =
    record {
      kept = λ ok. sym (desk_ready d _ (set_up_whole d.lane d.plan (rules_kept d.plan ok) (lane_of d.plan) refl) refl ∙ hears_first d SetUp e);
      broke = λ unfit. sym (starts_anew d _ (set_up_broken d.lane d.plan (unfit_broken d.plan unfit)) _ refl no_plan refl ∙ hears_first d SetUp e);
    }

-- one call of a desk that is set up
asks : (d : Desk) → d.ready ≡ true → (call : Call) → hear_of d (Ask call) ≡ asked d (call_of d.lane call)
asks d e call = sym (hears_then d (Ask call) e)

pub asks_answered : AsksAnswered
unfolding desk_after replies_to answers
asks_answered d e [] = record { told = refl; ready = e; plan = refl }
asks_answered d e (call ∷ calls) =
    let one = asks d e call in
    let rest = asks_answered (asked d (call_of d.lane call)).desk e calls in
    record {
      told =
          ap (λ (h : Heard). h.reply ∷ replies_to h.desk (map Ask calls)) one
          ∙ ap (λ (rs : List Reply). Answered (call_of d.lane call).answer ∷ rs) rest.told;
      ready = ap (λ (h : Heard). (desk_after h.desk (map Ask calls)).ready) one ∙ rest.ready;
      plan = ap (λ (h : Heard). (desk_after h.desk (map Ask calls)).plan) one ∙ rest.plan;
    }
