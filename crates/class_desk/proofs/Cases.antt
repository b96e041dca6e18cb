-- Each case of what a command gives, from the tests that lead to it.
use mathlib.Core.Path.{◌≡◌, refl, sym, ap, ◌∙◌}
use mathlib.Core.Bool.{Bool, true, false, cond}
use Rattle.units.specs.declared.Refusal.{Refusal}
use Rattle.plans.specs.declared.Plan.{Plan}
use Rattle.plans.specs.Plans.{broken}
use Rattle.std.specs.Prelude.{Result, Ok, Err}
use Rattle.planting.specs.declared.Planted as planting
use Rattle.planting.specs.SetUp.{set_up_of}
use Rattle.planting.proofs.Laws.{set_up_broken, set_up_whole}
use Rattle.classes.specs.Lane.{lane_of}
use Rattle.class_desk.specs.declared.Desk.{Desk}
use Rattle.class_desk.specs.declared.Command.{Command}
use Rattle.class_desk.specs.declared.Command.TheVariants.{SetUp}
use Rattle.class_desk.specs.declared.Reply.TheVariants.{Noted, Refused}
use Rattle.class_desk.specs.Desk.{no_plan, describing, settled, hear_first, hear_then, hear_of}

-- setting up, t being what it gave
module _ (d : Desk) (t : planting.Planted) (e : t ≡ set_up_of d.lane d.plan) where
  -- by the answer
  settled_by : (a : Result (Unit {0}) Refusal) → t.answer ≡ a → settled d t.lane a ≡ hear_first d SetUp
  settled_by a q = ap (settled d t.lane) (sym q) ∙ ap (λ (x : planting.Planted). settled d x.lane x.answer) e

  pub desk_ready : t.answer ≡ Ok tt → record { desk = record { ready = true; plan = d.plan; lane = t.lane }; reply = Noted } ≡ hear_first d SetUp
  desk_ready q = settled_by (Ok tt) q

  pub starts_anew : (r : Refusal) → t.answer ≡ Err r → (none : Plan) → none ≡ no_plan
      → record { desk = describing d none; reply = Refused r } ≡ hear_first d SetUp
  starts_anew r q none n = rw n (settled_by (Err r) q)

  -- the lane that a refused setting up hands back is the desk's
  same_lane : (r : Refusal) → t.answer ≡ Err r → t.lane ≡ d.lane
  same_lane r q = ap (λ (x : planting.Planted). x.lane) e ∙ go (broken d.plan) refl
    where
      go : (b : Bool) → broken d.plan ≡ b → (set_up_of d.lane d.plan).lane ≡ d.lane
      go true p = ap (λ (x : planting.Planted). x.lane) (sym (set_up_broken d.lane d.plan p))
      go false p =
          let a : Ok tt ≡ (set_up_of d.lane d.plan).answer =
          ap (λ (x : planting.Planted). x.answer) (set_up_whole d.lane d.plan p (lane_of d.plan) refl) in
          let b : (set_up_of d.lane d.plan).answer ≡ Err r = ap (λ (x : planting.Planted). x.answer) (sym e) ∙ q in
          cc (a ∙ b)

  pub starts_over : (r : Refusal) → t.answer ≡ Err r → (none : Plan) → none ≡ no_plan
      → record { desk = record { ready = false; plan = none; lane = t.lane }; reply = Refused r } ≡ hear_first d SetUp
  starts_over r q none n = rw (same_lane r q) (starts_anew r q none n)

-- a command after the tree is set up, and before
module _ (d : Desk) (command : Command) where
  pub hears_then : d.ready ≡ true → hear_then d command ≡ hear_of d command
  unfolding hear_of
  hears_then e = ap (λ (b : Bool). cond b (hear_then d command) (hear_first d command)) (sym e)

  pub hears_first : d.ready ≡ false → hear_first d command ≡ hear_of d command
  unfolding hear_of
  hears_first e = ap (λ (b : Bool). cond b (hear_then d command) (hear_first d command)) (sym e)
