-- What is told of a tree, command by command, is noted, and the desk holds it. A description grows: what it had it keeps, and the classes that
-- are told stand behind those that it had.
use mathlib.Core.Path.{◌≡◌, refl, sym, ap, ◌∙◌, subst}
use mathlib.Core.Bool.{Bool, true, false, not, cond, false≢true}
use mathlib.Core.List.{List, [], ◌∷◌}
use Prim.Native.Nat.{ℕ, zero, suc, ◌+◌, ◌≤◌, ◌<◌, min}
use native.Mathlib.Omega.{arith}
use native.Mathlib.Nat.{min-eq_left, min-eq_right}
use borrow.Author.Tests.{ltb-true, ltb-false, eqb-true, eqb-false}
use lib.Dec.{ltb, eqb}
use lib.ListN.{length, get_or, set, replicate, length-set, get_or-replicate}
use lib.Seq.{get_or-set_same, get_or-set_other}
use Rattle.units.specs.Limits.{no_such_flow}
use Rattle.units.specs.declared.Refusal.TheVariants.{NoSuchFlow}
use Rattle.places.proofs.Tests.{and_told}
use Rattle.plans.specs.declared.Plan.{Plan}
use Rattle.plans.specs.Plans.{parent_in, weight_in, class_in}
use Rattle.class_desk.specs.declared.Desk.{Desk}
use Rattle.class_desk.specs.declared.Command.{Command}
use Rattle.class_desk.specs.declared.Command.TheVariants.{Class, Hang, SetUp, Ask}
use Rattle.class_desk.specs.declared.Reply.{Reply}
use Rattle.class_desk.specs.declared.Reply.TheVariants.{Noted}
use Rattle.class_desk.specs.declared.Heard.{Heard}
use Rattle.class_desk.specs.Desk.{no_plan, fresh_desk, class_more, hung, describing, noted, refused, hear_of}
use Rattle.class_desk.specs.Laws.{desk_after, replies_to, describes, all_describe, classes_in, hung_in, Holds, Described}
use Rattle.class_desk.proofs.Cases.{hears_first}

-- a description with one command more
told : Plan → Command → Plan
told p (Class parent weight) = class_more p parent weight
told p (Hang flow class) = hung p flow class
told p SetUp = p
told p (Ask call) = p

-- and with all commands of a list
plan_after : Plan → List Command → Plan
plan_after p [] = p
plan_after p (command ∷ commands) = plan_after (told p command) commands

-- a command that describes is noted
notes : (d : Desk) → d.ready ≡ false → (command : Command) → describes command ≡ true → hear_of d command ≡ noted d (told d.plan command)
unfolding told
notes d e (Class parent weight) h = sym (hears_first d (Class parent weight) e)
notes d e (Hang flow class) h = sym (hears_first d (Hang flow class) e) ∙ go (no_such_flow flow) h
  where
    go : (b : Bool) → not b ≡ true → cond b (refused d NoSuchFlow) (noted d (hung d.plan flow class)) ≡ noted d (hung d.plan flow class)
    go true q = absurd (false≢true q)
    go false q = refl
notes d e SetUp h = absurd (false≢true h)
notes d e (Ask call) h = absurd (false≢true h)

-- and so are all of a list
all_noted : (d : Desk) → d.ready ≡ false → (commands : List Command) → all_describe commands ≡ true
    → (replies_to d commands ≡ replicate (length commands) Noted) × (desk_after d commands ≡ describing d (plan_after d.plan commands))
unfolding desk_after replies_to plan_after all_describe
all_noted d e [] h = (refl, ap (λ (b : Bool). record { ready = b; plan = d.plan; lane = d.lane }) e)
all_noted d e (command ∷ commands) h =
    let each = and_told (describes command) (all_describe commands) h in
    let one = notes d e command each.0 in
    let rest = all_noted (describing d (told d.plan command)) refl commands each.1 in (
      ap (λ (h : Heard). h.reply ∷ replies_to h.desk commands) one ∙ ap (λ (rs : List Reply). Noted ∷ rs) rest.0,
      ap (λ (h : Heard). desk_after h.desk commands) one ∙ rest.1,
    )

-- a description of a count that can be told, with its tables whole
record Sized (p : Plan) : Type 0 where
  pub count : p.count ≤ 32
  pub parents : length p.parents ≡ 31
  pub weights : length p.weights ≡ 31
  pub classes : length p.classes ≡ 16

-- a class and its weight
abbrev class_at : Plan → ℕ → ℕ × ℕ
class_at p class = (parent_in p class, weight_in p class)

-- a description q that has grown from p by these classes, and by what its flows were told
record Grown (p q : Plan) (more : List (ℕ × ℕ)) (hangs : ℕ → ℕ → ℕ) : Type 0 where
  pub count : q.count ≡ min 32 (p.count + length more)
  pub kept : (class : ℕ) → class < 31 → class < p.count → class_at q class ≡ class_at p class
  pub grew : (class k : ℕ) → class ≡ p.count + k → class < 31 → k < length more → class_at q class ≡ get_or more k (0, 0)
  pub flows : (flow : ℕ) → flow < 16 → class_in q flow ≡ hangs flow (class_in p flow)

-- two numbers, each by itself
pair : {a b c d : ℕ} → a ≡ c → b ≡ d → ◌≡◌ {A = ℕ × ℕ} (a, b) (c, d)
pair p q = rw (p, q)

-- one class more
module _ (p : Plan) (ok : Sized p) (parent weight : ℕ) where
  -- where there is room for it
  abbrev next : Plan
  next =
      record {
        count = p.count + 1;
        parents = set p.parents p.count parent;
        weights = set p.weights p.count weight;
        classes = p.classes;
      }

  -- and where they are too many
  abbrev past : Plan
  past = record { count = 32; parents = p.parents; weights = p.weights; classes = p.classes }

  by_room : (P : Plan → Type 0) → (p.count < 31 → P next) → (31 ≤ p.count → P past) → P (class_more p parent weight)
  by_room P a b = go (ltb p.count 31) refl
    where
      go : (t : Bool) → ltb p.count 31 ≡ t → P (cond t next past)
      go true q = a (ltb-true p.count 31 q)
      go false q = b (ltb-false p.count 31 q)

  sized_class : Sized (class_more p parent weight)
  sized_class =
      by_room Sized
      (λ l. record {
        count = omega (arith, l);
        parents = length-set p.parents p.count parent ∙ ok.parents;
        weights = length-set p.weights p.count weight ∙ ok.weights;
        classes = ok.classes;
      })
      (λ l. record { count = omega arith; parents = ok.parents; weights = ok.weights; classes = ok.classes })

  -- what grows from it has grown from what was before it
  module _ (q : Plan) (more : List (ℕ × ℕ)) (hangs : ℕ → ℕ → ℕ) where
    grown_next : p.count < 31 → Grown next q more hangs → Grown p q ((parent, weight) ∷ more) hangs
    grown_next l g =
        record {
          count = g.count ∙ ap (min 32) (omega arith);
          kept = λ class a b.
              let other : class ≡ p.count → ⊥ = λ e. omega (arith, e, b) in
              g.kept class a (omega (arith, b))
              ∙ pair (get_or-set_other p.parents p.count class parent 0 other) (get_or-set_other p.weights p.count class weight 0 other);
          grew = at_next;
          flows = g.flows;
        }
      where
        at_next : (class k : ℕ) → class ≡ p.count + k → class < 31 → k < length ((parent, weight) ∷ more)
            → class_at q class ≡ get_or ((parent, weight) ∷ more) k (0, 0)
        at_next class zero e a b =
            let here : class ≡ p.count = omega (arith, e) in
            g.kept class a (omega (arith, e))
            ∙ ap (class_at next) here
            ∙ pair (get_or-set_same p.parents p.count parent 0 (omega (arith, l, ok.parents)))
            (get_or-set_same p.weights p.count weight 0 (omega (arith, l, ok.weights)))
        at_next class (suc k) e a b = g.grew class k (omega (arith, e)) a (omega (arith, b))

    grown_past : 31 ≤ p.count → Grown past q more hangs → Grown p q ((parent, weight) ∷ more) hangs
    grown_past l g =
        record {
          count = g.count ∙ min-eq_left (omega arith) ∙ sym (min-eq_left (omega (arith, l)));
          kept = λ class a b. g.kept class a (omega (arith, a));
          grew = λ class k e a b. absurd (omega (arith, e, a, l));
          flows = g.flows;
        }

    grown_class : Grown (class_more p parent weight) q more hangs → Grown p q ((parent, weight) ∷ more) hangs
    grown_class = by_room (λ (x : Plan). Grown x q more hangs → Grown p q ((parent, weight) ∷ more) hangs) grown_next grown_past

-- the class of a flow after one flow is hung
hung_at : (p : Plan) → Sized p → (flow class other : ℕ) → other < 16 → class_in (hung p flow class) other ≡ cond (eqb other flow) class (class_in p other)
hung_at p ok flow class other l = go (eqb other flow) refl
  where
    go : (t : Bool) → eqb other flow ≡ t → class_in (hung p flow class) other ≡ cond t class (class_in p other)
    go true q =
        let here : other ≡ flow = eqb-true other flow q in
        ap (λ (n : ℕ). get_or (set p.classes n class) other 0) (sym here)
        ∙ get_or-set_same p.classes other class 0 (omega (arith, l, ok.classes))
    go false q = get_or-set_other p.classes flow other class 0 (eqb-false other flow q)

-- all commands of a list
grown : (p : Plan) → Sized p → (commands : List Command)
    → Grown p (plan_after p commands) (classes_in commands) (λ (flow was : ℕ). hung_in flow was commands)
unfolding told plan_after classes_in hung_in
grown p ok [] =
    record {
      count = sym (min-eq_right (omega (arith, ok.count)) ∙ omega arith);
      kept = λ class a b. refl;
      grew = λ class k e a b. absurd (omega (arith, b));
      flows = λ flow a. refl;
    }
grown p ok (Class parent weight ∷ commands) =
    grown_class p ok parent weight (plan_after (class_more p parent weight) commands) (classes_in commands) (λ (flow was : ℕ). hung_in flow was commands)
    (grown (class_more p parent weight) (sized_class p ok parent weight) commands)
grown p ok (Hang flow class ∷ commands) =
    let whole : Sized (hung p flow class) =
    record {
      count = ok.count;
      parents = ok.parents;
      weights = ok.weights;
      classes = length-set p.classes flow class ∙ ok.classes;
    } in
    let g = grown (hung p flow class) whole commands in
    record {
      count = g.count;
      kept = g.kept;
      grew = g.grew;
      flows = λ other a. g.flows other a ∙ ap (λ (n : ℕ). hung_in other n commands) (hung_at p ok flow class other a);
    }
grown p ok (SetUp ∷ commands) = grown p ok commands
grown p ok (Ask call ∷ commands) = grown p ok commands

-- a description that starts from nothing holds what was told
holds : (commands : List Command) → Holds (plan_after no_plan commands) commands
holds commands =
    let g = grown no_plan (record { count = omega arith; parents = refl; weights = refl; classes = refl }) commands in
    record {
      count = g.count ∙ ap (min 32) (omega arith);
      classes = λ class a b. g.grew class class (omega arith) a b;
      flows = λ flow a. g.flows flow a ∙ ap (λ (n : ℕ). hung_in flow n commands) (get_or-replicate 16 flow 31 0 a);
    }

pub described : Described
described commands h =
    let n = all_noted fresh_desk refl commands h in
    record {
      noted = n.0;
      waits = ap (λ (d : Desk). d.ready) n.1;
      holds = subst (λ (d : Desk). Holds d.plan commands) (sym n.1) (holds commands);
    }
