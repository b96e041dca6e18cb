-- A desk that is told of a tree, class by class and flow by flow, holds a description that agrees with the tree's: so the lane that it sets up
-- is the tree's.
use mathlib.Core.Path.{◌≡◌, refl, sym, ap, ◌∙◌}
use mathlib.Core.Bool.{Bool, true, false, cond, not, ◌&&◌}
use mathlib.Core.List.{List, [], ◌∷◌, ◌++◌, map, append-nil}
use Prim.Native.Nat.{ℕ, zero, suc, ◌+◌, ◌≤◌, ◌<◌, min}
use native.Mathlib.Omega.{arith}
use native.Mathlib.Nat.{min-eq_right}
use borrow.Author.Tests.{eqb-true, eqb-false, ne_eqb, le-ltb}
use lib.Dec.{eqb}
use lib.ListN.{length, get_or, replicate-append-replicate}
use Rattle.plans.specs.declared.Plan.{Plan}
use Rattle.plans.specs.Numbered.{list_from}
use Rattle.plans.specs.Plans.{Fits, parent_in, weight_in, class_in}
use Rattle.plans.proofs.Numbered.{from_length, from_at}
use Rattle.classes.specs.declared.Classes.{Classes}
use Rattle.classes.specs.Lane.{lane_of}
use Rattle.classes.specs.Calls.{answers}
use Rattle.class_desk.specs.declared.Desk.{Desk}
use Rattle.class_desk.specs.declared.Command.{Command}
use Rattle.class_desk.specs.declared.Command.TheVariants.{Class, Hang, SetUp, Ask}
use Rattle.class_desk.specs.declared.Reply.{Reply}
use Rattle.class_desk.specs.declared.Reply.TheVariants.{Noted, Answered}
use Rattle.class_desk.specs.declared.Heard.{Heard}
use Rattle.class_desk.specs.Desk.{fresh_desk, hear_of}
use Rattle.class_desk.specs.Laws.{desk_after, replies_to, all_describe, classes_in, hung_in, Holds}
use Rattle.class_desk.proofs.Told.{described}
use Rattle.class_desk.proofs.Answering.{sets_up_as_told, asks_answered}
use Rattle.promises_sharing.specs.Told.{telling_of, SharesAsTold}
use Rattle.promises_sharing.proofs.Agree.{Agree, fits_too, same_lane}

-- the desk after commands and more
desk_over : (d : Desk) (first then : List Command) → desk_after d (first ++ then) ≡ desk_after (desk_after d first) then
unfolding desk_after
desk_over d [] then = refl
desk_over d (command ∷ first) then = desk_over (hear_of d command).desk first then

-- and the replies to them
replies_over : (d : Desk) (first then : List Command) → replies_to d (first ++ then) ≡ replies_to d first ++ replies_to (desk_after d first) then
unfolding desk_after replies_to
replies_over d [] then = refl
replies_over d (command ∷ first) then =
    ap (λ (rs : List Reply). (hear_of d command).reply ∷ rs) (replies_over (hear_of d command).desk first then)

-- commands that tell of classes, each of what it hangs from and its weight, and others after them
module _ (parent weight : ℕ → ℕ) (rest : List Command) where
  abbrev classes_from : ℕ → ℕ → List Command
  classes_from k n = list_from (λ (class : ℕ). Class (parent class) (weight class)) k n ++ rest

  -- the classes describe
  classes_describe : (k n : ℕ) → all_describe (classes_from k n) ≡ all_describe rest
  unfolding list_from all_describe
  classes_describe k zero = refl
  classes_describe k (suc n) = classes_describe (suc k) n

  -- they are told in their order
  classes_told : (k n : ℕ) → classes_in (classes_from k n) ≡ list_from (λ (class : ℕ). (parent class, weight class)) k n ++ classes_in rest
  unfolding list_from classes_in
  classes_told k zero = refl
  classes_told k (suc n) = ap (λ (cs : List (ℕ × ℕ)). (parent k, weight k) ∷ cs) (classes_told (suc k) n)

  -- and leave each flow to the commands after them
  classes_hang_none : (flow was k n : ℕ) → hung_in flow was (classes_from k n) ≡ hung_in flow was rest
  unfolding list_from hung_in
  classes_hang_none flow was k zero = refl
  classes_hang_none flow was k (suc n) = classes_hang_none flow was (suc k) n

-- commands that hang flows, each from its class
module _ (class : ℕ → ℕ) where
  abbrev flows_from : ℕ → ℕ → List Command
  flows_from k n = list_from (λ (flow : ℕ). Hang flow (class flow)) k n

  -- the flows that there are describe
  flows_describe : (k n : ℕ) → k + n ≤ 16 → all_describe (flows_from k n) ≡ true
  unfolding list_from all_describe
  flows_describe k zero l = refl
  flows_describe k (suc n) l =
      ap (λ (b : Bool). not b && all_describe (flows_from (suc k) n)) (le-ltb 15 k (omega (arith, l))) ∙ flows_describe (suc k) n (omega (arith, l))

  -- they tell of no class
  flows_tell_none : (k n : ℕ) → classes_in (flows_from k n) ≡ []
  unfolding list_from classes_in
  flows_tell_none k zero = refl
  flows_tell_none k (suc n) = flows_tell_none (suc k) n

  -- a flow below them stays where it hung
  stays : (flow was k n : ℕ) → flow < k → hung_in flow was (flows_from k n) ≡ was
  unfolding list_from hung_in
  stays flow was k zero l = refl
  stays flow was k (suc n) l =
      ap (λ (b : Bool). hung_in flow (cond b (class k) was) (flows_from (suc k) n)) (ne_eqb flow k (λ e. omega (arith, e, l)))
      ∙ stays flow was (suc k) n (omega (arith, l))

  -- and one of them hangs from its class
  hangs : (flow was k n : ℕ) → k ≤ flow → flow < k + n → hung_in flow was (flows_from k n) ≡ class flow
  unfolding list_from hung_in
  hangs flow was k zero a b = absurd (omega (arith, a, b))
  hangs flow was k (suc n) a b = go (hangs flow was (suc k) n) (eqb flow k) refl
    where
      go : (suc k ≤ flow → flow < suc k + n → hung_in flow was (flows_from (suc k) n) ≡ class flow)
          → (t : Bool) → eqb flow k ≡ t → hung_in flow (cond t (class k) was) (flows_from (suc k) n) ≡ class flow
      go later true e =
          let here : flow ≡ k = eqb-true flow k e in stays flow (class k) (suc k) n (omega (arith, here)) ∙ ap class (sym here)
      go later false e = let other : flow ≡ k → ⊥ = eqb-false flow k e in later (omega (arith, other, a)) (omega (arith, b))

module _ (p : Plan) where
  -- what tells of a tree describes
  telling_describes : all_describe (telling_of p) ≡ true
  telling_describes =
      classes_describe (parent_in p) (weight_in p) (flows_from (class_in p) 0 16) 0 p.count ∙ flows_describe (class_in p) 0 16 (omega arith)

  -- the classes of the tree
  abbrev classes_of : List (ℕ × ℕ)
  classes_of = list_from (λ (class : ℕ). (parent_in p class, weight_in p class)) 0 p.count

  -- are those that are told
  telling_classes : classes_in (telling_of p) ≡ classes_of
  telling_classes =
      classes_told (parent_in p) (weight_in p) (flows_from (class_in p) 0 16) 0 p.count
      ∙ ap (λ (cs : List (ℕ × ℕ)). classes_of ++ cs) (flows_tell_none (class_in p) 0 16)
      ∙ append-nil classes_of

  -- the description that holds it agrees with the tree's
  held_agrees : Fits p → (q : Plan) → Holds q (telling_of p) → Agree p q
  held_agrees ok q h =
      record {
        count = h.count ∙ ap (min 32) many ∙ min-eq_right (omega (arith, ok.few));
        parents = λ class l. ap (λ (c : ℕ × ℕ). c.0) (at class l);
        weights = λ class l. ap (λ (c : ℕ × ℕ). c.1) (at class l);
        flows = λ flow l.
            h.flows flow l
            ∙ classes_hang_none (parent_in p) (weight_in p) (flows_from (class_in p) 0 16) flow 31 0 p.count
            ∙ hangs (class_in p) flow 31 0 16 (omega arith) (omega (arith, l));
      }
    where
      many : length (classes_in (telling_of p)) ≡ p.count
      many = ap length telling_classes ∙ from_length (λ (class : ℕ). (parent_in p class, weight_in p class)) 0 p.count

      at : (class : ℕ) → class < p.count → ◌≡◌ {A = ℕ × ℕ} (parent_in q class, weight_in q class) (parent_in p class, weight_in p class)
      at class l =
          h.classes class (omega (arith, l, ok.few)) (omega (arith, l, many))
          ∙ ap (λ (cs : List (ℕ × ℕ)). get_or cs class (0, 0)) telling_classes
          ∙ from_at (λ (class : ℕ). (parent_in p class, weight_in p class)) (0, 0) 0 p.count class l
          ∙ (let e : 0 + class ≡ class = omega arith in ap (λ (n : ℕ). (parent_in p n, weight_in p n)) e)

  -- the desk when it has been told
  abbrev told_desk : Desk
  told_desk = desk_after fresh_desk (telling_of p)

  -- and when it has set up
  abbrev set_desk : Desk
  set_desk = record { ready = true; plan = told_desk.plan; lane = lane_of p }

  -- setting up makes it so
  sets_up : Fits p → hear_of told_desk SetUp ≡ record { desk = set_desk; reply = Noted }
  sets_up ok =
      let t = described (telling_of p) telling_describes in
      let same = held_agrees ok told_desk.plan t.holds in
      (sets_up_as_told told_desk t.waits).kept (fits_too p told_desk.plan same ok)
      ∙ ap (λ (u : Classes). record { desk = record { ready = true; plan = told_desk.plan; lane = u }; reply = Noted })
      (same_lane p told_desk.plan same)

pub shares_as_told : SharesAsTold
unfolding desk_after replies_to
shares_as_told p ok calls =
    let telling = telling_of p in
    let set = sets_up p ok in
    replies_over fresh_desk (telling ++ SetUp ∷ []) (map Ask calls)
    ∙ ap (λ (d : Desk). replies_to fresh_desk (telling ++ SetUp ∷ []) ++ replies_to d (map Ask calls))
    (desk_over fresh_desk telling (SetUp ∷ []) ∙ ap (λ (h : Heard). h.desk) set)
    ∙ ap (λ (rs : List Reply). replies_to fresh_desk (telling ++ SetUp ∷ []) ++ rs) (asks_answered (set_desk p) refl calls).told
    ∙ ap (λ (rs : List Reply). rs ++ map Answered (answers (lane_of p) calls))
    (replies_over fresh_desk telling (SetUp ∷ [])
    ∙ ap (λ (h : Heard). replies_to fresh_desk telling ++ h.reply ∷ []) set
    ∙ ap (λ (rs : List Reply). rs ++ Noted ∷ []) (described telling (telling_describes p)).noted
    ∙ replicate-append-replicate (length telling) 1 Noted)
