-- An offer that is taken keeps the tree.
use mathlib.Core.Path.{◌≡◌, refl, sym, ◌∙◌, ap}
use mathlib.Core.Bool.{Bool, true, false, cond, not}
use mathlib.Core.List.{List, ◌∷◌}
use Rattle.std.proofs.Common.{Option, None, Some}
use Prim.Native.Nat.{ℕ, ◌+◌, ◌≤◌, ◌<◌, max}
use native.Mathlib.Omega.{arith}
use native.Mathlib.Nat.{mod-eq_of_lt}
use lib.Dec.{eqb}
use Rattle.places.specs.Places.{bit}
use Rattle.tags.specs.Tags.{later_of}
use Rattle.tags.proofs.Tags.{later_max}
use Rattle.plans.specs.declared.Plan.{Plan}
use Rattle.plans.specs.Plans.{Fits}
use Rattle.tree.specs.declared.Node.{Node}
use Rattle.tree.specs.declared.Tree.{Tree}
use Rattle.tree.specs.Tree.{node_at, class_at}
use Rattle.tree.specs.Steps.{one_more, offered_node}
use Rattle.ascent.specs.Ascent.{offered_to}
use Rattle.classes.specs.declared.Classes.{Classes}
use Rattle.classes.specs.Calls.{taken}
use Rattle.promises_queue.specs.Refused.{waiting_in}
use Rattle.promises_classes.specs.Events.{History, accepted, packets_in}
use Rattle.promises_classes.specs.Rules.{Child, a_class, a_flow, same, Seen, gets, start_tag, last_finish, virtual_time, largest_ended}
use Rattle.promises_classes.specs.Views.{parent_of, HangsFrom, weight_of, way_to, below, sends, child_on, see_offer, seen}
use Rattle.promises_classes.specs.Promised.{place_of, RunsFair, waiting_below}
use Rattle.promises_classes.proofs.On.{same_self, on, child_else}
use Rattle.promises_classes.proofs.Ways.{Sound, hangs_parent, hangs_sound, child_here}
use Rattle.promises_classes.proofs.Steps.{left_agrees, left_node, left_root, left_free, left_else, left_class}
use Rattle.promises_classes.proofs.Calls.{offer_steps, offer_tops}
use Rattle.promises_classes.proofs.Counts.{sum_more, sum_few, below_on}
use Rattle.promises_classes.proofs.Kept.{Weighs, TreeKept, tells}

-- What an offer changes in what a class sees: the start of one child at most.
module _ (p : Plan) (h : History) (es : List Seen) where
  -- not the virtual time
  pub see_time : (o : Option Child) → virtual_time (see_offer p h o es) ≡ virtual_time es
  unfolding virtual_time
  see_time None = refl
  see_time (Some x) = go (sends p h x)
    where
      go : (b : Bool) → virtual_time (cond b es (gets x ∷ es)) ≡ virtual_time es
      go true = refl
      go false = refl

  -- nor the largest finish
  see_largest : (o : Option Child) → largest_ended (see_offer p h o es) ≡ largest_ended es
  unfolding virtual_time
  see_largest None = refl
  see_largest (Some x) = go (sends p h x)
    where
      go : (b : Bool) → largest_ended (cond b es (gets x ∷ es)) ≡ largest_ended es
      go true = refl
      go false = refl

  -- nor any last finish
  pub see_finish : (y : Child) (o : Option Child) → last_finish (see_offer p h o es) y ≡ last_finish es y
  unfolding virtual_time
  see_finish y None = refl
  see_finish y (Some x) = go (sends p h x)
    where
      go : (b : Bool) → last_finish (cond b es (gets x ∷ es)) y ≡ last_finish es y
      go true = refl
      go false = refl

  -- nor the start of another child
  pub see_start_else : (y : Child) (o : Option Child) → ((z : Child) → o ≡ Some z → same z y ≡ false) → start_tag (see_offer p h o es) y ≡ start_tag es y
  unfolding virtual_time
  see_start_else y None n = refl
  see_start_else y (Some x) n = go (sends p h x) (n x refl)
    where
      go : (b : Bool) → same x y ≡ false → start_tag (cond b es (gets x ∷ es)) y ≡ start_tag es y
      go true e = refl
      go false e = rw e

  -- its own start, where it had nothing to send
  see_start : (y : Child) (b : Bool) → sends p h y ≡ not b
      → start_tag (see_offer p h (Some y) es) y ≡ cond b (max (virtual_time es) (last_finish es y)) (start_tag es y)
  unfolding virtual_time
  see_start y true e = rw (e, same_self y)
  see_start y false e = rw e

-- a count that is far from the largest of its type
one_more_lem : (x : Node) → x.waiting ≤ 256 → one_more x ≡ x.waiting + 1
one_more_lem x l = mod-eq_of_lt (omega (arith, l))

module _ (p : Plan) (ok : Fits p) (u : Classes) (h : History) (k : TreeKept p u h) (f number bytes : ℕ) (low : f < 16)
    (few : (i : ℕ) → waiting_in (packets_in h) i ≤ 16)
    (more : waiting_in (packets_in (accepted f number bytes ∷ h)) f ≡ waiting_in (packets_in h) f + 1)
    (others : (i : ℕ) → (f ≡ i → ⊥) → waiting_in (packets_in (accepted f number bytes ∷ h)) i ≡ waiting_in (packets_in h) i) where
  -- the history after it
  abbrev told : History
  told = accepted f number bytes ∷ h

  -- the tree before it
  abbrev was : Tree
  was = u.tree

  -- and after it
  abbrev left : Tree
  left = offered_to was f

  -- a child on the way as the offer leaves it
  abbrev offered : Child → Node
  offered y = offered_node (class_at was (parent_of p y)).time (node_at was (place_of y))

  -- the children on the way are written, and no others
  node_after : (y : Child) → Sound p y → node_at left (place_of y) ≡ cond (on y (way_to p f)) (offered y) (node_at was (place_of y))
  unfolding offered_to
  node_after y s = left_node p ok offer_steps offer_tops was k.agrees f low y s

  -- no class's times are
  class_after : (c : ℕ) (o : Option Child) → child_on p c (way_to p f) ≡ o → class_at left c ≡ class_at was c
  unfolding offered_to
  class_after c None e = left_else p ok offer_steps offer_tops was k.agrees f low c e
  class_after c (Some z) e = left_class p ok offer_steps offer_tops was k.agrees f low c z e

  module _ (c : ℕ) (fair : RunsFair p u h c) where
    -- the child of the class on the way
    abbrev own : Option Child
    own = child_on p c (way_to p f)

    -- the last finishes stay
    finish_after : (x : Child) → HangsFrom p c x → (node_at left (place_of x)).finish.0 ≡ last_finish (see_offer p h own (seen p c h)) x
    finish_after x g =
        ap (λ z. z.finish.0) (node_after x (hangs_sound p c x g))
        ∙ go (on x (way_to p f))
        ∙ fair.finishes x g
        ∙ sym (see_finish p h (seen p c h) x own)
      where
        go : (b : Bool) → (cond b (offered x) (node_at was (place_of x))).finish.0 ≡ (node_at was (place_of x)).finish.0
        go true = refl
        go false = refl

    -- a child on the way starts by the rules, and the others stay
    start_after : (x : Child) → HangsFrom p c x → (node_at left (place_of x)).start.0 ≡ start_tag (see_offer p h own (seen p c h)) x
    start_after x g = ap (λ z. z.start.0) (node_after x (hangs_sound p c x g)) ∙ go (on x (way_to p f)) refl
      where
        here : (w : Bool)
            → (cond w (later_of (class_at was (parent_of p x)).time (node_at was (place_of x)).finish) (node_at was (place_of x)).start).0
            ≡ cond w (max (virtual_time (seen p c h)) (last_finish (seen p c h) x)) (start_tag (seen p c h) x)
        here true =
            later_max (class_at was (parent_of p x)).time (node_at was (place_of x)).finish
            ∙ rw (hangs_parent p c x g, fair.time, fair.finishes x g)
        here false = fair.starts x g

        go : (b : Bool) → on x (way_to p f) ≡ b → (cond b (offered x) (node_at was (place_of x))).start.0 ≡ start_tag (see_offer p h own (seen p c h)) x
        go true o =
            here (eqb (node_at was (place_of x)).waiting 0)
            ∙ sym (see_start p h (seen p c h) x (eqb (node_at was (place_of x)).waiting 0) (tells p u h k x (hangs_sound p c x g)))
            ∙ ap (λ z. start_tag (see_offer p h z (seen p c h)) x)
            (sym (rw (hangs_parent p c x g) at (child_here p ok 4 (a_flow f) x (low, refl) o)))
        go false o = fair.starts x g ∙ sym (see_start_else p h (seen p c h) x own (λ z e. child_else p c x z (way_to p f) e o))

    -- the class runs the fair rules
    runs : RunsFair p (taken u f bytes).lane (accepted f number bytes ∷ h) c
    unfolding seen
    runs =
        record {
          time = ap (λ z. z.time.0) (class_after c own refl) ∙ fair.time ∙ sym (see_time p h (seen p c h) own);
          largest = ap (λ z. z.largest.0) (class_after c own refl) ∙ fair.largest ∙ sym (see_largest p h (seen p c h) own);
          starts = start_after;
          finishes = finish_after;
        }

  -- one more waits below each child that the flow is below
  sum : (x : Child) → waiting_below p told x ≡ waiting_below p h x + bit (below p x f)
  sum x = sum_more p x h told f others more 0 16 (omega arith) (omega (arith, low))

  -- at most 256 wait below any
  small : (x : Child) → waiting_below p h x ≤ 256
  small x = sum_few p x h few 0 16

  -- every child counts what waits below it
  counts_after : (x : Child) → Sound p x → (node_at left (place_of x)).waiting ≡ waiting_below p told x
  counts_after x s =
      ap (λ z. z.waiting) (node_after x s) ∙ go (on x (way_to p f)) (sym (below_on p x f s)) ∙ sym (sum x)
    where
      go : (b : Bool) → b ≡ below p x f → (cond b (offered x) (node_at was (place_of x))).waiting ≡ waiting_below p h x + bit (below p x f)
      go true e =
          rw (sym e)
          (one_more_lem (node_at was (place_of x)) (let a = small x in omega (arith, a, k.counts x s)) ∙ ap (λ w. w + 1) (k.counts x s))
      go false e = rw (sym e) (let a = k.counts x s in omega (arith, a))

  -- so does the root
  root_after : (node_at left 0).waiting ≡ waiting_below p told (a_class 0)
  unfolding offered_to
  root_after =
      ap (λ z. z.waiting) (left_root p ok offer_steps offer_tops was k.agrees f low)
      ∙ one_more_lem (node_at was 0) (let a = small (a_class 0) in omega (arith, a, k.root_count))
      ∙ ap (λ w. w + 1) k.root_count
      ∙ sym (sum (a_class 0))

  -- the weights stay
  weighs_after : Weighs p left told
  unfolding packets_in
  weighs_after x s = ap (λ z. z.weight) (node_after x s) ∙ go (on x (way_to p f)) ∙ k.weighs x s ∙ same_weight x
    where
      go : (b : Bool) → (cond b (offered x) (node_at was (place_of x))).weight ≡ (node_at was (place_of x)).weight
      go true = refl
      go false = refl

      same_weight : (x : Child) → weight_of p h x ≡ weight_of p told x
      same_weight (a_class j) = refl
      same_weight (a_flow g) = refl

  -- an offer keeps the tree
  pub offer_kept : TreeKept p (taken u f bytes).lane (accepted f number bytes ∷ h)
  unfolding offered_to
  offer_kept =
      record {
        agrees = left_agrees p ok offer_steps offer_tops was k.agrees f low;
        weighs = weighs_after;
        counts = counts_after;
        root_count = root_after;
        idle = λ j a b. ap (λ z. z.waiting) (left_free p ok offer_steps offer_tops was k.agrees f low j a b) ∙ k.idle j a b;
        fair = λ c l. runs c (k.fair c l);
      }
