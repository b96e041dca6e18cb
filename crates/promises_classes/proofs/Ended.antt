-- An end that is not refused keeps the tree.
use mathlib.Core.Path.{◌≡◌, refl, sym, ◌∙◌, ap}
use mathlib.Core.Bool.{Bool, true, false, cond, not}
use mathlib.Core.List.{List, ◌∷◌}
use Rattle.std.proofs.Common.{Option, None, Some}
use Prim.Native.Nat.{ℕ, ◌<◌, max}
use native.Mathlib.Omega.{arith}
use lib.Dec.{eqb}
use Rattle.tags.specs.Tags.{later_of}
use Rattle.tags.proofs.Tags.{later_max}
use Rattle.plans.specs.declared.Plan.{Plan}
use Rattle.plans.specs.Plans.{Fits}
use Rattle.tree.specs.declared.Tree.{Tree}
use Rattle.tree.specs.Tree.{node_at, class_at}
use Rattle.tree.specs.Steps.{ended_node, ended_class}
use Rattle.ascent.specs.Ascent.{ended_from}
use Rattle.classes.specs.declared.Classes.{Classes}
use Rattle.classes.specs.Calls.{ended}
use Rattle.promises_classes.specs.Events.{History, ceased, packets_in}
use Rattle.promises_classes.specs.Rules.{Child, a_class, a_flow, same, Seen, start_tag, last_finish, virtual_time, largest_ended}
use Rattle.promises_classes.specs.Views.{HangsFrom, weight_of, way_to, sends, child_on, see_end, seen}
use Rattle.promises_classes.specs.Promised.{place_of, RunsFair, waiting_below}
use Rattle.promises_classes.proofs.On.{same_self, on, child_else, found_on}
use Rattle.promises_classes.proofs.Ways.{Sound, hangs_parent, hangs_sound, sound_hangs, child_here, way_sound}
use Rattle.promises_classes.proofs.Steps.{left_agrees, left_node, left_root, left_free, left_else, left_class}
use Rattle.promises_classes.proofs.Calls.{end_steps, end_tops}
use Rattle.promises_classes.proofs.Counts.{end_waiting, sum_same}
use Rattle.promises_classes.proofs.Kept.{Weighs, TreeKept, tells, tells_left}

-- an end leaves what waits below a child
pub end_sum : (p : Plan) (h : History) (f number bytes : ℕ) (x : Child) → waiting_below p (ceased f number bytes ∷ h) x ≡ waiting_below p h x
end_sum p h f number bytes x = sum_same p x h (ceased f number bytes ∷ h) (end_waiting h f number bytes) 0 16

module _ (p : Plan) (ok : Fits p) (u : Classes) (h : History) (k : TreeKept p u h) (f number bytes : ℕ) (low : f < 16)
    (served : u.queue.service.flow ≡ f) where
  -- the history after it
  abbrev told : History
  told = ceased f number bytes ∷ h

  -- the tree before it
  abbrev was : Tree
  was = u.tree

  -- and after it
  abbrev left : Tree
  left = ended_from was f

  -- the children on the way are written, and no others
  node_after : (y : Child) → Sound p y → node_at left (place_of y) ≡ cond (on y (way_to p f)) (ended_node (node_at was (place_of y))) (node_at was (place_of y))
  unfolding ended_from
  node_after y s = left_node p ok end_steps end_tops was k.agrees f low y s

  -- the classes that they do not hang from keep their times
  class_else : (c : ℕ) → child_on p c (way_to p f) ≡ None → class_at left c ≡ class_at was c
  unfolding ended_from
  class_else c e = left_else p ok end_steps end_tops was k.agrees f low c e

  -- the others take the finishes of theirs
  class_here : (c : ℕ) (z : Child) → child_on p c (way_to p f) ≡ Some z → class_at left c ≡ ended_class (node_at was (place_of z)) (node_at was c) (class_at was c)
  unfolding ended_from
  class_here c z e = left_class p ok end_steps end_tops was k.agrees f low c z e

  -- a child that is found on the way hangs from its class
  found_hangs : (c : ℕ) (z : Child) → child_on p c (way_to p f) ≡ Some z → HangsFrom p c z
  found_hangs c z e =
      let w = found_on p c z (way_to p f) e in sound_hangs p c z (way_sound p ok 4 (a_flow f) z (low, refl) w.0) w.1

  module _ (c : ℕ) (inside : c < p.count) (fair : RunsFair p u h c) where
    -- what the class sees of the end
    abbrev sees : Option Child → List Seen
    sees o = see_end p h c o (seen p c h)

    -- the child of the class on the way
    abbrev own : Option Child
    own = child_on p c (way_to p f)

    -- the largest finish, with that of this child
    largest_is : (z : Child) → HangsFrom p c z
        → (later_of (class_at was c).largest (node_at was (place_of z)).finish).0 ≡ max (last_finish (seen p c h) z) (largest_ended (seen p c h))
    largest_is z g =
        let m = later_max (class_at was c).largest (node_at was (place_of z)).finish in
        omega (arith, m, fair.largest, fair.finishes z g)

    -- the class goes on to its largest finish where nothing is left to send
    time_after : (o : Option Child) → child_on p c (way_to p f) ≡ o → (class_at left c).time.0 ≡ virtual_time (sees o)
    unfolding virtual_time
    time_after None e = ap (λ z. z.time.0) (class_else c e) ∙ fair.time
    time_after (Some z) e =
        ap (λ v. v.time.0) (class_here c z e)
        ∙ rw (tells_left p u h k c inside) (go (found_hangs c z e) (eqb (node_at was c).waiting 0))
      where
        go : HangsFrom p c z → (b : Bool)
            → (cond b (later_of (class_at was c).largest (node_at was (place_of z)).finish) (class_at was c).time).0
            ≡ cond (not b) (virtual_time (seen p c h)) (max (last_finish (seen p c h) z) (largest_ended (seen p c h)))
        go g true = largest_is z g
        go g false = fair.time

    -- its largest finish takes that of its child
    largest_after : (o : Option Child) → child_on p c (way_to p f) ≡ o → (class_at left c).largest.0 ≡ largest_ended (sees o)
    unfolding virtual_time
    largest_after None e = ap (λ z. z.largest.0) (class_else c e) ∙ fair.largest
    largest_after (Some z) e = ap (λ v. v.largest.0) (class_here c z e) ∙ largest_is z (found_hangs c z e)

    -- an end changes no last finish
    see_finish : (x : Child) (o : Option Child) → last_finish (sees o) x ≡ last_finish (seen p c h) x
    unfolding virtual_time
    see_finish x None = refl
    see_finish x (Some z) = refl

    -- so the last finishes stay
    finish_after : (x : Child) → HangsFrom p c x → (node_at left (place_of x)).finish.0 ≡ last_finish (sees own) x
    finish_after x g =
        ap (λ z. z.finish.0) (node_after x (hangs_sound p c x g)) ∙ go (on x (way_to p f)) ∙ fair.finishes x g ∙ sym (see_finish x own)
      where
        go : (b : Bool) → (cond b (ended_node (node_at was (place_of x))) (node_at was (place_of x))).finish.0 ≡ (node_at was (place_of x)).finish.0
        go true = refl
        go false = refl

    -- nor the start of another child
    see_start_else : (x : Child) (o : Option Child) → ((z : Child) → o ≡ Some z → same z x ≡ false) → start_tag (sees o) x ≡ start_tag (seen p c h) x
    unfolding virtual_time
    see_start_else x None n = refl
    see_start_else x (Some z) n = rw (n z refl)

    -- the child that it ends below starts at its last finish, where it has more to send
    see_start : (x : Child) (b : Bool) → sends p h x ≡ not b
        → start_tag (sees (Some x)) x ≡ cond b (start_tag (seen p c h) x) (last_finish (seen p c h) x)
    unfolding virtual_time
    see_start x true e = rw (same_self x, e)
    see_start x false e = rw (same_self x, e)

    -- a child on the way starts by the rules, and the others stay
    start_after : (x : Child) → HangsFrom p c x → (node_at left (place_of x)).start.0 ≡ start_tag (sees own) x
    start_after x g = ap (λ z. z.start.0) (node_after x (hangs_sound p c x g)) ∙ go (on x (way_to p f)) refl
      where
        here : (w : Bool) → (cond w (node_at was (place_of x)).start (node_at was (place_of x)).finish).0 ≡ cond w (start_tag (seen p c h) x) (last_finish (seen p c h) x)
        here true = fair.starts x g
        here false = fair.finishes x g

        go : (b : Bool) → on x (way_to p f) ≡ b → (cond b (ended_node (node_at was (place_of x))) (node_at was (place_of x))).start.0 ≡ start_tag (sees own) x
        go true o =
            here (eqb (node_at was (place_of x)).waiting 0)
            ∙ sym (see_start x (eqb (node_at was (place_of x)).waiting 0) (tells p u h k x (hangs_sound p c x g)))
            ∙ ap (λ z. start_tag (sees z) x) (sym (rw (hangs_parent p c x g) at (child_here p ok 4 (a_flow f) x (low, refl) o)))
        go false o = fair.starts x g ∙ sym (see_start_else x own (λ z e. child_else p c x z (way_to p f) e o))

    -- the class runs the fair rules
    runs : RunsFair p (ended u).lane told c
    unfolding seen
    runs =
        rw served
        (record {
          time = time_after own refl;
          largest = largest_after own refl;
          starts = start_after;
          finishes = finish_after;
        })

  -- every child counts what waits below it
  counts_after : (x : Child) → Sound p x → (node_at left (place_of x)).waiting ≡ waiting_below p told x
  counts_after x s = ap (λ z. z.waiting) (node_after x s) ∙ go (on x (way_to p f)) ∙ k.counts x s ∙ sym (end_sum p h f number bytes x)
    where
      go : (b : Bool) → (cond b (ended_node (node_at was (place_of x))) (node_at was (place_of x))).waiting ≡ (node_at was (place_of x)).waiting
      go true = refl
      go false = refl

  -- the weights stay
  weighs_after : Weighs p left told
  unfolding packets_in
  weighs_after x s = ap (λ z. z.weight) (node_after x s) ∙ go (on x (way_to p f)) ∙ k.weighs x s ∙ same_weight x
    where
      go : (b : Bool) → (cond b (ended_node (node_at was (place_of x))) (node_at was (place_of x))).weight ≡ (node_at was (place_of x)).weight
      go true = refl
      go false = refl

      same_weight : (x : Child) → weight_of p h x ≡ weight_of p told x
      same_weight (a_class j) = refl
      same_weight (a_flow g) = refl

  -- an end keeps the tree
  pub end_kept : TreeKept p (ended u).lane (ceased f number bytes ∷ h)
  unfolding ended_from
  end_kept =
      record {
        agrees = rw served (left_agrees p ok end_steps end_tops was k.agrees f low);
        weighs = rw served weighs_after;
        counts = rw served counts_after;
        root_count = rw served (ap (λ z. z.waiting) (left_root p ok end_steps end_tops was k.agrees f low) ∙ k.root_count ∙ sym (end_sum p h f number bytes (a_class 0)));
        idle = rw served (λ j a b. ap (λ z. z.waiting) (left_free p ok end_steps end_tops was k.agrees f low j a b) ∙ k.idle j a b);
        fair = λ c l. runs c l (k.fair c l);
      }
