-- Whether a packet of a good length would pass the largest tag on its way: the tree's test is that of the rules.
use Rattle.std.proofs.Common.{Option, None, Some}
use mathlib.Core.Path.{◌≡◌, refl, sym, ◌∙◌, ap}
use mathlib.Core.Bool.{Bool, true, false, cond, ◌||◌}
use mathlib.Core.Logic.{inl, inr}
use mathlib.Core.List.{[]}
use Prim.Native.Nat.{ℕ, zero, suc, ◌+◌, ◌*◌, ◌≤◌, ◌<◌}
use native.Mathlib.Omega.{arith}
use borrow.Author.Tests.{eqb-true, eqb-false, lt-leb, ltb-false}
use lib.Dec.{eqb, ltb}
use Rattle.units.specs.Limits.{tag_limit, bad_length}
use Rattle.units.specs.Charges.{charge_of}
use Rattle.places.proofs.Tests.{neither_told}
use Rattle.tags.specs.Tags.{finish_at, finish_of}
use Rattle.plans.specs.declared.Plan.{Plan}
use Rattle.plans.specs.Plans.{class_in, Fits}
use Rattle.tree.specs.declared.Node.{Node}
use Rattle.tree.specs.declared.Tree.{Tree}
use Rattle.tree.specs.Tree.{node_at}
use Rattle.tree.specs.Steps.{is_beyond, finish_for}
use Rattle.ascent.specs.Ascent.{passes, passes_for}
use Rattle.classes.specs.declared.Classes.{Classes}
use Rattle.promises_queue.specs.Packets.{weight_in}
use Rattle.promises_classes.specs.Events.{History, packets_in}
use Rattle.promises_classes.specs.Rules.{Child, a_class, a_flow, start_tag}
use Rattle.promises_classes.specs.Views.{any_of, parent_of, way_from, way_to, seen}
use Rattle.promises_classes.specs.Promised.{place_of}
use Rattle.promises_classes.specs.Refused.{passes_at}
use Rattle.promises_classes.proofs.Ways.{Sound, up_low, up_sound, rest, Reaches, reaches}
use Rattle.promises_classes.proofs.Climbs.{place_low}
use Rattle.promises_classes.proofs.Kept.{TreeKept}

-- a node has no finish for a packet of a good length where that would pass the largest tag
beyond_is : (x : Node) (bytes : ℕ) → bad_length bytes ≡ false → is_beyond (finish_for x bytes) ≡ ltb tag_limit (x.start.0 + bytes * charge_of x.weight)
unfolding finish_of
beyond_is x bytes e = rw e (go (ltb tag_limit (finish_at x.start bytes x.weight)))
  where
    go : (b : Bool) → is_beyond (cond b None (Some (record { 0 = finish_at x.start bytes x.weight }))) ≡ b
    go true = refl
    go false = refl

module _ (p : Plan) (ok : Fits p) (u : Classes) (h : History) (k : TreeKept p u h) (bytes : ℕ) (good : bad_length bytes ≡ false) where
  -- the tree
  abbrev t : Tree
  t = u.tree

  -- at each child
  passes_here : (x : Child) → Sound p x → is_beyond (finish_for (node_at t (place_of x)) bytes) ≡ passes_at p h bytes x
  passes_here x s =
      beyond_is (node_at t (place_of x)) bytes good
      ∙ rw ((k.fair (parent_of p x) (up_low p ok x s)).starts x s, k.weighs x s)

  -- along a way that comes to the root
  passes_told : (n : ℕ) (x : Child) → Sound p x → Reaches p n x → passes (suc n) t (place_of x) bytes ≡ any_of (passes_at p h bytes) (way_from n p x)
  unfolding passes way_from any_of
  passes_told zero x s r = absurd r
  passes_told (suc n) x s r =
      rw (
        lt-leb 47 (place_of x) (place_low p ok x s),
        k.agrees.parents x s,
        lt-leb 31 (parent_of p x) (omega (arith, up_low p ok x s, ok.few)),
        passes_here x s,
      )
      (ap (λ b. passes_at p h bytes x || b) (go (passes_told n) (eqb (parent_of p x) 0) refl r))
    where
      go : ((x : Child) → Sound p x → Reaches p n x → passes (suc n) t (place_of x) bytes ≡ any_of (passes_at p h bytes) (way_from n p x)) → (b : Bool)
          → eqb (parent_of p x) 0 ≡ b → Reaches p (suc n) x
          → passes (suc n) t (parent_of p x) bytes ≡ any_of (passes_at p h bytes) (cond b [] (way_from n p (a_class (parent_of p x))))
      go ih true q r = rw (eqb-true (parent_of p x) 0 q, k.agrees.root)
      go ih false q (inl e) = absurd (eqb-false (parent_of p x) 0 q e)
      go ih false q (inr r) = ih (a_class (parent_of p x)) (up_sound p ok x s (eqb-false (parent_of p x) 0 q)) r

  -- along the way of a flow
  pub passes_way : (f : ℕ) → f < 16 → passes_for u.tree f bytes ≡ any_of (passes_at p h bytes) (way_to p f)
  unfolding passes_for
  passes_way f l = passes_told 4 (a_flow f) (l, refl) (reaches p ok f l)

  -- where it does not, the flow's own finish does not
  pub fits_flow : (f : ℕ) → f < 16 → passes_for u.tree f bytes ≡ false
      → start_tag (seen p (class_in p f) h) (a_flow f) + bytes * charge_of (weight_in (packets_in h) f) ≤ tag_limit
  unfolding way_from any_of
  fits_flow f l e =
      ltb-false tag_limit (start_tag (seen p (class_in p f) h) (a_flow f) + bytes * charge_of (weight_in (packets_in h) f))
      (neither_told (passes_at p h bytes (a_flow f)) (any_of (passes_at p h bytes) (rest p 3 (a_flow f))) (sym (passes_way f l) ∙ e)).0
