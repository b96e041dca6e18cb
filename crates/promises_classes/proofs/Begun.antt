-- A begin that is not refused keeps the tree: no finish on its way would pass the largest tag, so every child on the way gets that of the rules.
use mathlib.Core.Path.{◌≡◌, refl, sym, ◌∙◌, ap}
use mathlib.Core.Bool.{Bool, true, false, cond, ◌||◌, true≢false}
use mathlib.Core.List.{List, [], ◌∷◌}
use Rattle.std.proofs.Common.{Option, None, Some}
use Prim.Native.Nat.{ℕ, zero, suc, ◌+◌, ◌*◌, ◌<◌}
use native.Mathlib.Omega.{arith}
use borrow.Author.Tests.{eqb-false, lt-leb}
use lib.Dec.{eqb, ltb}
use Rattle.units.specs.Limits.{place_count, tag_limit, bad_length}
use Rattle.units.specs.Charges.{charge_of}
use Rattle.units.specs.declared.Tag.{Tag}
use Rattle.places.specs.Places.{bit, flow_of}
use Rattle.places.specs.Choice.{at}
use Rattle.places.proofs.Tests.{neither_told}
use Rattle.tags.specs.declared.Packet.{Packet}
use Rattle.tags.specs.Tags.{finish_at, finish_of}
use Rattle.packets.specs.declared.Queue.{Queue}
use Rattle.plans.specs.declared.Plan.{Plan}
use Rattle.plans.specs.Plans.{Fits}
use Rattle.tree.specs.declared.Node.{Node}
use Rattle.tree.specs.declared.Tree.{Tree}
use Rattle.tree.specs.Tree.{node_at, class_at}
use Rattle.tree.specs.Steps.{reached, is_beyond, finish_for, begun_node, begun_class}
use Rattle.ascent.specs.Ascent.{passes, passes_for, begun_from}
use Rattle.classes.specs.declared.Classes.{Classes}
use Rattle.classes.specs.Calls.{begun}
use Rattle.promises_queue.specs.Refused.{waiting_in}
use Rattle.promises_classes.specs.Events.{History, began, packets_in}
use Rattle.promises_classes.specs.Rules.{Child, a_class, a_flow, same, Seen, start_tag, last_finish, virtual_time, largest_ended}
use Rattle.promises_classes.specs.Views.{parent_of, HangsFrom, weight_of, way_from, way_to, below, child_on, see_begin, seen}
use Rattle.promises_classes.specs.Promised.{place_of, RunsFair, waiting_below}
use Rattle.promises_classes.proofs.On.{same_self, on, on_cases, on_none, child_else, found_on}
use Rattle.promises_classes.proofs.Ways.{Sound, hangs_parent, hangs_sound, sound_hangs, up_low, up_sound, rest, child_here, way_sound}
use Rattle.promises_classes.proofs.Climbs.{Agrees, place_low}
use Rattle.promises_classes.proofs.Steps.{left_agrees, left_node, left_root, left_free, left_else, left_class}
use Rattle.promises_classes.proofs.Calls.{begin_steps, begin_tops}
use Rattle.promises_classes.proofs.Counts.{sum_less, below_on}
use Rattle.promises_classes.proofs.Kept.{Weighs, TreeKept}

-- a finish that is not past the largest tag is reached: the start and the cost
reached_at : (x : Node) (bytes : ℕ) → is_beyond (finish_for x bytes) ≡ false → (reached x.finish (finish_for x bytes)).0 ≡ x.start.0 + bytes * charge_of x.weight
unfolding finish_of
reached_at x bytes = go (bad_length bytes || ltb tag_limit (finish_at x.start bytes x.weight))
  where
    go : (b : Bool) → is_beyond (cond b None (Some (record { 0 = finish_at x.start bytes x.weight }))) ≡ false
        → (reached x.finish (cond b None (Some (record { 0 = finish_at x.start bytes x.weight })))).0 ≡ finish_at x.start bytes x.weight
    go true e = absurd (true≢false e)
    go false e = refl

-- where nothing passes on the way from a child, no child on it has a finish past the largest tag
none_beyond : (p : Plan) (ok : Fits p) (t : Tree) → Agrees p t → (bytes n : ℕ) (x : Child) → Sound p x → passes (suc n) t (place_of x) bytes ≡ false
    → (y : Child) → on y (way_from n p x) ≡ true → is_beyond (finish_for (node_at t (place_of y)) bytes) ≡ false
unfolding passes way_from
none_beyond p ok t a bytes zero x s e y o = absurd (on_none y o)
none_beyond p ok t a bytes (suc n) x s e y o =
    on_cases y x (rest p n x) (is_beyond (finish_for (node_at t (place_of y)) bytes) ≡ false) (λ q. rw q told.0)
    (λ q r. go (none_beyond p ok t a bytes n) (eqb (parent_of p x) 0) refl r) o
  where
    told : (is_beyond (finish_for (node_at t (place_of x)) bytes) ≡ false) × (passes (suc n) t (parent_of p x) bytes ≡ false)
    told =
        neither_told (is_beyond (finish_for (node_at t (place_of x)) bytes)) (passes (suc n) t (parent_of p x) bytes)
        (rw
        (lt-leb 47 (place_of x) (place_low p ok x s), a.parents x s, lt-leb 31 (parent_of p x) (omega (arith, up_low p ok x s, ok.few)))
        at e)

    go : ((x : Child) → Sound p x → passes (suc n) t (place_of x) bytes ≡ false → (y : Child) → on y (way_from n p x) ≡ true
        → is_beyond (finish_for (node_at t (place_of y)) bytes) ≡ false) → (b : Bool) → eqb (parent_of p x) 0 ≡ b
        → on y (cond b [] (way_from n p (a_class (parent_of p x)))) ≡ true → is_beyond (finish_for (node_at t (place_of y)) bytes) ≡ false
    go ih true q r = absurd (on_none y r)
    go ih false q r = ih (a_class (parent_of p x)) (up_sound p ok x s (eqb-false (parent_of p x) 0 q)) told.1 y r

module _ (p : Plan) (ok : Fits p) (u : Classes) (h : History) (k : TreeKept p u h) (f number bytes : ℕ) (start : Tag) (low : f < 16)
    (fits : passes_for u.tree f bytes ≡ false)
    (less : waiting_in (packets_in (began f number bytes start ∷ h)) f + 1 ≡ waiting_in (packets_in h) f)
    (others : (i : ℕ) → (f ≡ i → ⊥) → waiting_in (packets_in (began f number bytes start ∷ h)) i ≡ waiting_in (packets_in h) i) where
  -- the history after it
  abbrev told : History
  told = began f number bytes start ∷ h

  -- the tree before it
  abbrev was : Tree
  was = u.tree

  -- and after it
  abbrev left : Tree
  left = begun_from was f bytes

  -- the children on the way are written, and no others
  node_after : (y : Child) → Sound p y
      → node_at left (place_of y) ≡ cond (on y (way_to p f)) (begun_node bytes (node_at was (place_of y))) (node_at was (place_of y))
  unfolding begun_from
  node_after y s = left_node p ok (begin_steps bytes) begin_tops was k.agrees f low y s

  -- the classes that they do not hang from keep their times
  class_else : (c : ℕ) → child_on p c (way_to p f) ≡ None → class_at left c ≡ class_at was c
  unfolding begun_from
  class_else c e = left_else p ok (begin_steps bytes) begin_tops was k.agrees f low c e

  -- the others go on to the starts of theirs
  class_here : (c : ℕ) (z : Child) → child_on p c (way_to p f) ≡ Some z → class_at left c ≡ begun_class (node_at was (place_of z)) (class_at was c)
  unfolding begun_from
  class_here c z e = left_class p ok (begin_steps bytes) begin_tops was k.agrees f low c z e

  module _ (c : ℕ) (fair : RunsFair p u h c) where
    -- what the class sees of the begin
    abbrev sees : Option Child → List Seen
    sees o = see_begin p h bytes o (seen p c h)

    -- the child of the class on the way
    abbrev own : Option Child
    own = child_on p c (way_to p f)

    -- the class goes on to the start of its child
    time_after : (o : Option Child) → child_on p c (way_to p f) ≡ o → (class_at left c).time.0 ≡ virtual_time (sees o)
    unfolding virtual_time
    time_after None e = ap (λ z. z.time.0) (class_else c e) ∙ fair.time
    time_after (Some z) e =
        let w = found_on p c z (way_to p f) e in
        ap (λ v. v.time.0) (class_here c z e) ∙ fair.starts z (sound_hangs p c z (way_sound p ok 4 (a_flow f) z (low, refl) w.0) w.1)

    -- its largest finish stays
    largest_after : (o : Option Child) → child_on p c (way_to p f) ≡ o → (class_at left c).largest.0 ≡ largest_ended (sees o)
    unfolding virtual_time
    largest_after None e = ap (λ z. z.largest.0) (class_else c e) ∙ fair.largest
    largest_after (Some z) e = ap (λ v. v.largest.0) (class_here c z e) ∙ fair.largest

    -- a begin changes no start
    see_start : (x : Child) (o : Option Child) → start_tag (sees o) x ≡ start_tag (seen p c h) x
    unfolding virtual_time
    see_start x None = refl
    see_start x (Some z) = refl

    -- so the starts stay
    start_after : (x : Child) → HangsFrom p c x → (node_at left (place_of x)).start.0 ≡ start_tag (sees own) x
    start_after x g =
        ap (λ z. z.start.0) (node_after x (hangs_sound p c x g)) ∙ go (on x (way_to p f)) ∙ fair.starts x g ∙ sym (see_start x own)
      where
        go : (b : Bool) → (cond b (begun_node bytes (node_at was (place_of x))) (node_at was (place_of x))).start.0 ≡ (node_at was (place_of x)).start.0
        go true = refl
        go false = refl

    -- nor the finish of another child
    see_finish_else : (x : Child) (o : Option Child) → ((z : Child) → o ≡ Some z → same z x ≡ false) → last_finish (sees o) x ≡ last_finish (seen p c h) x
    unfolding virtual_time
    see_finish_else x None n = refl
    see_finish_else x (Some z) n = rw (n z refl)

    -- the finish of the child that it begins below is its start and the cost
    see_finish : (x : Child) → last_finish (sees (Some x)) x ≡ start_tag (seen p c h) x + bytes * charge_of (weight_of p h x)
    unfolding virtual_time
    see_finish x = rw (same_self x)

    -- the finish of a child on the way, since it does not pass
    finish_is : (x : Child) → on x (way_to p f) ≡ true
        → (reached (node_at was (place_of x)).finish (finish_for (node_at was (place_of x)) bytes)).0
        ≡ (node_at was (place_of x)).start.0 + bytes * charge_of (node_at was (place_of x)).weight
    unfolding passes_for
    finish_is x o = reached_at (node_at was (place_of x)) bytes (none_beyond p ok was k.agrees bytes 4 (a_flow f) (low, refl) fits x o)

    -- a child on the way finishes by the rules, and the others stay
    finish_after : (x : Child) → HangsFrom p c x → (node_at left (place_of x)).finish.0 ≡ last_finish (sees own) x
    finish_after x g = ap (λ z. z.finish.0) (node_after x (hangs_sound p c x g)) ∙ go (on x (way_to p f)) refl
      where
        go : (b : Bool) → on x (way_to p f) ≡ b
            → (cond b (begun_node bytes (node_at was (place_of x))) (node_at was (place_of x))).finish.0 ≡ last_finish (sees own) x
        go true o =
            finish_is x o
            ∙ ap (λ w. (node_at was (place_of x)).start.0 + bytes * charge_of w) (k.weighs x (hangs_sound p c x g))
            ∙ ap (λ s. s + bytes * charge_of (weight_of p h x)) (fair.starts x g)
            ∙ sym (see_finish x)
            ∙ ap (λ z. last_finish (sees z) x) (sym (rw (hangs_parent p c x g) at (child_here p ok 4 (a_flow f) x (low, refl) o)))
        go false o = fair.finishes x g ∙ sym (see_finish_else x own (λ z e. child_else p c x z (way_to p f) e o))

    -- the class runs the fair rules
    runs : (q : Queue) → RunsFair p (record { tree = left; queue = q }) told c
    unfolding seen
    runs q =
        record {
          time = time_after own refl;
          largest = largest_after own refl;
          starts = start_after;
          finishes = finish_after;
        }

  -- one less waits below each child that the flow is below
  sum : (x : Child) → waiting_below p told x + bit (below p x f) ≡ waiting_below p h x
  sum x = sum_less p x h told f others low less

  -- every child counts what waits below it
  counts_after : (x : Child) → Sound p x → (node_at left (place_of x)).waiting ≡ waiting_below p told x
  counts_after x s = ap (λ z. z.waiting) (node_after x s) ∙ go (on x (way_to p f)) (sym (below_on p x f s)) (sum x)
    where
      go : (b : Bool) → b ≡ below p x f → waiting_below p told x + bit (below p x f) ≡ waiting_below p h x
          → (cond b (begun_node bytes (node_at was (place_of x))) (node_at was (place_of x))).waiting ≡ waiting_below p told x
      go true e r = let q = rw (sym e) at r in let c = k.counts x s in omega (arith, q, c)
      go false e r = let q = rw (sym e) at r in let c = k.counts x s in omega (arith, q, c)

  -- so does the root
  root_after : (node_at left 0).waiting ≡ waiting_below p told (a_class 0)
  unfolding begun_from
  root_after =
      ap (λ z. z.waiting) (left_root p ok (begin_steps bytes) begin_tops was k.agrees f low)
      ∙ (let r = sum (a_class 0) in let c = k.root_count in omega (arith, r, c))

  -- the weights stay
  weighs_after : Weighs p left told
  unfolding packets_in
  weighs_after x s = ap (λ z. z.weight) (node_after x s) ∙ go (on x (way_to p f)) ∙ k.weighs x s ∙ same_weight x
    where
      go : (b : Bool) → (cond b (begun_node bytes (node_at was (place_of x))) (node_at was (place_of x))).weight ≡ (node_at was (place_of x)).weight
      go true = refl
      go false = refl

      same_weight : (x : Child) → weight_of p h x ≡ weight_of p told x
      same_weight (a_class j) = refl
      same_weight (a_flow g) = refl

  -- a begin keeps the tree, whatever becomes of the queue
  kept : (q : Queue) → TreeKept p (record { tree = left; queue = q }) told
  unfolding begun_from
  kept q =
      record {
        agrees = left_agrees p ok (begin_steps bytes) begin_tops was k.agrees f low;
        weighs = weighs_after;
        counts = counts_after;
        root_count = root_after;
        idle = λ j a b. ap (λ z. z.waiting) (left_free p ok (begin_steps bytes) begin_tops was k.agrees f low j a b) ∙ k.idle j a b;
        fair = λ c l. runs c (k.fair c l) q;
      }

-- a begin of the packet at a place keeps the tree
pub begin_kept : (p : Plan) → Fits p → (u : Classes) (h : History) → TreeKept p u h → (place number : ℕ) (x : Packet) (start : Tag) → flow_of place_count place < 16
    → passes_for u.tree (flow_of place_count place) x.length ≡ false
    → waiting_in (packets_in (began (flow_of place_count place) number x.length start ∷ h)) (flow_of place_count place) + 1
    ≡ waiting_in (packets_in h) (flow_of place_count place)
    → ((i : ℕ) → (flow_of place_count place ≡ i → ⊥)
    → waiting_in (packets_in (began (flow_of place_count place) number x.length start ∷ h)) i ≡ waiting_in (packets_in h) i)
    → TreeKept p (begun u (at place x)).lane (began (flow_of place_count place) number x.length start ∷ h)
begin_kept p ok u h k place number x start low fits less others =
    kept p ok u h k (flow_of place_count place) number x.length start low fits less others (begun u (at place x)).lane.queue
