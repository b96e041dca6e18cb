-- Where no slots are too few for the windows that lie in them, each window can have a slot of its own. Of the windows that open first the
-- one that closes first has its first slot, x, and the others are to open after x. Still no slots are too few for them: those that close by
-- slot b lay in the slots from x to b along with that window or, where it closes after b, open after x as they are.
use mathlib.Core.Path.{◌≡◌, refl, sym, ap, subst}
use mathlib.Core.Logic.{◌⊎◌, inl, inr, ⊎_elim}
use mathlib.Core.Bool.{Bool, true, ◌&&◌}
use mathlib.Core.List.{List, [], ◌∷◌, ◌++◌, map}
use Prim.Native.Nat.{ℕ, zero, suc, ◌+◌, ◌-◌, ◌≤◌, max}
use native.Mathlib.Decide.{dec_le}
use native.Mathlib.Nat.{le_refl, lt_of_not-le}
use native.Mathlib.Numerals.{add-one}
use native.Mathlib.Omega.{arith}
use borrow.Author.Tests.{leb-true, le-leb}
use lib.Dec.{leb}
use lib.ListN.{length, length-append, length-map}
use lib.Seq.{append_snoc, get_or-append_seam}
use Rattle.places.specs.Places.{bit, count}
use Rattle.places.specs.Members.{Each}
use Rattle.places.proofs.Count.{count_append, count_map}
use Rattle.places.proofs.Members.{each_map, each_put, each_counts}
use Rattle.places.proofs.Tests.{and_told}
use Rattle.promises_urgent.specs.Plans.{Member, Apart, Window, no_window, Sending, Plan, Allowed, due}

-- no slots are too few for the windows that lie in them
abbrev Room : List Window → Type 0
Room ws = (s b : ℕ) → due ws s b ≤ b + 1 - s

-- each window in turn has the slot in its place, which lies in it
abbrev Assigned : List Window → List ℕ → Type 0
Assigned [] [] = Unit {0}
Assigned [] (t ∷ ts) = ⊥
Assigned (w ∷ ws) [] = ⊥
Assigned (w ∷ ws) (t ∷ ts) = (w.first ≤ t) × (t ≤ w.last) × Assigned ws ts

-- each window has a slot of its own
abbrev Served : List Window → Type 0
Served ws = (ts : List ℕ) × Assigned ws ts × Apart ts

count_put : (p : Window → Bool) (xs : List Window) (w : Window) (ys : List Window) → count p (xs ++ w ∷ ys) ≡ bit (p w) + count p (xs ++ ys)
unfolding count
count_put p xs w ys = omega (arith, count_append p xs (w ∷ ys), count_append p xs ys)

-- a window opens before another, or with it and closes no later
abbrev Precedes : Window → Window → Type 0
Precedes w v = (w.first ≤ v.first) × (v.first ≤ w.first → w.last ≤ v.last)

one_precedes : (w v : Window) → Precedes w v ⊎ Precedes v w
one_precedes w v = go (dec_le w.first v.first) (dec_le v.first w.first) (dec_le w.last v.last)
  where
    go : Dec (w.first ≤ v.first) → Dec (v.first ≤ w.first) → Dec (w.last ≤ v.last) → Precedes w v ⊎ Precedes v w
    go (no a) b c = inr (omega arith, λ l. absurd (a l))
    go (yes a) (no b) c = inl (a, λ l. absurd (b l))
    go (yes a) (yes b) (yes c) = inl (a, λ l. c)
    go (yes a) (yes b) (no c) = inr (b, λ l. omega arith)

-- a list with one window that precedes the others, which stand before and after it
abbrev Earliest : List Window → Type 0
Earliest ws = (xs : List Window) × (w : Window) × (ys : List Window) × (ws ≡ xs ++ w ∷ ys) × Each (Precedes w) (xs ++ ys)

earliest : (w : Window) (ws : List Window) → Earliest (w ∷ ws)
earliest w [] = ([], w, [], refl, tt)
earliest w (v ∷ ws) = let e = earliest v ws in go e (one_precedes w e.1)
  where
    go : (e : Earliest (v ∷ ws)) → Precedes w e.1 ⊎ Precedes e.1 w → Earliest (w ∷ v ∷ ws)
    go (xs, u, ys, same, least) (inl p) =
        let onward : (t : Window) → Precedes u t → Precedes w t =
        λ t q. (omega (arith, p.0, q.0), λ l. omega (arith, p.1 (omega (arith, q.0)), q.1 (omega (arith, p.0)))) in
        let all = each_put (Precedes w) xs u ys p (each_map (Precedes u) (Precedes w) onward (xs ++ ys) least) in
        ([], w, v ∷ ws, refl, subst (Each (Precedes w)) (sym same) all)
    go (xs, u, ys, same, least) (inr p) = (w ∷ xs, u, ys, ap (λ (vs : List Window). w ∷ vs) same, (p, least))

-- window v, opened only after the first slot of w
abbrev open_after : Window → Window → Window
open_after w v = record { first = max v.first (suc w.first); last = v.last }

abbrev lies_in : ℕ → ℕ → Window → Bool
lies_in s b v = leb s v.first && leb v.last b

module _ (xs : List Window) (w : Window) (ys : List Window) (room : Room (xs ++ w ∷ ys)) where
  -- w takes its part of the room, and one slot of those from its first on
  room_others : (s b : ℕ) → bit (lies_in s b w) + due (xs ++ ys) s b ≤ b + 1 - s
  room_others s b = omega (arith, count_put (lies_in s b) xs w ys, room s b)

  room_less : (b : ℕ) → w.last ≤ b → 1 + due (xs ++ ys) w.first b ≤ b + 1 - w.first
  room_less b l =
      let one : bit (lies_in w.first b w) ≡ 1 = rw (le-leb w.first w.first (le_refl _), le-leb w.last b l) in
      omega (arith, one, room_others w.first b)

  module _ (least : Each (Precedes w) (xs ++ ys)) where
    -- the others that lie from s to b once they open after the first slot of w are among those that lay from r to b
    no_more : (s r b : ℕ) → ((v : Window) → Precedes w v → v.last ≤ b → s ≤ (open_after w v).first → r ≤ v.first)
        → due (map (open_after w) (xs ++ ys)) s b ≤ due (xs ++ ys) r b
    no_more s r b opens =
        rw (count_map (open_after w) (lies_in s b) (xs ++ ys))
        (each_counts (λ (v : Window). lies_in s b (open_after w v)) (lies_in r b) (xs ++ ys) (each_map (Precedes w) _ lies (xs ++ ys) least))
      where
        lies : (v : Window) → Precedes w v → lies_in s b (open_after w v) ≡ true → lies_in r b v ≡ true
        lies v p e =
            let t = and_told (leb s (open_after w v).first) (leb v.last b) e in
            rw (le-leb r v.first (opens v p (leb-true v.last b t.1) (leb-true s (open_after w v).first t.0))) t.1

    room_after_lem : Room (map (open_after w) (xs ++ ys))
    room_after_lem s b = go (dec_le s (suc w.first)) (dec_le w.last b)
      where
        go : Dec (s ≤ suc w.first) → Dec (w.last ≤ b) → due (map (open_after w) (xs ++ ys)) s b ≤ b + 1 - s
        go (no l) c = omega (arith, no_more s s b (λ v p k o. omega (arith, o)), room_others s b)
        go (yes l) (yes m) = omega (arith, no_more s w.first b (λ v p k o. p.0), room_less b m)
        go (yes l) (no m) = omega (arith, no_more s (suc w.first) b (λ v p k o. lt_of_not-le (λ c. m (omega (arith, p.1 c)))), room_others (suc w.first) b)

-- slots of windows that open after the first slot of w are slots of the windows themselves, and that slot is none of them
slots_after : (w : Window) (ws : List Window) (ts : List ℕ) → Assigned (map (open_after w) ws) ts → Assigned ws ts × (Member w.first ts → ⊥)
slots_after w [] [] a = (tt, λ m. m)
slots_after w [] (t ∷ ts) a = absurd a
slots_after w (v ∷ ws) [] a = absurd a
slots_after w (v ∷ ws) (t ∷ ts) a =
    let others = slots_after w ws ts a.2 in
    ((omega (arith, a.0), a.1, others.0), ⊎_elim (λ e. omega (arith, e, a.0)) others.1)

-- where the others do not use the first slot of w, it is put among theirs in the place of w, and no other slot comes in
put : (xs : List Window) (w : Window) (ys : List Window) (ts : List ℕ) → w.first ≤ w.last
    → Assigned (xs ++ ys) ts → (Member w.first ts → ⊥) → Apart ts
    → (us : List ℕ) × Assigned (xs ++ w ∷ ys) us × Apart us × ((t : ℕ) → Member t us → Member t (w.first ∷ ts))
put [] w ys ts l a away p = (w.first ∷ ts, (le_refl _, l, a), (away, p), λ t k. k)
put (v ∷ xs) w ys [] l a away p = absurd a
put (v ∷ xs) w ys (t ∷ ts) l a away p =
    let others = put xs w ys ts l a.2 (λ k. away (inr k)) p.1 in (
      t ∷ others.0,
      (a.0, a.1, others.1),
      (λ k. ⊎_elim (λ e. away (inl (sym e))) p.0 (others.3 t k), others.2),
      λ u k. ⊎_elim (λ e. inr (inl e)) (λ i. ⊎_elim inl (λ j. inr (inr j)) (others.3 u i)) k,
    )

serve : (n : ℕ) (ws : List Window) → length ws ≡ n → Room ws → Served ws
serve zero [] l room = ([], tt, tt)
serve zero (w ∷ ws) l room = absurd (omega arith)
serve (suc n) [] l room = absurd (omega arith)
serve (suc n) (w ∷ ws) l room =
    let (xs, v, ys, same, least) = earliest w ws in
    let split : Room (xs ++ v ∷ ys) = subst Room same room in
    let fewer : length (map (open_after v) (xs ++ ys)) ≡ n =
    omega (arith, l, ap length same, length-append xs (v ∷ ys), length-append xs ys, length-map (xs ++ ys) (open_after v)) in
    let (ts, after, apart) = serve n (map (open_after v) (xs ++ ys)) fewer (room_after_lem xs v ys split least) in
    let (assigned, away) = slots_after v (xs ++ ys) ts after in
    let fits : v.first ≤ v.last = omega (arith, room_less xs v ys split v.last (le_refl _)) in
    let (us, assigned', apart', _) = put xs v ys ts fits assigned away apart in
    subst Served (sym same) (us, assigned', apart')

-- the cells from cell i on are sent in the slots, in order
abbrev plan_from : ℕ → List ℕ → List Sending
plan_from i [] = []
plan_from i (t ∷ ts) = record { cell = i; slot = t } ∷ plan_from (suc i) ts

-- the windows before cell i stand in front
plan_allowed : (front ws : List Window) (slots ts : List ℕ) → ((t : ℕ) → Member t ts → Member t slots) → Assigned ws ts
    → Each (Allowed (front ++ ws) slots) (plan_from (length front) ts)
plan_allowed front ws slots [] among a = tt
plan_allowed front [] slots (t ∷ ts) among a = absurd a
plan_allowed front (w ∷ ws) slots (t ∷ ts) among a =
    let window = get_or-append_seam front w ws no_window in (
      (omega (arith, length-append front (w ∷ ws)), among t (inl refl), rw window a.0, rw window a.1),
      rw (append_snoc front w ws, length-append front (w ∷ []), add-one) at (plan_allowed (front ++ w ∷ []) ws slots ts (λ u m. among u (inr m)) a.2),
    )

plan_cells : (i : ℕ) (ts : List ℕ) (c : ℕ) → Member c (map (λ (s : Sending). s.cell) (plan_from i ts)) → i ≤ c
plan_cells i [] c m = absurd m
plan_cells i (t ∷ ts) c m = ⊎_elim (λ e. omega (arith, e)) (λ k. omega (arith, plan_cells (suc i) ts c k)) m

cells_apart_lem : (i : ℕ) (ts : List ℕ) → Apart (map (λ (s : Sending). s.cell) (plan_from i ts))
cells_apart_lem i [] = tt
cells_apart_lem i (t ∷ ts) = (λ m. omega (arith, plan_cells (suc i) ts i m), cells_apart_lem (suc i) ts)

plan_slots : (i : ℕ) (ts : List ℕ) → map (λ (s : Sending). s.slot) (plan_from i ts) ≡ ts
plan_slots i [] = refl
plan_slots i (t ∷ ts) = ap (λ (us : List ℕ). t ∷ us) (plan_slots (suc i) ts)

plan_length : (i : ℕ) (ws : List Window) (ts : List ℕ) → Assigned ws ts → length (plan_from i ts) ≡ length ws
plan_length i [] [] a = refl
plan_length i [] (t ∷ ts) a = absurd a
plan_length i (w ∷ ws) [] a = absurd a
plan_length i (w ∷ ws) (t ∷ ts) a = ap suc (plan_length (suc i) ws ts a.2)

-- all windows can be served, each in a slot of its own, where no slots from s to b are too few for the windows that lie in them
pub all_served : (ws : List Window) → ((s b : ℕ) → due ws s b ≤ b + 1 - s)
    → (slots : List ℕ) × (plan : List Sending) × Plan ws slots plan × (length plan ≡ length ws)
all_served ws room =
    let (ts, assigned, apart) = serve (length ws) ws refl room in
    let allowed = plan_allowed [] ws ts ts (λ t m. m) assigned in
    let slots_apart = subst Apart (sym (plan_slots 0 ts)) apart in
    (ts, plan_from 0 ts, record { allowed = allowed; cells_apart = cells_apart_lem 0 ts; slots_apart = slots_apart }, plan_length 0 ws ts assigned)
