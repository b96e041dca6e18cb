-- What waits below a child, read off the history: how each event changes it, and that it says whether there is something to send.
use mathlib.Core.Path.{◌≡◌, refl, sym, ◌∙◌, ap}
use mathlib.Core.Bool.{Bool, true, false, cond, not, ◌&&◌, ◌||◌, false≢true}
use mathlib.Core.List.{[], ◌∷◌}
use Prim.Native.Nat.{ℕ, zero, suc, ◌+◌, ◌*◌, ◌≤◌, ◌<◌}
use native.Mathlib.Omega.{arith}
use borrow.Author.Tests.{ltb-true, ltb-false, eqb-true, eqb-false, ne_eqb}
use lib.Dec.{eqb, ltb}
use Rattle.places.specs.Places.{bit, count}
use Rattle.plans.specs.declared.Plan.{Plan}
use Rattle.plans.specs.Numbered.{any_from}
use Rattle.promises_queue.specs.Packets.{was_begun}
use Rattle.promises_queue.specs.Refused.{waiting_in}
use Rattle.promises_classes.specs.Events.{History, opened, closed, ceased, packets_in}
use Rattle.promises_classes.specs.Rules.{Child, a_class, a_flow}
use Rattle.promises_classes.specs.Views.{any_of, parent_of, way_from, way_to, below, sends}
use Rattle.promises_classes.specs.Promised.{waiting_from, waiting_below}
use Rattle.promises_classes.proofs.On.{on}
use Rattle.promises_classes.proofs.Ways.{Sound}

-- an opening leaves what waits of each flow
pub open_waiting : (h : History) (f weight i : ℕ) → waiting_in (packets_in (opened f weight ∷ h)) i ≡ waiting_in (packets_in h) i
unfolding packets_in
open_waiting h f weight i = refl

-- so does a closing
pub close_waiting : (h : History) (f i : ℕ) → waiting_in (packets_in (closed f ∷ h)) i ≡ waiting_in (packets_in h) i
unfolding packets_in
close_waiting h f i = refl

-- and an end
pub end_waiting : (h : History) (f number bytes i : ℕ) → waiting_in (packets_in (ceased f number bytes ∷ h)) i ≡ waiting_in (packets_in h) i
unfolding packets_in was_begun
end_waiting h f number bytes i = refl

-- Of two histories that tell the same of all flows but one, the sums over the flows below a child.
module _ (p : Plan) (x : Child) (h g : History) (f : ℕ) (others : (i : ℕ) → (f ≡ i → ⊥) → waiting_in (packets_in g) i ≡ waiting_in (packets_in h) i) where
  -- from a later flow on
  sum_else : (k n : ℕ) → f < k → waiting_from p g x k n ≡ waiting_from p h x k n
  unfolding waiting_from
  sum_else k zero l = refl
  sum_else k (suc n) l =
      let e = others k (λ q. omega (arith, l, q)) in
      let r = sum_else (suc k) n (omega (arith, l)) in
      rw (e, r)

  -- where the flow has one more
  pub sum_more : waiting_in (packets_in g) f ≡ waiting_in (packets_in h) f + 1 → (k n : ℕ) → k ≤ f → f < k + n → waiting_from p g x k n ≡ waiting_from p h x k n + bit (below p x f)
  unfolding waiting_from
  sum_more m k zero a b = absurd (omega (arith, a, b))
  sum_more m k (suc n) a b = go (sum_more m (suc k) n) (eqb f k) refl
    where
      here : f ≡ k → (t : Bool) → cond t (waiting_in (packets_in g) k) 0 + waiting_from p g x (suc k) n ≡ cond t (waiting_in (packets_in h) k) 0 + waiting_from p h x (suc k) n + bit t
      here e true =
          let w : waiting_in (packets_in g) k ≡ waiting_in (packets_in h) k + 1 = rw e at m in
          let r = sum_else (suc k) n (omega (arith, e)) in
          omega (arith, w, r)
      here e false = let r = sum_else (suc k) n (omega (arith, e)) in omega (arith, r)

      there : (t : Bool) → waiting_in (packets_in g) k ≡ waiting_in (packets_in h) k → waiting_from p g x (suc k) n ≡ waiting_from p h x (suc k) n + bit (below p x f)
          → cond t (waiting_in (packets_in g) k) 0 + waiting_from p g x (suc k) n ≡ cond t (waiting_in (packets_in h) k) 0 + waiting_from p h x (suc k) n + bit (below p x f)
      there true e r = omega (arith, e, r)
      there false e r = omega (arith, r)

      go : (suc k ≤ f → f < suc k + n → waiting_from p g x (suc k) n ≡ waiting_from p h x (suc k) n + bit (below p x f)) → (b : Bool) → eqb f k ≡ b
          → cond (below p x k) (waiting_in (packets_in g) k) 0 + waiting_from p g x (suc k) n ≡ cond (below p x k) (waiting_in (packets_in h) k) 0 + waiting_from p h x (suc k) n + bit (below p x f)
      go ih true q = let e = eqb-true f k q in here e (below p x k) ∙ ap (λ j. cond (below p x k) (waiting_in (packets_in h) k) 0 + waiting_from p h x (suc k) n + bit (below p x j)) (sym e)
      go ih false q =
          let ne : f ≡ k → ⊥ = eqb-false f k q in
          there (below p x k) (others k ne) (ih (omega (arith, ne, a)) (omega (arith, b)))

-- where the flow has one less
pub sum_less : (p : Plan) (x : Child) (h g : History) (f : ℕ) → ((i : ℕ) → (f ≡ i → ⊥) → waiting_in (packets_in g) i ≡ waiting_in (packets_in h) i) → f < 16
    → waiting_in (packets_in g) f + 1 ≡ waiting_in (packets_in h) f → waiting_below p g x + bit (below p x f) ≡ waiting_below p h x
sum_less p x h g f others low m = sym (sum_more p x g h f (λ i n. sym (others i n)) (sym m) 0 16 (omega arith) (omega (arith, low)))

-- where nothing changes
pub sum_same : (p : Plan) (x : Child) (h g : History) → ((i : ℕ) → waiting_in (packets_in g) i ≡ waiting_in (packets_in h) i) → (k n : ℕ) → waiting_from p g x k n ≡ waiting_from p h x k n
unfolding waiting_from
sum_same p x h g e k zero = refl
sum_same p x h g e k (suc n) = let a = e k in let r = sum_same p x h g e (suc k) n in rw (a, r)

-- at most sixteen of each flow, so at most 256
pub sum_few : (p : Plan) (x : Child) (h : History) → ((i : ℕ) → waiting_in (packets_in h) i ≤ 16) → (k n : ℕ) → waiting_from p h x k n ≤ n * 16
unfolding waiting_from
sum_few p x h few k zero = omega arith
sum_few p x h few k (suc n) = go (below p x k) (few k) (sum_few p x h few (suc k) n)
  where
    go : (t : Bool) → waiting_in (packets_in h) k ≤ 16 → waiting_from p h x (suc k) n ≤ n * 16 → cond t (waiting_in (packets_in h) k) 0 + waiting_from p h x (suc k) n ≤ suc n * 16
    go true a b = omega (arith, a, b)
    go false a b = omega (arith, b)

-- some flow below a child waits where the sum is not 0
any_sum : (p : Plan) (x : Child) (h : History) (k n : ℕ)
    → any_from (λ f. below p x f && ltb 0 (waiting_in (packets_in h) f)) k n ≡ not (eqb (waiting_from p h x k n) 0)
unfolding any_from waiting_from
any_sum p x h k zero = refl
any_sum p x h k (suc n) = rw (any_sum p x h (suc k) n) (go (below p x k) (ltb 0 (waiting_in (packets_in h) k)) refl)
  where
    go : (t b : Bool) → ltb 0 (waiting_in (packets_in h) k) ≡ b
        → ((t && b) || not (eqb (waiting_from p h x (suc k) n) 0)) ≡ not (eqb (cond t (waiting_in (packets_in h) k) 0 + waiting_from p h x (suc k) n) 0)
    go true true q = let l = ltb-true 0 (waiting_in (packets_in h) k) q in rw (ne_eqb (waiting_in (packets_in h) k + waiting_from p h x (suc k) n) 0 (λ e. omega (arith, l, e)))
    go true false q =
        let l = ltb-false 0 (waiting_in (packets_in h) k) q in
        let e : waiting_in (packets_in h) k + waiting_from p h x (suc k) n ≡ waiting_from p h x (suc k) n = omega (arith, l) in
        rw e
    go false b q = let e : 0 + waiting_from p h x (suc k) n ≡ waiting_from p h x (suc k) n = omega arith in rw e

-- a child has something to send where the count of what waits below it is not 0
pub sends_count : (p : Plan) (x : Child) (h : History) → sends p h x ≡ not (eqb (waiting_below p h x) 0)
unfolding sends
sends_count p x h = any_sum p x h 0 16

-- the flows below a child are those whose way it is on
pub below_on : (p : Plan) (x : Child) (f : ℕ) → Sound p x → below p x f ≡ on x (way_to p f)
unfolding way_from any_of
below_on p (a_class k) f s = rw (ne_eqb k 0 (λ e. omega (arith, e, s.0)))
below_on p (a_flow g) f s = go (eqb g f) (eqb (parent_of p (a_flow f)) 0)
  where
    none : (n : ℕ) (j : ℕ) → on (a_flow g) (way_from n p (a_class j)) ≡ false
    none zero j = refl
    none (suc n) j = pick (eqb (parent_of p (a_class j)) 0) (none n (parent_of p (a_class j)))
      where
        pick : (b : Bool) → on (a_flow g) (way_from n p (a_class (parent_of p (a_class j)))) ≡ false
            → on (a_flow g) (cond b [] (way_from n p (a_class (parent_of p (a_class j))))) ≡ false
        pick true e = refl
        pick false e = e

    go : (t b : Bool) → t ≡ (t || on (a_flow g) (cond b [] (way_from 3 p (a_class (parent_of p (a_flow f))))))
    go true b = refl
    go false true = refl
    go false false = sym (none 3 (parent_of p (a_flow f)))

-- before any call nothing waits
pub sum_none : (p : Plan) (x : Child) (k n : ℕ) → waiting_from p [] x k n ≡ 0
unfolding waiting_from packets_in count
sum_none p x k zero = refl
sum_none p x k (suc n) = go (below p x k) (sum_none p x (suc k) n)
  where
    go : (t : Bool) → waiting_from p [] x (suc k) n ≡ 0 → cond t (waiting_in (packets_in []) k) 0 + waiting_from p [] x (suc k) n ≡ 0
    go true e = rw e
    go false e = rw e

-- what has something to send has a count above 0
pub sends_pos : (p : Plan) (h : History) (x : Child) → sends p h x ≡ true → 0 < waiting_below p h x
sends_pos p h x e = go (eqb (waiting_below p h x) 0) refl (sym (sends_count p x h) ∙ e)
  where
    go : (b : Bool) → eqb (waiting_below p h x) 0 ≡ b → not b ≡ true → 0 < waiting_below p h x
    go true q r = absurd (false≢true r)
    go false q r = let n : waiting_below p h x ≡ 0 → ⊥ = eqb-false (waiting_below p h x) 0 q in omega (arith, n)

-- and the other way round
pub pos_sends : (p : Plan) (h : History) (x : Child) → 0 < waiting_below p h x → sends p h x ≡ true
pos_sends p h x l = sends_count p x h ∙ ap not (ne_eqb (waiting_below p h x) 0 (λ e. omega (arith, l, e)))
