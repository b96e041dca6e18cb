-- What each class of a tree sees of the calls and answers.
use Rattle.std.specs.Prelude.{◌≡◌, Bool, false, cond, ◌&&◌, ◌||◌, List, [], ◌∷◌, ℕ, zero, suc, ◌*◌, ◌<◌, eqb, ltb, Option, None, Some}
use Rattle.units.specs.Charges.{charge_of}
use Rattle.plans.specs.declared.Plan.{Plan}
use Rattle.plans.specs.Numbered.{any_from}
use Rattle.plans.specs.Plans.{parent_in, class_in}
use Rattle.plans.specs.Plans.{weight_in as weight_of_class}
use Rattle.promises_queue.specs.Packets.{weight_in}
use Rattle.promises_queue.specs.Refused.{waiting_in}
use Rattle.promises_classes.specs.Events.{opened, closed, accepted, began, ceased, History, packets_in}
use Rattle.promises_classes.specs.Rules.{Child, a_class, a_flow, same, Seen, gets, begins, ends}

-- some element of a list passes a test
unfoldable pub any_of : {A : Type 0} → (A → Bool) → List A → Bool
any_of test [] = false
any_of test (x ∷ xs) = test x || any_of test xs

-- the class that a child hangs from
abbrev pub parent_of : Plan → Child → ℕ
parent_of p (a_class k) = parent_in p k
parent_of p (a_flow f) = class_in p f

-- the children of a class
abbrev pub HangsFrom : Plan → ℕ → Child → Type 0
HangsFrom p c (a_class k) = (0 < k) × (k < p.count) × (parent_in p k ≡ c)
HangsFrom p c (a_flow f) = (f < 16) × (class_in p f ≡ c)

-- the weight of a child: that of a class is described with it, that of a flow is that of its newest opening
abbrev pub weight_of : Plan → History → Child → ℕ
weight_of p h (a_class k) = weight_of_class p k
weight_of p h (a_flow f) = weight_in (packets_in h) f

-- the children on the way from one of them up to the root, in at most n steps
unfoldable pub way_from : ℕ → Plan → Child → List Child
way_from zero p x = []
way_from (suc n) p x = x ∷ cond (eqb (parent_of p x) 0) [] (way_from n p (a_class (parent_of p x)))

-- the way of a flow: itself, and the classes between it and the root, at most three
abbrev pub way_to : Plan → ℕ → List Child
way_to p f = way_from 4 p (a_flow f)

-- a flow is below every child that is on its way, and below the root
abbrev pub below : Plan → Child → ℕ → Bool
below p (a_flow g) f = eqb g f
below p (a_class k) f = eqb k 0 || any_of (same (a_class k)) (way_to p f)

-- a child has something to send: some packet of a flow below it is accepted and not begun
unfoldable pub sends : Plan → History → Child → Bool
sends p h x = any_from (λ f. below p x f && ltb 0 (waiting_in (packets_in h) f)) 0 16

-- the child of a class that is on a way, if any is
unfoldable pub child_on : Plan → ℕ → List Child → Option Child
child_on p c [] = None
child_on p c (x ∷ xs) = cond (eqb (parent_of p x) c) (Some x) (child_on p c xs)

-- a packet accepted, begun or ended, as a class sees it: by its child on the way, and not at all where there is none
abbrev pub see_offer : Plan → History → Option Child → List Seen → List Seen
see_offer p h None es = es
see_offer p h (Some x) es = cond (sends p h x) es (gets x ∷ es)

abbrev pub see_begin : Plan → History → ℕ → Option Child → List Seen → List Seen
see_begin p h length None es = es
see_begin p h length (Some x) es = begins x (length * charge_of (weight_of p h x)) ∷ es

abbrev pub see_end : Plan → History → ℕ → Option Child → List Seen → List Seen
see_end p h c None es = es
see_end p h c (Some x) es = ends x (sends p h x) (sends p h (a_class c)) ∷ es

-- what a class sees
unfoldable pub seen : Plan → ℕ → History → List Seen
seen p c [] = []
seen p c (opened f w ∷ h) = seen p c h
seen p c (closed f ∷ h) = seen p c h
seen p c (accepted f n length ∷ h) = see_offer p h (child_on p c (way_to p f)) (seen p c h)
seen p c (began f n length s ∷ h) = see_begin p h length (child_on p c (way_to p f)) (seen p c h)
seen p c (ceased f n length ∷ h) = see_end p h c (child_on p c (way_to p f)) (seen p c h)
