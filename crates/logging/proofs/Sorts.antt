-- What a call is to the log, with the facts of the call; and an event is well formed exactly where it is that of a call within the limits.
use mathlib.Core.Path.{◌≡◌, refl, sym, ◌∙◌, ap}
use mathlib.Core.Bool.{Bool, true, false, cond, ◌||◌, true≢false}
use Prim.Native.Nat.{ℕ, zero, suc, ◌≤◌, ◌<◌}
use native.Mathlib.Omega.{arith}
use borrow.Author.Tests.{ltb-false, ne_eqb}
use lib.Dec.{ltb}
use Rattle.units.specs.Limits.{no_such_flow, bad_weight, bad_deadline, bad_length}
use Rattle.station.specs.declared.Call.{Call}
use Rattle.station.specs.declared.Call.TheVariants.{OpenUrgent, OpenFair, CloseUrgent, CloseFair, OfferCell, OfferPacket, OpenTurn, LostTurn, Begin, End}
use Rattle.log_format.specs.declared.Form.TheVariants.{Own}
use Rattle.log_format.specs.Format.{Event, bad_event}
use Rattle.log_format.proofs.Tests.{or_false}
use Rattle.logging.specs.Sorts.{Sort, beyond, opens_urgent, opens_fair, closes, happens, event, sort_of}
use Rattle.logging.specs.Replay.{call_in}

-- ---- sorts told apart
abbrev pub is_beyond : Sort → Bool
is_beyond beyond = true
is_beyond (opens_urgent flow deadline) = false
is_beyond (opens_fair flow weight) = false
is_beyond closes = false
is_beyond (happens e) = false

abbrev pub is_event : Sort → Bool
is_event beyond = false
is_event (opens_urgent flow deadline) = false
is_event (opens_fair flow weight) = false
is_event closes = false
is_event (happens e) = true

-- a sort that is beyond the limits where a test says so, and else another
pub is_past : (t : Bool) (x : Sort) → is_beyond x ≡ false → cond t beyond x ≡ beyond → t ≡ true
is_past true x n e = refl
is_past false x n e = absurd (true≢false (sym (ap is_beyond e) ∙ n))

no_event : (x : Sort) (e : Event) → is_event x ≡ false → x ≡ happens e → ⊥
no_event x e n q = true≢false (sym (ap is_event q) ∙ n)

never_event : (t : Bool) (x : Sort) (e : Event) → is_event x ≡ false → cond t beyond x ≡ happens e → ⊥
never_event true x e n q = no_event beyond e refl q
never_event false x e n q = no_event x e n q

an_event : (t : Bool) (d e : Event) → cond t beyond (happens d) ≡ happens e → (t ≡ false) × (d ≡ e)
an_event true d e q = absurd (no_event beyond e refl q)
an_event false d e q = (refl, cc)

-- ---- an event and its call
-- an event is well formed, and is that of the call
abbrev pub EventOf : Call → Event → Type 0
EventOf call e = (bad_event Own e.kind e.flow e.number ≡ false) × (call_in e ≡ call)

pub event_only : (call : Call) (e : Event) → sort_of call ≡ happens e → EventOf call e
event_only (OpenUrgent flow deadline) e q = absurd (never_event (no_such_flow flow || bad_deadline deadline) (opens_urgent flow deadline) e refl q)
event_only (OpenFair flow weight) e q = absurd (never_event (no_such_flow flow || bad_weight weight) (opens_fair flow weight) e refl q)
event_only (CloseUrgent flow) e q = absurd (never_event (no_such_flow flow) closes e refl q)
event_only (CloseFair flow) e q = absurd (never_event (no_such_flow flow) closes e refl q)
event_only OpenTurn e q = rw (← (an_event false (event 0 0 0) e q).1) (refl, refl)
event_only LostTurn e q = rw (← (an_event false (event 1 0 0) e q).1) (refl, refl)
event_only (OfferCell flow deadline) e q =
    let h = an_event (no_such_flow flow || bad_deadline deadline) (event 2 flow deadline) e q in rw (← h.1) (h.0, refl)
event_only (OfferPacket flow length) e q = let h = an_event (no_such_flow flow || bad_length length) (event 3 flow length) e q in rw (← h.1) (h.0, refl)
event_only Begin e q = rw (← (an_event false (event 4 0 0) e q).1) (refl, refl)
event_only End e q = rw (← (an_event false (event 5 0 0) e q).1) (refl, refl)

-- a good event has one of the six kinds
zeros : (kind flow number : ℕ) → (ltb 5 kind || ltb 0 flow || ltb 0 number) ≡ false → (kind ≤ 5) × (flow ≡ 0) × (number ≡ 0)
zeros kind flow number e =
    let h = or_false (ltb 5 kind || ltb 0 flow) (ltb 0 number) e in
    let i = or_false (ltb 5 kind) (ltb 0 flow) h.0 in
    (ltb-false 5 kind i.0, omega (arith, ltb-false 0 flow i.1), omega (arith, ltb-false 0 number h.1))

none_above : (kind flow number : ℕ) → 5 < kind → bad_event Own kind flow number ≡ false → sort_of (call_in (event kind flow number)) ≡ happens (event kind flow number)
none_above kind flow number l b =
    let h = rw (ne_eqb kind 3 (λ q. omega arith), ne_eqb kind 2 (λ q. omega arith)) at b in
    absurd (omega (arith, (zeros kind flow number h).0))

pub event_good : (e : Event) → bad_event Own e.kind e.flow e.number ≡ false → sort_of (call_in e) ≡ happens e
event_good e = kinds e.kind e.flow e.number
  where
    kinds : (kind flow number : ℕ) → bad_event Own kind flow number ≡ false → sort_of (call_in (event kind flow number)) ≡ happens (event kind flow number)
    kinds zero flow number b = let z = zeros 0 flow number b in rw (z.1, z.2)
    kinds (suc zero) flow number b = let z = zeros 1 flow number b in rw (z.1, z.2)
    kinds (suc (suc zero)) flow number b = rw b
    kinds (suc (suc (suc zero))) flow number b = rw b
    kinds (suc (suc (suc (suc zero)))) flow number b = let z = zeros 4 flow number b in rw (z.1, z.2)
    kinds (suc (suc (suc (suc (suc zero))))) flow number b = let z = zeros 5 flow number b in rw (z.1, z.2)
    kinds (suc (suc (suc (suc (suc (suc k)))))) flow number b = none_above (suc (suc (suc (suc (suc (suc k)))))) flow number (omega arith) b

-- ---- every call, by its sort
pub data View (call : Call) : Sort → Type 0 where
  is_beyond_lem : sort_of call ≡ beyond → View call beyond
  is_urgent : (flow deadline : ℕ) → call ≡ OpenUrgent flow deadline → flow ≤ 15 → bad_deadline deadline ≡ false → View call (opens_urgent flow deadline)
  is_fair : (flow weight : ℕ) → call ≡ OpenFair flow weight → flow ≤ 15 → bad_weight weight ≡ false → View call (opens_fair flow weight)
  is_closing : View call closes
  is_event_lem : (e : Event) → bad_event Own e.kind e.flow e.number ≡ false → call_in e ≡ call → View call (happens e)

opening : (call : Call) (flow : ℕ) (bad : Bool) (x : Sort) → sort_of call ≡ cond (no_such_flow flow || bad) beyond x
    → (flow ≤ 15 → bad ≡ false → View call x) → View call (cond (no_such_flow flow || bad) beyond x)
opening call flow bad x q made = go (no_such_flow flow) refl bad refl
  where
    go : (a : Bool) → no_such_flow flow ≡ a → (b : Bool) → bad ≡ b → View call (cond (a || b) beyond x)
    go true p b r = is_beyond_lem (q ∙ rw p)
    go false p true r = is_beyond_lem (q ∙ rw (p, r))
    go false p false r = made (ltb-false 15 flow p) r

closing : (call : Call) (t : Bool) → sort_of call ≡ cond t beyond closes → View call (cond t beyond closes)
closing call true e = is_beyond_lem e
closing call false e = is_closing

happening : (call : Call) (e : Event) → sort_of call ≡ happens e → View call (happens e)
happening call e q = let h = event_only call e q in is_event_lem e h.0 h.1

offering : (call : Call) (t : Bool) (e : Event) → sort_of call ≡ cond t beyond (happens e) → View call (cond t beyond (happens e))
offering call true e q = is_beyond_lem q
offering call false e q = happening call e q

pub view : (call : Call) → View call (sort_of call)
view (OpenUrgent flow deadline) =
    opening (OpenUrgent flow deadline) flow (bad_deadline deadline) (opens_urgent flow deadline) refl (λ l b. is_urgent flow deadline refl l b)
view (OpenFair flow weight) =
    opening (OpenFair flow weight) flow (bad_weight weight) (opens_fair flow weight) refl (λ l b. is_fair flow weight refl l b)
view (CloseUrgent flow) = closing (CloseUrgent flow) (no_such_flow flow) refl
view (CloseFair flow) = closing (CloseFair flow) (no_such_flow flow) refl
view (OfferCell flow deadline) =
    offering (OfferCell flow deadline) (no_such_flow flow || bad_deadline deadline) (event 2 flow deadline) refl
view (OfferPacket flow length) = offering (OfferPacket flow length) (no_such_flow flow || bad_length length) (event 3 flow length) refl
view OpenTurn = happening OpenTurn (event 0 0 0) refl
view LostTurn = happening LostTurn (event 1 0 0) refl
view Begin = happening Begin (event 4 0 0) refl
view End = happening End (event 5 0 0) refl
