-- The log of a good log's calls is that log, with each cell's own deadline.
use mathlib.Core.Path.{◌≡◌, refl, sym, ◌∙◌, ap}
use mathlib.Core.Bool.{true, false, ◌||◌}
use mathlib.Core.List.{List, [], ◌∷◌, ◌++◌, map, append_assoc, append-nil}
use Prim.Native.Nat.{ℕ, zero, suc, ◌+◌, ◌-◌, ◌≤◌}
use native.Mathlib.Omega.{arith}
use borrow.Author.Tests.{le-ltb, eq-eqb, ne_eqb}
use lib.Dec.{ltb, eqb}
use lib.ListN.{get_or, replicate, length, length-append, length-replicate, replicate-append-replicate}
use lib.Seq.{set_at, get_or_at}
use Rattle.units.specs.Limits.{no_such_flow, bad_weight, bad_deadline, outside_of}
use Rattle.station.specs.declared.Call.{Call}
use Rattle.log_format.specs.declared.Form.TheVariants.{Own}
use Rattle.log_format.specs.Format.{Opening, Event, Log, GoodLog, GoodOpenings, GoodEvents, most_deadline, most_weight}
use Rattle.log_format.specs.Own.{own_log}
use Rattle.log_format.proofs.Tests.{or_false}
use Rattle.log_format.proofs.There.{opening_flow, opening_number}
use Rattle.log_format.proofs.Own.{own_log_lem}
use Rattle.logging.specs.Sorts.{Sort}
use Rattle.logging.specs.Logging.{Opened, nothing_opened, opened_with, listed, log_with, log_by, log_from, log_of, events_by, events_of}
use Rattle.logging.specs.Replay.{open_urgent, open_fair, call_in, calls_of}
use Rattle.logging.proofs.Sorts.{event_good}
use Rattle.logging.proofs.Lists.{listed_append}

-- ---- lists of openings
listed_zeros : (flow k : ℕ) → listed flow (replicate k 0) ≡ []
unfolding listed
listed_zeros flow zero = refl
listed_zeros flow (suc k) = listed_zeros (flow + 1) k

-- flows that were not opened are not listed
not_listed : (ns : List ℕ) (k : ℕ) → listed 0 (ns ++ replicate k 0) ≡ listed 0 ns
not_listed ns k =
    listed_append 0 (length ns) ns (replicate k 0) (omega arith)
    ∙ ap (λ (t : List Opening). listed 0 ns ++ t) (listed_zeros (length ns) k)
    ∙ append-nil (listed 0 ns)

-- the next flow, opened
module _ (ns : List ℕ) (u : Opening) (l : length ns ≡ u.flow) where
  next_listed : 1 ≤ u.number → listed 0 (ns ++ (u.number ∷ [])) ≡ listed 0 ns ++ (u ∷ [])
  unfolding listed
  next_listed n =
      listed_append 0 u.flow ns (u.number ∷ []) (omega (arith, l))
      ∙ ap (λ (t : List Opening). listed 0 ns ++ t) (rw (ne_eqb u.number 0 (λ q. omega arith)))

  next_opened : (m : ℕ) → opened_with (ns ++ (0 ∷ replicate m 0)) u.flow u.number ≡ (ns ++ (u.number ∷ [])) ++ replicate m 0
  next_opened m =
      let z : eqb (get_or (ns ++ (0 ∷ replicate m 0)) u.flow 0) 0 ≡ true = eq-eqb _ 0 (get_or_at ns 0 (replicate m 0) 0 u.flow l) in
      rw z (set_at ns 0 (replicate m 0) u.number u.flow l ∙ sym (append_assoc ns (u.number ∷ []) (replicate m 0)))

-- ---- the openings of one lane, logged again: those of flows below the least stand, and the flows from it on are not yet opened
module _ (build : List ℕ → Opened) (call : Opening → Call) (most : ℕ)
    (step : (ns : List ℕ) (o : Opening) (rest : List Call) → o.flow ≤ 15 → outside_of o.number most ≡ false
    → log_from (build ns) (call o ∷ rest) ≡ log_from (build (opened_with ns o.flow o.number)) rest) where
  abbrev Again : List ℕ → ℕ → List Opening → List Call → Type 0
  Again before k us rest =
      (ns : List ℕ) × (listed 0 ns ≡ listed 0 before ++ us) × (log_from (build (before ++ replicate k 0)) (map call us ++ rest) ≡ log_from (build ns) rest)

  -- some flows passed over, and then one opened
  one_again : (before : List ℕ) (j m k : ℕ) (u : Opening) (us : List Opening) (rest : List Call) → k ≡ j + suc m → length (before ++ replicate j 0) ≡ u.flow
      → u.flow ≤ 15 → 1 ≤ u.number → outside_of u.number most ≡ false
      → Again ((before ++ replicate j 0) ++ (u.number ∷ [])) m us rest → Again before k (u ∷ us) rest
  one_again before j m k u us rest a l f n good r =
      let zeros : replicate {A = ℕ} k 0 ≡ replicate j 0 ++ (0 ∷ replicate m 0) = ap (λ (i : ℕ). replicate {A = ℕ} i 0) a ∙ sym (replicate-append-replicate {A = ℕ} j (suc m) 0) in
      let shape : before ++ replicate k 0 ≡ (before ++ replicate j 0) ++ (0 ∷ replicate m 0) =
      ap (λ (t : List ℕ). before ++ t) zeros ∙ sym (append_assoc before (replicate j 0) (0 ∷ replicate m 0)) in (
        r.0,
        r.1
            ∙ ap (λ (t : List Opening). t ++ us) (next_listed (before ++ replicate j 0) u l n ∙ ap (λ (t : List Opening). t ++ (u ∷ [])) (not_listed before j))
            ∙ append_assoc (listed 0 before) (u ∷ []) us,
        ap (λ (ns : List ℕ). log_from (build ns) (call u ∷ (map call us ++ rest))) shape
            ∙ step ((before ++ replicate j 0) ++ (0 ∷ replicate m 0)) u (map call us ++ rest) f good
            ∙ ap (λ (ns : List ℕ). log_from (build ns) (map call us ++ rest)) (next_opened (before ++ replicate j 0) u l m)
            ∙ r.2,
      )

  logged_again : (us : List Opening) (before : List ℕ) (k least : ℕ) (rest : List Call) → length before ≡ least → least + k ≡ 16 → GoodOpenings most least us
      → Again before k us rest
  logged_again [] before k least rest e f g = (before ++ replicate k 0, not_listed before k ∙ sym (append-nil (listed 0 before)), refl)
  logged_again (u ∷ us) before k least rest e f g =
      let w = opening_flow most least u.flow u.number g.0 in
      let j = u.flow - least in
      let long : length (before ++ replicate j 0) ≡ u.flow =
      length-append before (replicate j 0) ∙ omega (arith, length-replicate {A = ℕ} j 0, e, w.0) in
      one_again before j (15 - u.flow) k u us rest (omega (arith, w.0, w.1)) long w.1 (opening_number most least u.flow u.number g.0).0
      (or_false (ltb u.flow least || no_such_flow u.flow) (outside_of u.number most) g.0).1
      (logged_again us ((before ++ replicate j 0) ++ (u.number ∷ [])) (15 - u.flow) (u.flow + 1) rest
      (length-append (before ++ replicate j 0) (u.number ∷ []) ∙ omega (arith, long))
      (omega (arith, w.1))
      g.1)

-- ---- the events, logged again
on_again : (es : List Event) → GoodEvents Own es → events_of (map call_in es) ≡ es
unfolding events_of
on_again [] g = refl
on_again (e ∷ es) g = ap (λ (x : Sort). events_by x (events_of (map call_in es))) (event_good e g.0) ∙ ap (λ (t : List Event). e ∷ t) (on_again es g.1)

events_again : (o : Opened) (es : List Event) → GoodEvents Own es → log_from o (map call_in es) ≡ log_with o es
unfolding log_from
events_again o [] g = refl
events_again o (e ∷ es) g =
    ap (λ (x : Sort). log_by o x (λ (p : Opened). log_from p (map call_in es)) (events_of (map call_in es))) (event_good e g.0)
    ∙ ap (λ (t : List Event). log_with o (e ∷ t)) (on_again es g.1)

-- ---- the whole log
urgent_step : (ws ns : List ℕ) (o : Opening) (rest : List Call) → o.flow ≤ 15 → bad_deadline o.number ≡ false
    → log_from (record { deadlines = ns; weights = ws }) (open_urgent o ∷ rest) ≡ log_from (record { deadlines = opened_with ns o.flow o.number; weights = ws }) rest
unfolding log_from
urgent_step ws ns o rest l b = rw (le-ltb 15 o.flow l, b)

fair_step : (ds ns : List ℕ) (o : Opening) (rest : List Call) → o.flow ≤ 15 → bad_weight o.number ≡ false
    → log_from (record { deadlines = ds; weights = ns }) (open_fair o ∷ rest) ≡ log_from (record { deadlines = ds; weights = opened_with ns o.flow o.number }) rest
unfolding log_from
fair_step ds ns o rest l b = rw (le-ltb 15 o.flow l, b)

pub again : (log : Log) → GoodLog log → log_of (calls_of log) ≡ own_log log
unfolding listed
again log g =
    let own = (own_log log).events in
    let es = map call_in own in
    let u = logged_again (λ (ns : List ℕ). record { deadlines = ns; weights = replicate 16 0 }) open_urgent most_deadline (urgent_step (replicate 16 0)) log.urgent [] 16 0 (map open_fair log.fair ++ es) refl refl g.urgent in
    let f = logged_again (λ (ns : List ℕ). record { deadlines = u.0; weights = ns }) open_fair most_weight (fair_step u.0) log.fair [] 16 0 es refl refl g.fair in
    ap (log_from nothing_opened) (append_assoc (map open_urgent log.urgent) (map open_fair log.fair) es)
    ∙ u.2
    ∙ f.2
    ∙ events_again (record { deadlines = u.0; weights = f.0 }) own ((own_log_lem log).good g).events
    ∙ (λ i. record { form = Own; urgent = u.1 i; fair = f.1 i; events = own })
