-- A good log, its records told as words, is lent as itself.
use mathlib.Core.Path.{◌≡◌, refl, ap₂}
use mathlib.Core.Bool.{Bool, true, false, cond, ◌||◌}
use mathlib.Core.List.{List, [], ◌∷◌, map}
use Prim.Native.Nat.{ℕ, ◌+◌, ◌≤◌}
use native.Mathlib.Omega.{arith}
use borrow.Author.Tests.{ltb-false, eqb-true}
use lib.Dec.{ltb, eqb}
use Rattle.units.specs.Limits.{no_such_flow, bad_length}
use Rattle.log_format.specs.declared.Form.{Form}
use Rattle.log_format.specs.Format.{Opening, Event, Log, GoodOpenings, GoodEvents, GoodLog, bad_cell, bad_event, most_deadline, most_weight}
use Rattle.log_format.specs.Words.{opening_of, opening_word, event_of, event_word, lent_log}
use Rattle.log_format.proofs.Tests.{or_false}
use Rattle.log_format.proofs.There.{opening_flow}
use Rattle.log_format.proofs.Words.{words_back}

openings_back : (most least : ℕ) (os : List Opening) → GoodOpenings most least os → map opening_of (map opening_word os) ≡ os
openings_back most least [] g = refl
openings_back most least (o ∷ os) g =
    let f = opening_flow most least o.flow o.number g.0 in
    ap₂ (λ (p : Opening) (ps : List Opening). p ∷ ps) (words_back.opening_back o (omega (arith, f.1))) (openings_back most (o.flow + 1) os g.1)

-- kind and flow of a good event are bytes
event_bytes_lem : (form : Form) (kind flow number : ℕ) → bad_event form kind flow number ≡ false → (kind ≤ 5) × (flow ≤ 15)
event_bytes_lem form kind flow number = go (eqb kind 3) refl (eqb kind 2) refl
  where
    go : (a : Bool) → eqb kind 3 ≡ a → (b : Bool) → eqb kind 2 ≡ b
        → cond a (no_such_flow flow || bad_length number) (cond b (no_such_flow flow || bad_cell form number) (ltb 5 kind || ltb 0 flow || ltb 0 number)) ≡ false
        → (kind ≤ 5) × (flow ≤ 15)
    go true p b q e = (omega (arith, eqb-true kind 3 p), ltb-false 15 flow (or_false (no_such_flow flow) (bad_length number) e).0)
    go false p true q e = (omega (arith, eqb-true kind 2 q), ltb-false 15 flow (or_false (no_such_flow flow) (bad_cell form number) e).0)
    go false p false q e =
        let h = or_false (ltb 5 kind) (ltb 0 flow) (or_false (ltb 5 kind || ltb 0 flow) (ltb 0 number) e).0 in
        (ltb-false 5 kind h.0, omega (arith, ltb-false 0 flow h.1))

events_back : (form : Form) (es : List Event) → GoodEvents form es → map event_of (map event_word es) ≡ es
events_back form [] g = refl
events_back form (e ∷ es) g =
    let b = event_bytes_lem form e.kind e.flow e.number g.0 in
    ap₂ (λ (d : Event) (ds : List Event). d ∷ ds) (words_back.event_back e (omega (arith, b.0)) (omega (arith, b.1))) (events_back form es g.1)

pub lent_back : (log : Log) → GoodLog log
    → lent_log log.form (map opening_word log.urgent) (map opening_word log.fair) (map event_word log.events) ≡ log
lent_back log g =
    let u = openings_back most_deadline 0 log.urgent g.urgent in
    let f = openings_back most_weight 0 log.fair g.fair in
    let e = events_back log.form log.events g.events in
    λ i. record { form = log.form; urgent = u i; fair = f i; events = e i }
