-- A log with each cell's own deadline.
use mathlib.Core.Path.{◌≡◌, refl, ap}
use mathlib.Core.Bool.{Bool, true, false, cond, ◌||◌}
use mathlib.Core.List.{List, [], ◌∷◌, map, map-id}
use Prim.Native.Nat.{ℕ, zero, suc, ◌+◌, ◌≤◌, ◌<◌}
use native.Mathlib.Omega.{arith}
use borrow.Author.Tests.{le-ltb, eqb-true}
use lib.Dec.{ltb, eqb}
use lib.ListN.{length, get_or, length-map}
use Rattle.units.specs.Limits.{no_such_flow, bad_deadline, bad_length}
use Rattle.log_format.specs.declared.Form.{Form}
use Rattle.log_format.specs.declared.Form.TheVariants.{Flow, Own}
use Rattle.log_format.specs.Format.{Opening, Event, Log, GoodOpenings, GoodEvents, bad_event, most_deadline}
use Rattle.log_format.specs.Own.{opening_deadline, own_number, own_event, own_log, OwnLog}
use Rattle.log_format.proofs.Tests.{or_false}
use Rattle.log_format.proofs.There.{opening_number}

-- a deadline out of good openings is within the limits
in_limits : (least : ℕ) (os : List Opening) (flow : ℕ) → GoodOpenings most_deadline least os → (1 ≤ opening_deadline os flow) × (opening_deadline os flow ≤ 4096)
unfolding opening_deadline
in_limits least [] flow g = (omega arith, omega arith)
in_limits least (o ∷ os) flow g =
    go (eqb o.flow flow) (opening_number most_deadline least o.flow o.number g.0) (in_limits (o.flow + 1) os flow g.1)
  where
    go : {d : ℕ} (t : Bool) → (1 ≤ o.number) × (o.number ≤ 4096) → (1 ≤ d) × (d ≤ 4096) → (1 ≤ cond t o.number d) × (cond t o.number d ≤ 4096)
    go true here later = here
    go false here later = later

module _ (urgent : List Opening) (g : GoodOpenings most_deadline 0 urgent) where
  deadline_good : (flow : ℕ) → bad_deadline (opening_deadline urgent flow) ≡ false
  deadline_good flow =
      let l = in_limits 0 urgent flow g in
      rw (le-ltb (opening_deadline urgent flow) 1 l.0, le-ltb 4096 (opening_deadline urgent flow) l.1)

  module _ (e : Event) where
    -- whether it is bad, by whether it is a packet, whether it is a cell, its number, and whether that is bad for a cell
    abbrev bad : Bool → Bool → ℕ → Bool → Bool
    bad packet cell number no-deadline =
        cond packet (no_such_flow e.flow || bad_length number) (cond cell (no_such_flow e.flow || no-deadline) (ltb 5 e.kind || ltb 0 e.flow || ltb 0 number))

    abbrev number : Bool → ℕ
    number cell = cond cell (opening_deadline urgent e.flow) e.number

    told : (packet : Bool) → eqb e.kind 3 ≡ packet → (cell : Bool) → eqb e.kind 2 ≡ cell
        → bad packet cell e.number (ltb 0 e.number) ≡ false → bad packet cell (number cell) (bad_deadline (number cell)) ≡ false
    told true p true q b = absurd (omega (arith, eqb-true e.kind 3 p, eqb-true e.kind 2 q))
    told true p false q b = b
    told false p true q b = rw (or_false (no_such_flow e.flow) (ltb 0 e.number) b).0 (deadline_good e.flow)
    told false p false q b = b

    event_good : (form : Form) → bad_event form e.kind e.flow e.number ≡ false → bad_event Own e.kind e.flow (own_number form urgent e) ≡ false
    event_good Flow b = told (eqb e.kind 3) refl (eqb e.kind 2) refl b
    event_good Own b = b

  events_good : (form : Form) (es : List Event) → GoodEvents form es → GoodEvents Own (map (own_event form urgent) es)
  events_good form [] b = tt
  events_good form (e ∷ es) b = (event_good e form b.0, events_good form es b.1)

stays : (urgent fair : List Opening) (events : List Event) (form : Form) → form ≡ Own
    → own_log (record { form = form; urgent = urgent; fair = fair; events = events }) ≡ record { form = form; urgent = urgent; fair = fair; events = events }
stays urgent fair events form e =
    rw e (ap (λ (es : List Event). record { form = Own; urgent = urgent; fair = fair; events = es }) (map-id events))

-- an event by its index, with its cell's own deadline
mapped_at : (f : Event → Event) (es : List Event) (k : ℕ) (d : Event) → k < length es → get_or (map f es) k d ≡ f (get_or es k d)
mapped_at f [] k d l = absurd (omega arith)
mapped_at f (e ∷ es) zero d l = refl
mapped_at f (e ∷ es) (suc k) d l = mapped_at f es k d (omega arith)

pub own_at : (log : Log) (k : ℕ) (d : Event) → k < length log.events → get_or (own_log log).events k d ≡ own_event log.form log.urgent (get_or log.events k d)
own_at log = mapped_at (own_event log.form log.urgent) log.events

-- an event of a good log is well formed
pub good_at : (form : Form) (es : List Event) (k : ℕ) (d : Event) → GoodEvents form es → k < length es
    → bad_event form (get_or es k d).kind (get_or es k d).flow (get_or es k d).number ≡ false
good_at form [] k d g l = absurd (omega arith)
good_at form (e ∷ es) zero d g l = g.0
good_at form (e ∷ es) (suc k) d g l = good_at form es k d g.1 (omega arith)

pub own_log_lem : (log : Log) → OwnLog log
own_log_lem log =
    record {
      many = length-map log.events (own_event log.form log.urgent);
      good = λ g. record { urgent = g.urgent; fair = g.fair; events = events_good log.urgent g.urgent log.form log.events g.events };
      stays = stays log.urgent log.fair log.events log.form;
    }
