-- A record by its index.
use mathlib.Core.Path.{◌≡◌, ◌∙◌, ap}
use mathlib.Core.List.{List}
use Prim.Native.Nat.{ℕ, zero, suc, ◌+◌, ◌*◌, ◌<◌}
use native.Mathlib.Omega.{arith}
use lib.ListN.{get_or}
use Rattle.log_format.specs.Format.{Opening, Event}
use Rattle.log_format.specs.Reading.{opening_at, openings_at, event_at, events_at}
use Rattle.log_format.specs.Laws.{ByIndex}

opening_at_lem : (s : List ℕ) (count start k : ℕ) (d : Opening) → k < count → get_or (openings_at s start count) k d ≡ opening_at s (start + 3 * k)
unfolding openings_at
opening_at_lem s zero start k d l = absurd (omega arith)
opening_at_lem s (suc n) start zero d l = let e : start ≡ start + 3 * 0 = omega arith in ap (opening_at s) e
opening_at_lem s (suc n) start (suc k) d l =
    let e : start + 3 + 3 * k ≡ start + 3 * suc k = omega arith in
    opening_at_lem s n (start + 3) k d (omega arith) ∙ ap (opening_at s) e

event_at_lem : (s : List ℕ) (count start k : ℕ) (d : Event) → k < count → get_or (events_at s start count) k d ≡ event_at s (start + 4 * k)
unfolding events_at
event_at_lem s zero start k d l = absurd (omega arith)
event_at_lem s (suc n) start zero d l = let e : start ≡ start + 4 * 0 = omega arith in ap (event_at s) e
event_at_lem s (suc n) start (suc k) d l =
    let e : start + 4 + 4 * k ≡ start + 4 * suc k = omega arith in
    event_at_lem s n (start + 4) k d (omega arith) ∙ ap (event_at s) e

pub by_index : (s : List ℕ) (start count k : ℕ) → ByIndex s start count k
by_index s start count k = record { opening = opening_at_lem s count start k; event = event_at_lem s count start k }
