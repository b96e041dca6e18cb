-- A station of which nothing is known but what was opened, and what an opening makes of it.
use mathlib.Core.Path.{◌≡◌, refl, sym, ◌∙◌, ap}
use mathlib.Core.Bool.{Bool, true, false, cond, not}
use mathlib.Core.List.{List, [], ◌∷◌, map}
use Prim.Native.Nat.{ℕ, zero, suc, ◌≤◌}
use native.Mathlib.Omega.{arith}
use borrow.Author.Tests.{ne_eqb}
use lib.Dec.{eqb}
use lib.ListN.{get_or, set, replicate, get_or-map}
use Rattle.units.specs.Limits.{bad_weight, bad_deadline, outside_of}
use Rattle.units.proofs.Limits.{inside}
use Rattle.urgent.specs.declared.Urgent.{Urgent as UrgentLane}
use Rattle.urgent.specs.declared.Flow.{Flow as UrgentFlow}
use Rattle.urgent.specs.declared.Done.{Done as UrgentDone}
use Rattle.urgent.specs.declared.Answer.TheVariants.{Opened as UrgentOpened}
use Rattle.urgent.specs.Lane.{free_cell, flow_at as urgent_at}
use Rattle.urgent.specs.Calls.{open_of as open_urgent_of, opened as urgent_opened}
use Rattle.tags.specs.declared.Flow.{Flow as FairFlow}
use Rattle.tags.specs.Tags.{free_packet}
use Rattle.fair.specs.declared.Fair.{Fair as FairLane}
use Rattle.fair.specs.declared.Done.{Done as FairDone}
use Rattle.packets.specs.declared.Answer.TheVariants.{Opened as FairOpened}
use Rattle.packets.specs.Kept.{Flows}
use Rattle.packets.specs.Queue.{idle, flow_at as fair_at}
use Rattle.packets.specs.Calls.{open_of as open_in, opened as fair_opened}
use Rattle.packets.proofs.Calls.{open_3 as fair-3, open_ok as fair-ok}
use Rattle.fair.specs.Calls.{with_flows, by_flows, open_of as open_fair_of}
use Rattle.station.specs.declared.Station.{Station}
use Rattle.station.specs.Calls.{fresh_station}
use Rattle.logging.specs.Logging.{Opened, nothing_opened, opened_with}
use Rattle.promises_log.proofs.UrgentCalls.{opened_twice, opened_now}

module _ {A : Type 0} (f : ℕ → A) where
  map_set : (xs : List ℕ) (i x : ℕ) → set (map f xs) i (f x) ≡ map f (set xs i x)
  map_set [] i x = refl
  map_set (y ∷ xs) zero x = refl
  map_set (y ∷ xs) (suc i) x = ap (λ (t : List A). f y ∷ t) (map_set xs i x)

-- ---- the stations
abbrev pub urgent_flow : ℕ → UrgentFlow
urgent_flow d = record { opened = not (eqb d 0); deadline = d; next = 0 }

abbrev pub fair_flow : ℕ → FairFlow
fair_flow w = record { opened = not (eqb w 0); weight = w; next = 0; finish = record { 0 = 0 } }

unfoldable pub urgent_with : List ℕ → UrgentLane
urgent_with ds = record { now = record { 0 = 0 }; flows = map urgent_flow ds; cells = replicate 256 free_cell }

unfoldable pub fair_with : List ℕ → FairLane
fair_with ws =
    record {
      time = record { 0 = 0 };
      largest = record { 0 = 0 };
      queue = record { service = idle; flows = map fair_flow ws; packets = replicate 256 free_packet };
    }

abbrev pub station_with : Opened → Station
station_with o = record { urgent = urgent_with o.deadlines; fair = fair_with o.weights }

pub fresh_is : station_with nothing_opened ≡ fresh_station
unfolding urgent_with fair_with
fresh_is = refl

-- ---- an opening
positive : (n most : ℕ) → outside_of n most ≡ false → not (eqb n 0) ≡ true
positive n most e = rw (ne_eqb n 0 (λ q. omega (arith, (inside n most e).0)))

module _ (ds : List ℕ) (flow deadline : ℕ) (l : flow ≤ 15) (b : bad_deadline deadline ≡ false) where
  urgent_mark : (urgent_at (urgent_with ds) flow).opened ≡ not (eqb (get_or ds flow 0) 0)
  unfolding urgent_with
  urgent_mark = ap (λ (x : UrgentFlow). x.opened) (get_or-map urgent_flow ds flow 0)

  urgent_next : (urgent_at (urgent_with ds) flow).next ≡ 0
  unfolding urgent_with
  urgent_next = ap (λ (x : UrgentFlow). x.next) (get_or-map urgent_flow ds flow 0)

  urgent_set : (urgent_opened (urgent_with ds) flow deadline).lane ≡ urgent_with (set ds flow deadline)
  unfolding urgent_with
  urgent_set =
      let x : record { opened = true; deadline = deadline; next = (urgent_at (urgent_with ds) flow).next } ≡ urgent_flow deadline =
      rw (urgent_next, positive deadline 4096 b) in
      ap (λ (fs : List UrgentFlow). record { now = record { 0 = 0 }; flows = fs; cells = replicate 256 free_cell })
      (ap (set (map urgent_flow ds) flow) x ∙ map_set urgent_flow ds flow deadline)

  pub urgent_new : eqb (get_or ds flow 0) 0 ≡ true → open_urgent_of (urgent_with ds) flow deadline ≡ record { lane = urgent_with (set ds flow deadline); answer = UrgentOpened }
  urgent_new e =
      sym (opened_now (urgent_with ds) flow deadline l (urgent_mark ∙ rw e) b)
      ∙ ap (λ (u : UrgentLane). record { lane = u; answer = UrgentOpened }) urgent_set

  pub urgent_open : (open_urgent_of (urgent_with ds) flow deadline).lane ≡ urgent_with (opened_with ds flow deadline)
  urgent_open = go (eqb (get_or ds flow 0) 0) refl
    where
      go : (t : Bool) → eqb (get_or ds flow 0) 0 ≡ t → (open_urgent_of (urgent_with ds) flow deadline).lane ≡ urgent_with (cond t (set ds flow deadline) ds)
      go true e = ap (λ (d : UrgentDone). d.lane) (urgent_new e)
      go false e = ap (λ (d : UrgentDone). d.lane) (sym (opened_twice (urgent_with ds) flow deadline l (urgent_mark ∙ rw e)))

module _ (ws : List ℕ) (flow weight : ℕ) (l : flow ≤ 15) (b : bad_weight weight ≡ false) where
  fair_mark : (fair_at (fair_with ws).queue flow).opened ≡ not (eqb (get_or ws flow 0) 0)
  unfolding fair_with
  fair_mark = ap (λ (x : FairFlow). x.opened) (get_or-map fair_flow ws flow 0)

  fair_was : fair_at (fair_with ws).queue flow ≡ fair_flow (get_or ws flow 0)
  unfolding fair_with
  fair_was = get_or-map fair_flow ws flow 0

  fair_set : (with_flows (fair_with ws) (fair_opened (fair_with ws).queue flow weight)).lane ≡ fair_with (set ws flow weight)
  unfolding fair_with
  fair_set =
      let n : (fair_at (fair_with ws).queue flow).next ≡ 0 = ap (λ (x : FairFlow). x.next) fair_was in
      let x : record { opened = true; weight = weight; next = (fair_at (fair_with ws).queue flow).next; finish = (fair_at (fair_with ws).queue flow).finish } ≡ fair_flow weight =
      ap (λ (y : FairFlow). record { opened = true; weight = weight; next = y.next; finish = y.finish }) fair_was
      ∙ rw (positive weight 16 b) in
      ap (λ (fs : List FairFlow). (with_flows (fair_with ws) (record { flows = fs; answer = FairOpened })).lane)
      (ap (set (map fair_flow ws) flow) x ∙ map_set fair_flow ws flow weight)

  -- what the queue gives is what the lane gives
  fair_by : (d : Flows) → d ≡ open_in (fair_with ws).queue flow weight → by_flows (fair_with ws) d ≡ open_fair_of (fair_with ws) flow weight
  unfolding open_fair_of
  fair_by d = ap (by_flows (fair_with ws))

  pub fair_new : eqb (get_or ws flow 0) 0 ≡ true → open_fair_of (fair_with ws) flow weight ≡ record { lane = fair_with (set ws flow weight); answer = FairOpened }
  fair_new e =
      sym (fair_by _ (fair-ok (fair_with ws).queue flow weight l (fair_mark ∙ rw e) b))
      ∙ ap (λ (u : FairLane). record { lane = u; answer = FairOpened }) fair_set

  pub fair_open : (open_fair_of (fair_with ws) flow weight).lane ≡ fair_with (opened_with ws flow weight)
  fair_open = go (eqb (get_or ws flow 0) 0) refl
    where
      go : (t : Bool) → eqb (get_or ws flow 0) 0 ≡ t → (open_fair_of (fair_with ws) flow weight).lane ≡ fair_with (cond t (set ws flow weight) ws)
      go true e = ap (λ (d : FairDone). d.lane) (fair_new e)
      go false e = ap (λ (d : FairDone). d.lane) (sym (fair_by _ (fair-3 (fair_with ws).queue flow weight l (fair_mark ∙ rw e))))
