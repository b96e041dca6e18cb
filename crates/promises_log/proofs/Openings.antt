-- The openings that a log lists, made from a fresh station, are all answered as made, and bring it to what was opened.
use mathlib.Core.Path.{◌≡◌, refl, sym, ◌∙◌, ap, subst}
use mathlib.Core.Bool.{Bool, true, false, cond}
use mathlib.Core.List.{List, [], ◌∷◌, ◌++◌, map, append_assoc}
use Prim.Native.Nat.{ℕ, ◌+◌, ◌≤◌}
use native.Mathlib.Omega.{arith}
use borrow.Author.Tests.{eqb-true, eq-eqb}
use lib.Dec.{eqb}
use lib.ListN.{get_or, replicate, length, length-append}
use lib.Seq.{set_at, get_or_at}
use Rattle.units.specs.Limits.{bad_weight, bad_deadline, outside_of}
use Rattle.urgent.specs.declared.Answer.TheVariants.{Opened as UrgentOpened}
use Rattle.urgent.specs.declared.Done.{Done as UrgentDone}
use Rattle.packets.specs.declared.Answer.TheVariants.{Opened as FairOpened}
use Rattle.fair.specs.declared.Done.{Done as FairDone}
use Rattle.station.specs.declared.Station.{Station}
use Rattle.station.specs.declared.Called.{Called}
use Rattle.station.specs.declared.Reply.{Reply}
use Rattle.station.specs.declared.Reply.TheVariants.{Urgent, Fair}
use Rattle.station.specs.declared.Call.{Call}
use Rattle.station.specs.Calls.{call_of, by_urgent, by_fair}
use Rattle.promises.specs.Run.{replies}
use Rattle.log_format.specs.Format.{Opening, most_deadline, most_weight}
use Rattle.logging.specs.Logging.{listed}
use Rattle.logging.specs.Replay.{open_urgent, open_fair}
use Rattle.logging.proofs.Good.{AllGood, not_zero}
use Rattle.promises_log.proofs.Lanes.{urgent_with, fair_with, urgent_new, fair_new}
use Rattle.promises_log.proofs.Events.{station_from}

-- ---- a flow opened at the end of those before it
longer : (pre ns : List ℕ) (n : ℕ) → (pre ++ (n ∷ [])) ++ ns ≡ pre ++ (n ∷ ns)
longer pre ns n = append_assoc pre (n ∷ []) ns

-- one lane's stations by the numbers that its flows were opened with, and a call that opens the next flow
module _ (station : List ℕ → Station) (call : Opening → Call) (reply : Reply) (most : ℕ)
    (one : (pre zs : List ℕ) (o : Opening) → length pre ≡ o.flow → o.flow ≤ 15 → outside_of o.number most ≡ false
    → call_of (station (pre ++ (0 ∷ zs))) (call o) ≡ record { station = station ((pre ++ (o.number ∷ [])) ++ zs); reply = reply }) where
  -- the openings os, made after those of pre, are all answered alike and lead on to suf
  abbrev Made : List ℕ → List ℕ → List ℕ → List Opening → Type 0
  Made pre zs suf os =
      (replies (station (pre ++ zs)) (map call os) ≡ map (λ (o : Opening). reply) os)
      × (station_from (station (pre ++ zs)) (map call os) ≡ station (pre ++ suf))

  pub all_made : (suf pre : List ℕ) (flow : ℕ) → length pre ≡ flow → flow + length suf ≤ 16 → AllGood most suf
      → Made pre (replicate (length suf) 0) suf (listed flow suf)
  unfolding listed replies station_from
  all_made [] pre flow e l a = (refl, refl)
  all_made (n ∷ ns) pre flow e l a =
      go (eqb n 0) refl (all_made ns (pre ++ (n ∷ [])) (flow + 1) (length-append pre (n ∷ []) ∙ omega (arith, e)) (omega arith) a.1)
    where
      go : (t : Bool) → eqb n 0 ≡ t → Made (pre ++ (n ∷ [])) (replicate (length ns) 0) ns (listed (flow + 1) ns)
          → Made pre (0 ∷ replicate (length ns) 0) (n ∷ ns) (cond t (listed (flow + 1) ns) (record { flow = flow; number = n } ∷ listed (flow + 1) ns))
      go true z again =
          let q : pre ++ (0 ∷ replicate (length ns) 0) ≡ (pre ++ (n ∷ [])) ++ replicate (length ns) 0 =
          ap (λ (k : ℕ). pre ++ (k ∷ replicate (length ns) 0)) (sym (eqb-true n 0 z)) ∙ sym (longer pre (replicate (length ns) 0) n) in
          rw q (again.0, again.1 ∙ ap station (longer pre ns n))
      go false z again =
          let c = one pre (replicate (length ns) 0) (record { flow = flow; number = n }) e (omega arith) (not_zero most n a.0 z) in (
            ap (λ (d : Called). d.reply ∷ replies d.station (map call (listed (flow + 1) ns))) c ∙ ap (λ (t : List Reply). reply ∷ t) again.0,
            ap (λ (d : Called). station_from d.station (map call (listed (flow + 1) ns))) c ∙ again.1 ∙ ap station (longer pre ns n),
          )

  -- from a lane where nothing is open
  pub all_opened : (ns : List ℕ) → length ns ≡ 16 → AllGood most ns → Made [] (replicate 16 0) ns (listed 0 ns)
  all_opened ns e a = subst (λ (k : ℕ). Made [] (replicate k 0) ns (listed 0 ns)) e (all_made ns [] 0 refl (omega arith) a)

abbrev pub station_of : List ℕ → List ℕ → Station
station_of ds ws = record { urgent = urgent_with ds; fair = fair_with ws }

one_urgent : (ws pre zs : List ℕ) (o : Opening) → length pre ≡ o.flow → o.flow ≤ 15 → bad_deadline o.number ≡ false
    → call_of (station_of (pre ++ (0 ∷ zs)) ws) (open_urgent o) ≡ record { station = station_of ((pre ++ (o.number ∷ [])) ++ zs) ws; reply = Urgent UrgentOpened }
unfolding call_of
one_urgent ws pre zs o e l b =
    ap (λ (d : UrgentDone). by_urgent (station_of (pre ++ (0 ∷ zs)) ws) d)
    (urgent_new (pre ++ (0 ∷ zs)) o.flow o.number l b (eq-eqb (get_or (pre ++ (0 ∷ zs)) o.flow 0) 0 (get_or_at pre 0 zs 0 o.flow e)))
    ∙ ap (λ (ds : List ℕ). record { station = station_of ds ws; reply = Urgent UrgentOpened }) (set_at pre 0 zs o.number o.flow e ∙ sym (longer pre zs o.number))

one_fair : (ds pre zs : List ℕ) (o : Opening) → length pre ≡ o.flow → o.flow ≤ 15 → bad_weight o.number ≡ false
    → call_of (station_of ds (pre ++ (0 ∷ zs))) (open_fair o) ≡ record { station = station_of ds ((pre ++ (o.number ∷ [])) ++ zs); reply = Fair FairOpened }
unfolding call_of
one_fair ds pre zs o e l b =
    ap (λ (d : FairDone). by_fair (station_of ds (pre ++ (0 ∷ zs))) d)
    (fair_new (pre ++ (0 ∷ zs)) o.flow o.number l b (eq-eqb (get_or (pre ++ (0 ∷ zs)) o.flow 0) 0 (get_or_at pre 0 zs 0 o.flow e)))
    ∙ ap (λ (ws : List ℕ). record { station = station_of ds ws; reply = Fair FairOpened }) (set_at pre 0 zs o.number o.flow e ∙ sym (longer pre zs o.number))

pub urgent_made : (ws ds : List ℕ) → length ds ≡ 16 → AllGood most_deadline ds
    → (replies (station_of (replicate 16 0) ws) (map open_urgent (listed 0 ds)) ≡ map (λ (o : Opening). Urgent UrgentOpened) (listed 0 ds))
    × (station_from (station_of (replicate 16 0) ws) (map open_urgent (listed 0 ds)) ≡ station_of ds ws)
urgent_made ws ds e a = all_opened (λ (ds : List ℕ). station_of ds ws) open_urgent (Urgent UrgentOpened) most_deadline (one_urgent ws) ds e a

pub fair_made : (ds ws : List ℕ) → length ws ≡ 16 → AllGood most_weight ws
    → (replies (station_of ds (replicate 16 0)) (map open_fair (listed 0 ws)) ≡ map (λ (o : Opening). Fair FairOpened) (listed 0 ws))
    × (station_from (station_of ds (replicate 16 0)) (map open_fair (listed 0 ws)) ≡ station_of ds ws)
fair_made ds ws e a = all_opened (λ (ws : List ℕ). station_of ds ws) open_fair (Fair FairOpened) most_weight (one_fair ds) ws e a
