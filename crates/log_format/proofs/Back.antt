-- What is read was written.
use mathlib.Core.Path.{◌≡◌, refl, sym, ◌∙◌, ap, subst}
use mathlib.Core.List.{List, ◌∷◌, ◌++◌}
use mathlib.Core.List.{append-nil}
use Prim.Native.Nat.{ℕ, zero, suc, ◌+◌, ◌*◌, ◌/◌, ◌≤◌}
use native.Mathlib.Omega.{arith}
use lib.ListN.{length, drop}
use lib.Seq.{drop-length}
use Rattle.log_format.specs.declared.Form.{Form}
use Rattle.log_format.specs.Format.{Log, first_byte, GoodLog, GoodOpenings, GoodEvents, Fits, Bytes, four_bytes, table_bytes, opening_bytes, event_bytes, bytes_of, most_deadline, most_weight}
use Rattle.log_format.specs.Faults.{byte_at, four_at, form_at, urgent_length, fair_length, event_length, fair_start, event_start, log_end}
use Rattle.log_format.specs.Reading.{Good, openings_at, events_at, log_at, opening_parts, event_parts, read_of}
use Rattle.log_format.proofs.Forms.{first_back}
use Rattle.log_format.proofs.Parts.{All}
use Rattle.log_format.proofs.Faults.{Whole, Sound, read_cases}
use Rattle.log_format.proofs.Numbers.{low_byte, high_byte, byte_small, drop_next, drop_four}

pub openings_many : (s : List ℕ) (at k : ℕ) → length (openings_at s at k) ≡ k
unfolding openings_at
openings_many s at zero = refl
openings_many s at (suc k) = ap suc (openings_many s (at + 3) k)

pub events_many : (s : List ℕ) (at k : ℕ) → length (events_at s at k) ≡ k
unfolding events_at
events_many s at zero = refl
events_many s at (suc k) = ap suc (events_many s (at + 4) k)

openings_good : (n most least : ℕ) (s : List ℕ) (at k : ℕ) → All (Whole n) (opening_parts most least s at k) → GoodOpenings most least (openings_at s at k)
unfolding opening_parts openings_at
openings_good n most least s at zero a = tt
openings_good n most least s at (suc k) a = (a.0.1, openings_good n most (byte_at s at + 1) s (at + 3) k a.1)

events_good : (n : ℕ) (form : Form) (s : List ℕ) (at k : ℕ) → All (Whole n) (event_parts form s at k) → GoodEvents form (events_at s at k)
unfolding event_parts events_at
events_good n form s at zero a = tt
events_good n form s at (suc k) a = (a.0.1, events_good n form s (at + 4) k a.1)

pub good_log : (s : List ℕ) → Sound s → GoodLog (log_at s)
good_log s h =
    record {
      urgent = openings_good (length s) most_deadline 0 s 25 (urgent_length s / 3) h.urgent;
      fair = openings_good (length s) most_weight 0 s (fair_start s) (fair_length s / 3) h.fair;
      events = events_good (length s) (form_at s) s (event_start s) (event_length s / 4) h.events;
    }

module _ (s : List ℕ) (b : Bytes s) where
  openings_back : (at k end : ℕ) → end ≡ at + 3 * k → end ≤ length s → drop at s ≡ opening_bytes (openings_at s at k) ++ drop end s
  unfolding openings_at opening_bytes
  openings_back at zero end e l = let q : at ≡ end = omega arith in rw q
  openings_back at (suc k) end e l =
      rw (low_byte (byte_at s (at + 1)) (byte_at s (at + 1 + 1)) (byte_small s b (at + 1)) (byte_small s b (at + 1 + 1)), high_byte (byte_at s (at + 1)) (byte_at s (at + 1 + 1)) (byte_small s b (at + 1)) (byte_small s b (at + 1 + 1)))
      (drop_next s at (at + 1) refl (omega arith)
      ∙ ap (λ (t : List ℕ). byte_at s at ∷ t) (drop_next s (at + 1) (at + 1 + 1) refl (omega arith)
      ∙ ap (λ (t : List ℕ). byte_at s (at + 1) ∷ t) (drop_next s (at + 1 + 1) (at + 3) (omega arith) (omega arith)
      ∙ ap (λ (t : List ℕ). byte_at s (at + 1 + 1) ∷ t) (openings_back (at + 3) k end (omega arith) l))))

  events_back : (at k end : ℕ) → end ≡ at + 4 * k → end ≤ length s → drop at s ≡ event_bytes (events_at s at k) ++ drop end s
  unfolding events_at event_bytes
  events_back at zero end e l = let q : at ≡ end = omega arith in rw q
  events_back at (suc k) end e l =
      rw (low_byte (byte_at s (at + 2)) (byte_at s (at + 2 + 1)) (byte_small s b (at + 2)) (byte_small s b (at + 2 + 1)), high_byte (byte_at s (at + 2)) (byte_at s (at + 2 + 1)) (byte_small s b (at + 2)) (byte_small s b (at + 2 + 1)))
      (drop_next s at (at + 1) refl (omega arith)
      ∙ ap (λ (t : List ℕ). byte_at s at ∷ t) (drop_next s (at + 1) (at + 2) (omega arith) (omega arith)
      ∙ ap (λ (t : List ℕ). byte_at s (at + 1) ∷ t) (drop_next s (at + 2) (at + 2 + 1) refl (omega arith)
      ∙ ap (λ (t : List ℕ). byte_at s (at + 2) ∷ t) (drop_next s (at + 2 + 1) (at + 4) (omega arith) (omega arith)
      ∙ ap (λ (t : List ℕ). byte_at s (at + 2 + 1) ∷ t) (events_back (at + 4) k end (omega arith) l)))))

  module _ (h : Sound s) (e : log_end s ≡ length s) where
    -- the bodies
    bodies : drop 25 s ≡ opening_bytes (log_at s).urgent ++ (opening_bytes (log_at s).fair ++ event_bytes (log_at s).events)
    bodies =
        openings_back 25 (urgent_length s / 3) (fair_start s) (omega (arith, h.table.urgent)) (omega arith)
        ∙ ap (λ (t : List ℕ). opening_bytes (log_at s).urgent ++ t)
        (openings_back (fair_start s) (fair_length s / 3) (event_start s) (omega (arith, h.table.fair)) (omega arith)
        ∙ ap (λ (t : List ℕ). opening_bytes (log_at s).fair ++ t)
        (events_back (event_start s) (event_length s / 4) (length s) (omega (arith, h.table.events)) (omega arith)
        ∙ ap (λ (t : List ℕ). event_bytes (log_at s).events ++ t) (drop-length s)
        ∙ append-nil (event_bytes (log_at s).events)))

    -- the table
    table : drop 1 s ≡ table_bytes (urgent_length s) (fair_length s) (event_length s) ++ drop 25 s
    unfolding urgent_length fair_length event_length
    table =
        let l = h.table.whole in
        drop_four s 1 b (omega arith) ∙ rw h.table.offset (ap (λ (t : List ℕ). four_bytes 25 ++ t) (
        drop_four s 5 b (omega arith) ∙ ap (λ (t : List ℕ). four_bytes (four_at s 5) ++ t) (
        drop_four s 9 b (omega arith) ∙ rw h.table.fair_offset (ap (λ (t : List ℕ). four_bytes (25 + four_at s 5) ++ t) (
        drop_four s 13 b (omega arith) ∙ ap (λ (t : List ℕ). four_bytes (four_at s 13) ++ t) (
        drop_four s 17 b (omega arith) ∙ rw h.table.event_offset (ap (λ (t : List ℕ). four_bytes (25 + four_at s 5 + four_at s 13) ++ t) (
        drop_four s 21 b (omega arith)))))))))

    urgent_many : 3 * length (log_at s).urgent ≡ urgent_length s
    urgent_many = omega (arith, openings_many s 25 (urgent_length s / 3), h.table.urgent)

    fair_many : 3 * length (log_at s).fair ≡ fair_length s
    fair_many = omega (arith, openings_many s (fair_start s) (fair_length s / 3), h.table.fair)

    event_many : 4 * length (log_at s).events ≡ event_length s
    event_many = omega (arith, events_many s (event_start s) (event_length s / 4), h.table.events)

    pub all_back : bytes_of (log_at s) ≡ s
    all_back =
        let l = h.table.whole in
        let t : table_bytes (3 * length (log_at s).urgent) (3 * length (log_at s).fair) (4 * length (log_at s).events)
        ≡ table_bytes (urgent_length s) (fair_length s) (event_length s) = rw (urgent_many, fair_many, event_many) in
        sym (drop_next s 0 1 refl (omega arith)
        ∙ ap (λ (b : ℕ). b ∷ drop 1 s) (sym (first_back (byte_at s 0) h.table.first))
        ∙ ap (λ (t : List ℕ). first_byte (form_at s) ∷ t)
        (table
        ∙ ap (λ (t : List ℕ). table_bytes (urgent_length s) (fair_length s) (event_length s) ++ t) bodies
        ∙ ap (λ (x : List ℕ). x ++ (opening_bytes (log_at s).urgent ++ (opening_bytes (log_at s).fair ++ event_bytes (log_at s).events))) (sym t)))

    pub log_fits : Fits (log_at s)
    log_fits = omega (arith, urgent_many, fair_many, event_many, h.table.most)

pub is_read : (s : List ℕ) (log : Log) → Bytes s → read_of s ≡ Good log → (bytes_of log ≡ s) × GoodLog log × Fits log
is_read s log b =
    read_cases s (λ r. r ≡ Good log → (bytes_of log ≡ s) × GoodLog log × Fits log)
    (λ x e q. absurd (let z : ◌≡◌ {A = ℕ} 0 1 = cc in omega arith))
    (λ c l q. absurd (let z : ◌≡◌ {A = ℕ} 0 1 = cc in omega arith))
    (λ c l q. let g : log_at s ≡ log = cc in carried log g (all_back s b c l, good_log s c, log_fits s b c l))
  where
    carried : (log : Log) → log_at s ≡ log → (bytes_of (log_at s) ≡ s) × GoodLog (log_at s) × Fits (log_at s) → (bytes_of log ≡ s) × GoodLog log × Fits log
    carried log g = subst (λ (x : Log). (bytes_of x ≡ s) × GoodLog x × Fits x) g
