-- The parts of bytes: they follow each other, a bad one is a fault, and a fault of a field or a record is a bad one.
use mathlib.Core.Path.{◌≡◌, refl, sym}
use mathlib.Core.Bool.{true}
use mathlib.Core.List.{List, [], ◌∷◌, ◌++◌}
use mathlib.Core.Logic.{◌⊎◌, inl, inr}
use Prim.Native.Nat.{ℕ, zero, suc, ◌+◌, ◌*◌, ◌/◌, ◌≤◌, ◌<◌}
use native.Mathlib.Decide.{ℕ_discrete}
use native.Mathlib.Omega.{arith}
use borrow.Author.Tests.{not-true}
use lib.ListN.{length}
use Rattle.log_format.specs.declared.Fault.{Fault}
use Rattle.log_format.specs.declared.Fault.TheVariants.{FirstByte, TableField, BadRecord, EndsEarly, ByteTooMany}
use Rattle.log_format.specs.declared.Form.{Form}
use Rattle.log_format.specs.Format.{most_deadline, most_weight}
use Rattle.log_format.specs.Faults.{FaultAt, WrongField, WrongOpening, WrongEvent, least_at, byte_at, four_at, form_at, urgent_length, fair_length, event_length, urgent_start, fair_start, event_start, log_end}
use Rattle.log_format.specs.Reading.{Part, is_first, table_parts, body_parts, opening_parts, event_parts, urgent_body, fair_body, event_body}
use Rattle.log_format.proofs.Forms.{not_first, no_first}
use Rattle.log_format.proofs.Parts.{All, Any, After, Hit, all_append, some_left, some_right}
use Rattle.log_format.proofs.Tests.{wrong, is_wrong, wrong_length, is_wrong_length, wrong_events, is_wrong_events}

abbrev pub parts : List ℕ → List Part
parts s = table_parts s ++ body_parts s

-- ---- the parts follow each other
pub after_earlier : (a b : ℕ) (ps : List Part) → a ≤ b → After b ps → After a ps
after_earlier a b [] l h = tt
after_earlier a b (p ∷ ps) l h = (omega (arith, h.0), h.1)

openings_after : (most least : ℕ) (s : List ℕ) (at k a end : ℕ) (rest : List Part) → a ≤ at → at + 3 * k ≤ end → After end rest
    → After a (opening_parts most least s at k ++ rest)
unfolding opening_parts
openings_after most least s at zero a end rest l m h = after_earlier a end rest (omega arith) h
openings_after most least s at (suc k) a end rest l m h =
    (l, openings_after most (byte_at s at + 1) s (at + 3) k (at + 3) end rest (omega arith) (omega arith) h)

events_after : (form : Form) (s : List ℕ) (at k a : ℕ) → a ≤ at → After a (event_parts form s at k)
unfolding event_parts
events_after form s at zero a l = tt
events_after form s at (suc k) a l = (l, events_after form s (at + 4) k (at + 4) (omega arith))

pub bodies_after : (s : List ℕ) → After 25 (body_parts s)
bodies_after s =
    openings_after most_deadline 0 s urgent_start (urgent_length s / 3) 25 (fair_start s) (fair_body s ++ event_body s) (omega arith) (omega arith)
    (openings_after most_weight 0 s (fair_start s) (fair_length s / 3) (fair_start s) (event_start s) (event_body s) (omega arith) (omega arith)
    (events_after (form_at s) s (event_start s) (event_length s / 4) (event_start s) (omega arith)))

pub parts_after : (s : List ℕ) → After 0 (parts s)
parts_after s =
    (omega arith, (omega arith, (omega arith, (omega arith, (omega arith, (omega arith, (omega arith, bodies_after s)))))))

-- ---- a part that is bad or cut is a fault
abbrev pub Told : List ℕ → Part → Type 0
Told s p =
    (length s < p.start + p.size → FaultAt s EndsEarly (length s))
    × (p.start + p.size ≤ length s → p.bad ≡ true → FaultAt s p.fault p.start)

module _ (s : List ℕ) (start size most : ℕ) (end : start + size ≤ log_end s) where
  openings_told : ((place : ℕ) → WrongOpening s start size most place → FaultAt s BadRecord place)
      → (k j at least : ℕ) → at ≡ start + 3 * j → least ≡ least_at s start j → 3 * j + 3 * k ≤ size → All (Told s) (opening_parts most least s at k)
  unfolding opening_parts
  openings_told into zero j at least e f l = tt
  openings_told into (suc k) j at least e f l = (
    ((λ h. (refl, omega arith)), (λ h b. into at (j, e, omega arith, h, rw (← f) b))),
    openings_told into k (suc j) (at + 3) (byte_at s at + 1) (omega arith) (rw e refl) (omega arith),
  )

module _ (s : List ℕ) where
  events_told : (k j at : ℕ) → at ≡ event_start s + 4 * j → 4 * j + 4 * k ≤ event_length s → All (Told s) (event_parts (form_at s) s at k)
  unfolding event_parts
  events_told zero j at e l = tt
  events_told (suc k) j at e l = (
    ((λ h. (refl, omega arith)), (λ h b. inr (inr (j, e, omega arith, h, b)))),
    events_told k (suc j) (at + 4) (omega arith) (omega arith),
  )

  pub bodies_told : All (Told s) (body_parts s)
  bodies_told =
      all_append (Told s) (urgent_body s) (fair_body s ++ event_body s)
      (openings_told s urgent_start (urgent_length s) most_deadline (omega arith) (λ place w. inl w) (urgent_length s / 3) 0 urgent_start 0 refl refl (omega arith))
      (all_append (Told s) (fair_body s) (event_body s)
      (openings_told s (fair_start s) (fair_length s) most_weight (omega arith) (λ place w. inr (inl w)) (fair_length s / 3) 0 (fair_start s) 0 (omega arith) refl (omega arith))
      (events_told (event_length s / 4) 0 (event_start s) (omega arith) (omega arith)))

  cut : (n : ℕ) → n ≤ 25 → length s < n → FaultAt s EndsEarly (length s)
  cut n l h = (refl, omega arith)

  pub parts_told : All (Told s) (parts s)
  parts_told =
      all_append (Told s) (table_parts s) (body_parts s) (
        (cut 1 (omega arith), (λ h b. let n = not_first (byte_at s 0) (not-true (is_first (byte_at s 0)) b) in (refl, omega arith, n.0, n.1))),
        (
          (cut 5 (omega arith), (λ h b. (h, inl (refl, wrong (four_at s 1) urgent_start b)))),
          (
            (cut 9 (omega arith), (λ h b. (h, inr (inl (refl, wrong_length (urgent_length s) b))))),
            (
              (cut 13 (omega arith), (λ h b. (h, inr (inr (inl (refl, wrong (four_at s 9) (fair_start s) b)))))),
              (
                (cut 17 (omega arith), (λ h b. (h, inr (inr (inr (inl (refl, wrong_length (fair_length s) b))))))),
                (
                  (cut 21 (omega arith), (λ h b. (h, inr (inr (inr (inr (inl (refl, wrong (four_at s 17) (event_start s) b)))))))),
                  (
                    (cut 25 (omega arith), (λ h b. (h, inr (inr (inr (inr (inr (refl, wrong_events (event_length s) (log_end s) b)))))))),
                    (
                        tt),
                  ),
                ),
              ),
            ),
          ),
        ),
      )
      bodies_told

-- ---- a fault of a field or a record is a bad part
module _ (s : List ℕ) (start size most place : ℕ) where
  openings_hit : (w : WrongOpening s start size most place) (k j at least : ℕ) → at ≡ start + 3 * j → least ≡ least_at s start j → j ≤ w.0 → w.0 < j + k
      → Any (Hit (length s) place) (opening_parts most least s at k)
  unfolding opening_parts
  openings_hit w zero j at least e f l m = absurd (omega arith)
  openings_hit w (suc k) j at least e f l m =
      go (ℕ_discrete w.0 j) (λ l. openings_hit w k (suc j) (at + 3) (byte_at s at + 1) (omega arith) (rw e refl) l (omega arith))
    where
      go : Dec (w.0 ≡ j) → (suc j ≤ w.0 → Any (Hit (length s) place) (opening_parts most (byte_at s at + 1) s (at + 3) k))
          → Any (Hit (length s) place) (opening_parts most least s at (suc k))
      go (yes q) again =
          let p : place ≡ at = omega (arith, w.1) in
          inl (sym p, omega (arith, w.3, p), rw (f, ← q, ← p) w.4)
      go (no q) again = inr (again (omega arith))

module _ (s : List ℕ) (place : ℕ) where
  events_hit : (w : WrongEvent s place) (k j at : ℕ) → at ≡ event_start s + 4 * j → j ≤ w.0 → w.0 < j + k
      → Any (Hit (length s) place) (event_parts (form_at s) s at k)
  unfolding event_parts
  events_hit w zero j at e l m = absurd (omega arith)
  events_hit w (suc k) j at e l m =
      go (ℕ_discrete w.0 j) (λ l. events_hit w k (suc j) (at + 4) (omega arith) l (omega arith))
    where
      go : Dec (w.0 ≡ j) → (suc j ≤ w.0 → Any (Hit (length s) place) (event_parts (form_at s) s (at + 4) k))
          → Any (Hit (length s) place) (event_parts (form_at s) s at (suc k))
      go (yes q) again =
          let p : place ≡ at = omega (arith, w.1) in
          inl (sym p, omega (arith, w.3, p), rw (← p) w.4)
      go (no q) again = inr (again (omega arith))

  abbrev HitHere : Type 0
  HitHere = Any (Hit (length s) place) (parts s)

  first_hit : FaultAt s FirstByte place → HitHere
  first_hit h = inl (sym h.0, omega (arith, h.1), rw (no_first (byte_at s 0) h.2 h.3))

  field_hit : FaultAt s TableField place → HitHere
  field_hit h = go h.1
    where
      go : WrongField s place → HitHere
      go (inl w) = inr (inl (sym w.0, omega (arith, h.0, w.0), is_wrong (four_at s 1) urgent_start w.1))
      go (inr (inl w)) = inr (inr (inl (sym w.0, omega (arith, h.0, w.0), is_wrong_length (urgent_length s) w.1)))
      go (inr (inr (inl w))) = inr (inr (inr (inl (sym w.0, omega (arith, h.0, w.0), is_wrong (four_at s 9) (fair_start s) w.1))))
      go (inr (inr (inr (inl w)))) = inr (inr (inr (inr (inl (sym w.0, omega (arith, h.0, w.0), is_wrong_length (fair_length s) w.1)))))
      go (inr (inr (inr (inr (inl w))))) = inr (inr (inr (inr (inr (inl (sym w.0, omega (arith, h.0, w.0), is_wrong (four_at s 17) (event_start s) w.1))))))
      go (inr (inr (inr (inr (inr w))))) =
          inr (inr (inr (inr (inr (inr (inl (sym w.0, omega (arith, h.0, w.0), is_wrong_events (event_length s) (log_end s) w.1)))))))

  record_hit : FaultAt s BadRecord place → HitHere
  record_hit h = some_right (Hit (length s) place) (table_parts s) (body_parts s) (go h)
    where
      go : FaultAt s BadRecord place → Any (Hit (length s) place) (body_parts s)
      go (inl w) =
          some_left (Hit (length s) place) (urgent_body s) (fair_body s ++ event_body s)
          (openings_hit s urgent_start (urgent_length s) most_deadline place w (urgent_length s / 3) 0 urgent_start 0 refl refl (omega arith) (omega (arith, w.2)))
      go (inr (inl w)) =
          some_right (Hit (length s) place) (urgent_body s) (fair_body s ++ event_body s)
          (some_left (Hit (length s) place) (fair_body s) (event_body s)
          (openings_hit s (fair_start s) (fair_length s) most_weight place w (fair_length s / 3) 0 (fair_start s) 0 (omega arith) refl (omega arith) (omega (arith, w.2))))
      go (inr (inr w)) =
          some_right (Hit (length s) place) (urgent_body s) (fair_body s ++ event_body s)
          (some_right (Hit (length s) place) (fair_body s) (event_body s)
          (events_hit w (event_length s / 4) 0 (event_start s) (omega arith) (omega arith) (omega (arith, w.2))))

  pub is_hit : (g : Fault) → FaultAt s g place
      → Any (Hit (length s) place) (parts s) ⊎ ((place ≡ length s) × (length s < log_end s)) ⊎ ((place ≡ log_end s) × (log_end s < length s))
  is_hit FirstByte h = inl (first_hit h)
  is_hit TableField h = inl (field_hit h)
  is_hit BadRecord h = inl (record_hit h)
  is_hit EndsEarly h = inr (inl h)
  is_hit ByteTooMany h = inr (inr h)
