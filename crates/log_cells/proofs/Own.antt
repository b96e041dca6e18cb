-- The deadline of a flow's opening, opening by opening, and an event with it.
use mathlib.Core.Path.{◌≡◌, refl, sym, ap}
use mathlib.Core.Bool.{Bool, true, false, cond, ◌&&◌}
use mathlib.Core.List.{List}
use Prim.Native.Nat.{ℕ, zero, suc, ◌+◌, ◌*◌, ◌/◌, ◌%◌, ◌≤◌, ◌<◌}
use native.Mathlib.Omega.{arith}
use borrow.Author.Tests.{eq-eqb, ne_eqb, leb-true}
use lib.Dec.{ltb, leb}
use lib.ListN.{length}
use Rattle.log_format.specs.declared.Form.{Form}
use Rattle.log_format.specs.declared.Form.TheVariants.{Flow, Own}
use Rattle.std.specs.Prelude.{None, Some}
use Rattle.log_format.specs.Format.{Opening}
use Rattle.log_format.specs.Words.{event_word}
use Rattle.log_format.specs.Faults.{byte_at, two_at}
use Rattle.log_format.specs.Own.{opening_deadline}
use Rattle.log_format.specs.Reading.{openings_at, event_at}
use Rattle.log_format.proofs.Words.{words_back}
use Rattle.log_records.specs.Found.{event_in}
use Rattle.log_cells.specs.Own.{own_word}

-- ---- the opening at a place is the flow's, or one of those after it is, or none is
module _ (s : List ℕ) (flow at : ℕ) where
  pub opened_here : (left : ℕ) → 0 < left → byte_at s at ≡ flow → opening_deadline (openings_at s at left) flow ≡ two_at s (at + 1)
  unfolding openings_at opening_deadline
  opened_here zero l e = absurd (omega arith)
  opened_here (suc left) l e = rw (eq-eqb (byte_at s at) flow e)

  pub opened_later : (left rest : ℕ) → left ≡ rest + 1 → (byte_at s at ≡ flow → ⊥) → opening_deadline (openings_at s (at + 3) rest) flow ≡ opening_deadline (openings_at s at left) flow
  unfolding openings_at opening_deadline
  opened_later zero rest l e = absurd (omega arith)
  opened_later (suc left) rest l e = let q : rest ≡ left = omega arith in rw (q, ne_eqb (byte_at s at) flow e)

  pub not_opened : (left : ℕ) → left ≤ 0 → opening_deadline (openings_at s at left) flow ≡ 1
  unfolding openings_at opening_deadline
  not_opened zero l = refl
  not_opened (suc left) l = absurd (omega arith)

-- ---- the number of an event that is no cell, and of a cell that has its flow's deadline
module _ (urgent : List Opening) (word : ℕ) where
  pub no_cell : (word % 256 ≡ 2 → ⊥) → (form : Form) → word ≡ own_word form urgent word
  no_cell e Flow = rw (ne_eqb (word % 256) 2 e) (sym (words_back.event word))
  no_cell e Own = sym (words_back.event word)

  pub cell : word % 256 ≡ 2 → (deadline : ℕ) → deadline ≡ opening_deadline urgent (word / 256 % 256) → word % 65536 + 65536 * deadline ≡ own_word Flow urgent word
  cell e deadline d =
      rw (eq-eqb (word % 256) 2 e, ← d)
      (let half : word % 256 + 256 * (word / 256 % 256) ≡ word % 65536 = omega arith in
      ap (λ (n : ℕ). n + 65536 * deadline) (sym half))

-- ---- an event that is found is all there
pub all_there : (s : List ℕ) (start count k word : ℕ) → Some word ≡ event_in s start count k → start + 4 * k + 4 ≤ length s
all_there s start count k word = go (ltb k count) (leb (start + 4 * k + 4) (length s)) refl
  where
    go : (a b : Bool) → leb (start + 4 * k + 4) (length s) ≡ b → Some word ≡ cond (a && b) (Some (event_word (event_at s (start + 4 * k)))) None → start + 4 * k + 4 ≤ length s
    go a true l e = leb-true (start + 4 * k + 4) (length s) l
    go true false l e = absurd (let z : ◌≡◌ {A = ℕ} 0 1 = cc in omega arith)
    go false false l e = absurd (let z : ◌≡◌ {A = ℕ} 0 1 = cc in omega arith)
