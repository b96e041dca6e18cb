-- What the writer's answers mean.
use mathlib.Core.Path.{◌≡◌, refl, ap}
use mathlib.Core.Bool.{Bool, true, false}
use Prim.Native.Nat.{ℕ, ◌≤◌, ◌<◌}
use native.Mathlib.Omega.{arith}
use borrow.Author.Tests.{ltb-true, ltb-false}
use lib.Dec.{ltb}
use lib.ListN.{get_or}
use Rattle.std.proofs.Common.{Option, None, Some, Result, Ok, Err}
use Rattle.log_format.specs.declared.Unwritten.{Unwritten}
use Rattle.log_format.specs.declared.Unwritten.TheVariants.{BadRecord, TooLong}
use Rattle.log_format.specs.Format.{Log, GoodLog, size_of, most_bytes}
use Rattle.log_judging.specs.Judging.{bad_records, first_bad}
use Rattle.log_judging.proofs.Judging.{judged}
use Rattle.log_writing.specs.Writing.{written_by, written_of, Writes}

module _ (log : Log) where
  -- the answer's three ways
  cases : (room : ℕ) (P : Result ℕ Unwritten → Type 0)
      → ((position : ℕ) → first_bad (bad_records log) ≡ Some position → P (Err (BadRecord position)))
      → (GoodLog log → ((size_of log ≤ most_bytes) → (size_of log ≤ room) → ⊥) → P (Err TooLong))
      → (GoodLog log → size_of log ≤ most_bytes → size_of log ≤ room → P (Ok (size_of log)))
      → P (written_of log room)
  unfolding written_of
  cases room P bad long fits = go (first_bad (bad_records log)) refl (ltb most_bytes (size_of log)) refl (ltb room (size_of log)) refl
    where
      go : (o : Option ℕ) → first_bad (bad_records log) ≡ o → (b : Bool) → ltb most_bytes (size_of log) ≡ b → (c : Bool) → ltb room (size_of log) ≡ c
          → P (written_by o log room)
      go (Some position) p b q c r = bad position p
      go None p true q c r = rw q (long ((judged log).good p) (λ l m. omega (arith, ltb-true most_bytes (size_of log) q)))
      go None p false q true r = rw (q, r) (long ((judged log).good p) (λ l m. omega (arith, ltb-true room (size_of log) r)))
      go None p false q false r =
          rw (q, r) (fits ((judged log).good p) (ltb-false most_bytes (size_of log) q) (ltb-false room (size_of log) r))

  -- a good log has no bad record
  none_bad : GoodLog log → (position : ℕ) → first_bad (bad_records log) ≡ Some position → ⊥
  none_bad g position e = let none = (judged log).is_good g in cc

  pub writes : (room : ℕ) → Writes log room
  writes room =
      record {
        bad =
            λ position.
            cases room (λ w. w ≡ Err (BadRecord position) → (get_or (bad_records log) position false ≡ true) × ((k : ℕ) → k < position → get_or (bad_records log) k false ≡ false))
            (λ at l q. let e : at ≡ position = cc in let j = rw e at ((judged log).bad at l) in (j.1, j.2))
            (λ g h q. cc)
            (λ g h i q. cc);
        is_bad =
            λ position t h.
            (let r = (judged log).is_bad position t h in
            cases room (λ w. w ≡ Err (BadRecord position))
            (λ at l. let e : at ≡ position = cc in ap (λ (k : ℕ). Err (BadRecord k)) e)
            (λ g i. absurd (none_bad g position r.0))
            (λ g i j. absurd (none_bad g position r.0)));
        long =
            cases room (λ w. w ≡ Err TooLong → GoodLog log × ((size_of log ≤ most_bytes) → (size_of log ≤ room) → ⊥))
            (λ at l q. cc)
            (λ g h q. (g, h))
            (λ g h i q. cc);
        is_long =
            λ g h.
            cases room (λ w. w ≡ Err TooLong)
            (λ at l. absurd (none_bad g at l))
            (λ k i. refl)
            (λ k i j. absurd (h i j));
        length =
            λ n.
            cases room (λ w. w ≡ Ok n → GoodLog log × (size_of log ≤ most_bytes) × (size_of log ≤ room) × (n ≡ size_of log))
            (λ at l q. cc)
            (λ g h q. cc)
            (λ g h i q. (g, h, i, (let e : n ≡ size_of log = cc in e)));
        is_length =
            λ g h i.
            cases room (λ w. w ≡ Ok (size_of log))
            (λ at l. absurd (none_bad g at l))
            (λ k j. absurd (j h i))
            (λ k j m. refl);
      }
