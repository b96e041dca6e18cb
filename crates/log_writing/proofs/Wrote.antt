-- What the writer answers, by the lengths that are lent.
use mathlib.Core.Path.{◌≡◌, sym, ◌∙◌, ap}
use mathlib.Core.List.{List, ◌++◌, map}
use Prim.Native.Nat.{ℕ, ◌+◌, ◌*◌, ◌≤◌}
use native.Mathlib.Omega.{arith}
use lib.ListN.{length, drop, length-map}
use Rattle.log_format.specs.declared.Form.{Form}
use Rattle.std.proofs.Common.{Option, None, Some, Ok, Err}
use Rattle.log_format.specs.declared.Unwritten.TheVariants.{BadRecord, TooLong}
use Rattle.log_format.specs.Format.{Log, GoodLog, most_deadline, most_weight, most_bytes, bytes_of, size_of}
use Rattle.log_format.specs.Words.{opening_of, event_of, lent_log}
use Rattle.log_format.proofs.There.{few, size_of_lem}
use Rattle.log_judging.specs.Judging.{bad_records, first_bad}
use Rattle.log_judging.proofs.Judging.{judged}
use Rattle.log_writing.specs.Writing.{written_by, written_of}
use Rattle.log_writing.specs.Placing.{put_at}
use Rattle.log_writing.proofs.Writing.{writes}

module _ (form : Form) (us fs es : List ℕ) where
  abbrev log : Log
  log = lent_log form us fs es

  abbrev size : ℕ
  size = 25 + 3 * length us + 3 * length fs + 4 * length es

  size_is : size_of log ≡ size
  size_is = omega (arith, length-map us opening_of, length-map fs opening_of, length-map es event_of)

  -- the log stands at the start of the room
  pub room_after_lem : (was is : List ℕ) → is ≡ put_at 0 (bytes_of log) was → is ≡ bytes_of log ++ drop size was
  room_after_lem was is e =
      let n : 0 + length (bytes_of log) ≡ size = omega (arith, size_of_lem log, size_is) in
      e ∙ ap (λ (k : ℕ). bytes_of log ++ drop k was) n

  pub answers_bad : (room bad : ℕ) → Some bad ≡ first_bad (bad_records log) → Err (BadRecord bad) ≡ written_of log room
  unfolding written_of
  answers_bad room bad p = ap (λ (o : Option ℕ). written_by o log room) p

  module _ (p : None ≡ first_bad (bad_records log)) where
    good : GoodLog log
    good = (judged log).good (sym p)

    -- rising flows are few: so the log's length is a number that fits
    pub few_urgent : length us ≤ 16
    few_urgent = omega (arith, few most_deadline 0 (map opening_of us) good.urgent (omega arith), length-map us opening_of)

    pub few_fair : length fs ≤ 16
    few_fair = omega (arith, few most_weight 0 (map opening_of fs) good.fair (omega arith), length-map fs opening_of)

    pub answers_long : (room : ℕ) → (size ≤ most_bytes → size ≤ room → ⊥) → Err TooLong ≡ written_of log room
    answers_long room h = sym ((writes log room).is_long good (λ a b. h (omega (arith, size_is)) (omega (arith, size_is))))

    pub answers_length : (room : ℕ) → size ≤ most_bytes → size ≤ room → Ok size ≡ written_of log room
    answers_length room a b = ap Ok (sym size_is) ∙ sym ((writes log room).is_length good (omega (arith, size_is)) (omega (arith, size_is)))
