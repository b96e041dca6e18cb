-- What comes after 65,537 bytes does not matter: so many bytes have a fault that stays.
use mathlib.Core.Path.{◌≡◌, refl, sym, ◌∙◌, ap}
use mathlib.Core.List.{List, ◌++◌}
use mathlib.Core.Logic.{inr}
use Prim.Native.Nat.{ℕ, ◌≤◌, ◌<◌}
use native.Mathlib.Decide.{dec_le, dec_lt}
use native.Mathlib.Omega.{arith}
use lib.ListN.{length, take, drop, take-append-drop}
use lib.Seq.{take_all, length-take-le}
use Rattle.log_format.specs.declared.Fault.{Fault}
use Rattle.log_format.specs.declared.Fault.TheVariants.{TableField, EndsEarly, ByteTooMany}
use Rattle.log_format.specs.Faults.{FaultAt, log_end}
use Rattle.log_format.specs.Reading.{Reading, Good, Bad, read_of}
use Rattle.log_format.specs.Laws.{FirstDecide}
use Rattle.log_format.proofs.Faults.{is_fault, is_lowest, is_faultless}
use Rattle.log_format.proofs.GoesOn.{goes_on}

module _ (t : List ℕ) (l : length t ≡ 65537) where
  -- a log that would be longer says so in its event length
  long : 65536 < log_end t → FaultAt t TableField 21
  long h = (omega arith, inr (inr (inr (inr (inr (refl, inr h))))))

  not_good : (x : Reading) → read_of t ≡ x → (more : List ℕ) → read_of (t ++ more) ≡ x
  not_good (Good log) e more = absurd (go (dec_lt (log_end t) (length t)))
    where
      go : Dec (log_end t < length t) → ⊥
      go (yes h) = is_faultless t ByteTooMany (log_end t) (refl, h) log e
      go (no h) = is_faultless t TableField 21 (long (omega arith)) log e
  not_good (Bad f place) e more = (goes_on t).stays more f place e (λ q. early (ap (λ (g : Fault). Bad g place) q))
    where
      early : Bad f place ≡ Bad EndsEarly place → ⊥
      early q =
          let h = is_fault t EndsEarly place (e ∙ q) in
          omega (arith, h.0, is_lowest t TableField 21 (long (omega (arith, h.1))) EndsEarly place (e ∙ q))

pub first_decide : FirstDecide
first_decide s = go (dec_le (length s) 65537)
  where
    go : Dec (length s ≤ 65537) → read_of s ≡ read_of (take 65537 s)
    go (yes l) = rw (take_all 65537 s l)
    go (no l) =
        ap read_of (sym (take-append-drop 65537 s))
        ∙ not_good (take 65537 s) (length-take-le 65537 s (omega arith)) (read_of (take 65537 s)) refl (drop 65537 s)
