-- The reader is one, and no other function of bytes is.
use mathlib.Core.Path.{◌≡◌, refl, sym, ◌∙◌, ap, subst}
use Prim.Native.Nat.{ℕ}
use native.Mathlib.Omega.{arith}
use Rattle.log_format.specs.Faults.{FaultAt}
use Rattle.log_format.specs.Reading.{Reading, Good, Bad, read_of}
use Rattle.log_format.specs.Laws.{Reads, OneReader}
use Rattle.log_format.proofs.Faults.{is_fault, is_lowest, is_faultless, one_fault}
use Rattle.log_format.proofs.Back.{is_read}
use Rattle.log_format.proofs.There.{is_written}

pub reads : Reads read_of
reads =
    record {
      written = λ log g fits. is_written log g fits;
      read = λ s log b e. is_read s log b e;
      fault = λ s f place e. is_fault s f place e;
      lowest = λ s f g place other e h. is_lowest s g other h f place e;
      faultless = λ s log g other e h. is_faultless s g other h log e;
    }

pub one_reader : OneReader
one_reader reader r s b = go (reader s) refl (read_of s) refl
  where
    go : (x : Reading) → reader s ≡ x → (y : Reading) → read_of s ≡ y → x ≡ y
    go (Good log) p y q =
        let h = r.read s log b p in
        sym (reads.written log h.1 h.2) ∙ ap read_of h.0 ∙ q
    go (Bad f place) p (Good log) q = absurd (reads.faultless s log f place q (r.fault s f place p))
    go (Bad f place) p (Bad g other) q =
        let h = r.fault s f place p in
        let i = reads.fault s g other q in
        let l = r.lowest s f g place other p i in
        let m = reads.lowest s g f other place q h in
        let e : place ≡ other = omega arith in
        let d : f ≡ g = one_fault s f g other (subst (λ (n : ℕ). FaultAt s f n) e h) i in
        rw (e, d)
