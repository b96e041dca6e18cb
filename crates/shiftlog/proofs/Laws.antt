-- A log that was written fits its room.
use mathlib.Core.Path.{◌≡◌, sym, ◌∙◌}
use mathlib.Core.Bool.{Bool, true, false, cond}
use mathlib.Core.List.{List}
use Prim.Native.Nat.{ℕ, ◌≤◌}
use native.Mathlib.Omega.{arith}
use lib.Dec.{ltb}
use lib.ListN.{length}
use Rattle.std.specs.Prelude.{Result, Ok, Err}
use Rattle.log_format.specs.declared.Unwritten.{Unwritten}
use Rattle.log_format.specs.declared.Unwritten.TheVariants.{TooLong}
use Rattle.log_writing.specs.Writing.{written_of}
use Rattle.log_writing.proofs.Writing.{writes}
use Rattle.recorder.specs.declared.Recorder.{Recorder}
use Rattle.recorded.specs.Recorded.{held_log, wrote_of}

pub fits_room : (r : Recorder) (events : List ℕ) (room n : ℕ) (w : Result ℕ Unwritten) → w ≡ wrote_of r events room → w ≡ Ok n → n ≤ room
fits_room r events room n w is told = go (ltb (length events) r.events) (sym is ∙ told)
  where
    go : (long : Bool) → cond long (Err TooLong) (written_of (held_log r events) room) ≡ Ok n → n ≤ room
    go true e = cc
    go false e = let h = (writes (held_log r events) room).length n e in omega (arith, h.2, h.3)
