-- What is lent to the writer: the openings listed and the events counted have their words, and are the log that the recorder holds.
use mathlib.Core.Path.{◌≡◌, sym, ◌∙◌, ap}
use mathlib.Core.List.{List, map}
use Prim.Native.Nat.{ℕ, ◌-◌, ◌≤◌}
use native.Mathlib.Omega.{arith}
use borrow.Author.Tests.{le-ltb}
use lib.ListN.{length, take, replicate, length-append}
use lib.Seq.{length-take-le}
use Rattle.log_format.specs.declared.Form.TheVariants.{Own}
use Rattle.std.specs.Prelude.{Result}
use Rattle.log_format.specs.declared.Unwritten.{Unwritten}
use Rattle.log_format.specs.Format.{Log}
use Rattle.log_format.specs.Words.{opening_word, lent_log}
use Rattle.log_writing.specs.Writing.{written_of, room_after}
use Rattle.logging.specs.declared.Openings.{Openings}
use Rattle.logging.specs.Listing.{openings_of}
use Rattle.logging.specs.Logging.{listed}
use Rattle.recorder.specs.declared.Recorder.{Recorder}
use Rattle.recorder.specs.Laws.{words_in}
use Rattle.recorded.specs.Recorded.{held_log, wrote_of}

pub words_there : (ns : List ℕ) (o : Openings) → o ≡ openings_of ns → o.count ≤ length o.words
words_there ns o e =
    let ws = map opening_word (listed 0 ns) in
    rw e (omega (arith, length-append ws (replicate (16 - length ws) 0)))

pub words_told : (ns : List ℕ) (o : Openings) → o ≡ openings_of ns → o.count ≡ length (take o.count o.words)
words_told ns o e = sym (length-take-le o.count o.words (words_there ns o e))

module _ (r : Recorder) (events room : List ℕ) {urgent fair : Openings} (u : urgent ≡ openings_of r.deadlines) (f : fair ≡ openings_of r.weights) where
  abbrev lent : Openings → Openings → Log
  lent urgent fair = lent_log Own (words_in urgent) (words_in fair) (take r.events events)

  lent_is : lent urgent fair ≡ held_log r events
  lent_is = λ i. lent (u i) (f i)

  pub answers : (w : Result ℕ Unwritten) → r.events ≤ length events → w ≡ written_of (lent urgent fair) (length room) → w ≡ wrote_of r events (length room)
  answers w l e = rw (le-ltb (length events) r.events l) (e ∙ ap (λ (log : Log). written_of log (length room)) lent_is)

  pub leaves : (w : Result ℕ Unwritten) (is : List ℕ) → is ≡ room_after w (lent urgent fair) room → is ≡ room_after w (held_log r events) room
  leaves w is e = e ∙ ap (λ (log : Log). room_after w log room) lent_is
