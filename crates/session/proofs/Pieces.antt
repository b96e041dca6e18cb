-- A session fed in any pieces is the whole session. It keeps the line that is not at its end yet, and takes each byte and the end of the
-- input as text's law of such states asks.
use mathlib.Core.Path.{refl, ◌∙◌}
use mathlib.Core.List.{List}
use Rattle.std.proofs.Common.{Option}
use Prim.Native.Nat.{ℕ}
use native.Mathlib.Omega.{arith}
use borrow.Author.Tests.{ne_eqb, lt-ltb, le-ltb}
use Rattle.text.specs.Feeding.{Step}
use Rattle.text.specs.Keeping.{Keeps}
use Rattle.text.proofs.Feeding.{takes_on_by}
use Rattle.text.proofs.Keeping.{kept_in_pieces}
use Rattle.station.specs.Calls.{fresh_station}
use Rattle.station.specs.declared.Call.{Call}
use Rattle.station.specs.declared.Station.{Station}
use Rattle.lines.specs.Reading.{read_call}
use Rattle.replies.specs.Printing.{longest}
use Rattle.session.specs.declared.Session.{Session}
use Rattle.session.specs.Whole.{answer_of, answers_of}
use Rattle.session.specs.Steps.{step_of, finish_of}
use Rattle.session.specs.Laws.{FedInPieces, TakesOn}
use Rattle.session.proofs.Steps.{step_other}

-- the station after a line, and what it answers
abbrev answer : Station → Option Call → Step Station
answer s asked = record { state = (answer_of s asked).station; text = (answer_of s asked).text }

-- a station and the line kept
abbrev made : Station → List ℕ → ℕ → Session
made s kept count = record { station = s; line = record { kept = kept; count = count } }

keeps : Keeps read_call answer answers_of made step_of finish_of
unfolding answers_of step_of
keeps =
    record {
      no_line = λ s. refl;
      next_line = λ s line lines. refl;
      line_feed_lem = λ s kept count. refl;
      early = λ s kept count b n l. step_other (made s kept count) b n ∙ rw (lt-ltb count 32 l);
      late = λ s kept count b n l. step_other (made s kept count) b n ∙ rw (le-ltb count 32 l);
      no_byte = λ s kept. refl;
      last_line = λ s kept count l. rw (ne_eqb count 0 (λ z. omega arith));
    }

pub fed_in_pieces : FedInPieces
fed_in_pieces = kept_in_pieces keeps fresh_station _ refl

pub takes_on : TakesOn
takes_on = takes_on_by step_of longest
