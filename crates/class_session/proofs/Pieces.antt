-- A session fed in any pieces is the whole session. It keeps the line that is not at its end yet, and takes each byte and the end of the
-- input as text's law of such states asks.
use mathlib.Core.Path.{refl, ◌∙◌}
use mathlib.Core.List.{List}
use Rattle.std.proofs.Common.{Option, ℕ}
use native.Mathlib.Omega.{arith}
use borrow.Author.Tests.{ne_eqb, lt-ltb, le-ltb}
use Rattle.text.specs.Feeding.{Step}
use Rattle.text.specs.Keeping.{Keeps}
use Rattle.text.proofs.Feeding.{takes_on_by}
use Rattle.text.proofs.Keeping.{kept_in_pieces}
use Rattle.class_desk.specs.declared.Desk.{Desk}
use Rattle.class_session.specs.declared.Session.{Session}
use Rattle.class_desk.specs.declared.Command.{Command}
use Rattle.class_desk.specs.Desk.{fresh_desk}
use Rattle.class_lines.specs.Reading.{read_command}
use Rattle.class_replies.specs.Printing.{line_of, longest}
use Rattle.class_session.specs.Whole.{answer_of, answers_of}
use Rattle.class_session.specs.Steps.{step_of, finish_of}
use Rattle.class_session.specs.Laws.{FedInPieces, TakesOn}
use Rattle.class_session.proofs.Steps.{step_other}

-- a desk and the line kept
abbrev made : Desk → List ℕ → ℕ → Session
made d kept count = record { desk = d; line = record { kept = kept; count = count } }

-- the desk after a line, and the line of its reply
abbrev answer : Desk → Option Command → Step Desk
answer d command = record { state = (answer_of d command).desk; text = line_of (answer_of d command).reply }

keeps : Keeps read_command answer answers_of made step_of finish_of
unfolding answers_of step_of
keeps =
    record {
      no_line = λ d. refl;
      next_line = λ d line lines. refl;
      line_feed_lem = λ d kept count. refl;
      early = λ d kept count b n l. step_other (made d kept count) b n ∙ rw (lt-ltb count 32 l);
      late = λ d kept count b n l. step_other (made d kept count) b n ∙ rw (le-ltb count 32 l);
      no_byte = λ d kept. refl;
      last_line = λ d kept count l. rw (ne_eqb count 0 (λ z. omega arith));
    }

pub fed_in_pieces : FedInPieces
fed_in_pieces = kept_in_pieces keeps fresh_desk _ refl

pub takes_on : TakesOn
takes_on = takes_on_by step_of longest
