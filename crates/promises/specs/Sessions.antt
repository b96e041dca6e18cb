-- What a session of the program promises, line by line.
use Rattle.std.specs.Prelude.{◌≡◌, List, ◌∷◌, ◌++◌, ℕ}
use Rattle.station.specs.declared.Station.{Station}
use Rattle.station.specs.declared.Call.{Call}
use Rattle.station.specs.Calls.{call_of}
use Rattle.lines.specs.Grammar.{text_of, Small}
use Rattle.replies.specs.Printing.{no_command_line, line_of}
use Rattle.session.specs.Whole.{answers_of}

-- a line that is the text of a call with small numbers is answered by the line of the call's reply, and the session goes on from the station after it
abbrev pub CallsAnswered : Type 0
CallsAnswered =
    (s : Station) (call : Call) (lines : List (List ℕ)) → Small call
    → answers_of s (text_of call ∷ lines) ≡ line_of (call_of s call).reply ++ answers_of (call_of s call).station lines

-- every other line is answered `no 11`, once, and leaves the station as it was
abbrev pub OthersAnswered : Type 0
OthersAnswered =
    (s : Station) (line : List ℕ) (lines : List (List ℕ)) → ((call : Call) → line ≡ text_of call → Small call → ⊥)
    → answers_of s (line ∷ lines) ≡ no_command_line ++ answers_of s lines
