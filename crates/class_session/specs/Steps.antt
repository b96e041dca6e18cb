-- The session's state, byte by byte: the desk, and the line that is not at its end yet.
use Rattle.std.specs.Prelude.{cond, List, [], ℕ, eqb, Option}
use Rattle.text.specs.Lines.{line_feed}
use Rattle.text.specs.Feeding.{Step}
use Rattle.text.specs.Keeping.{kept_by}
use Rattle.feeding.specs.declared.line.Line.{Line}
use Rattle.feeding.specs.Lines.{fresh_line, kept_of, ended_of}
use Rattle.class_desk.specs.declared.Command.{Command}
use Rattle.class_desk.specs.declared.Heard.{Heard}
use Rattle.class_desk.specs.Desk.{fresh_desk}
use Rattle.class_lines.specs.Reading.{read_command}
use Rattle.class_replies.specs.Printing.{line_of}
use Rattle.class_session.specs.declared.Session.{Session}
use Rattle.class_session.specs.Whole.{answer_of}

-- before any byte
abbrev pub fresh_session : Session
fresh_session = record { desk = fresh_desk; line = fresh_line }

-- what a line asks for, were it at its end; a count above 32 says that it is too long
abbrev pub kept_as : Line → Option Command
kept_as line = kept_by read_command line.kept line.count

-- how the desk answers the line kept so far
abbrev pub answered_by : Session → Heard
answered_by s = answer_of s.desk (kept_as s.line)

-- a line feed: the line is answered, and the next one begins
abbrev pub ended : Session → Step Session
ended s = record { state = record { desk = (answered_by s).desk; line = ended_of s.line }; text = line_of (answered_by s).reply }

-- any other byte is one more of the line
abbrev pub keeping : Session → ℕ → Session
keeping s b = record { desk = s.desk; line = kept_of s.line b }

-- one byte
unfoldable pub step_of : Session → ℕ → Step Session
step_of s b = cond (eqb b line_feed) (ended s) (record { state = keeping s b; text = [] })

-- at the end of the input a line that has a byte is answered as if it had its line feed
abbrev pub finish_of : Session → List ℕ
finish_of s = cond (eqb s.line.count 0) [] (line_of (answered_by s).reply)
