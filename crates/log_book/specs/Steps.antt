-- The log of a session, byte by byte: the log so far, and the line that is not at its end yet.
use Rattle.std.specs.Prelude.{cond, List, [], ◌∷◌, ℕ, eqb}
use Rattle.station.specs.declared.Call.{Call}
use Rattle.text.specs.Lines.{line_feed}
use Rattle.feeding.specs.Lines.{fresh_line, kept_of, ended_of}
use Rattle.session.specs.Steps.{kept_as}
use Rattle.recorder.specs.Recording.{fresh_recorder}
use Rattle.recorder.specs.Laws.{recorded_from, room_from}
use Rattle.log_book.specs.declared.Logbook.{Logbook}
use Rattle.log_book.specs.Whole.{calls_by}

-- before any byte
abbrev pub fresh_logbook : Logbook
fresh_logbook = record { recorder = fresh_recorder; line = fresh_line }

-- the call of the line kept so far, were it at its end
abbrev pub asked : Logbook → List Call
asked s = calls_by (kept_as s.line)

-- a line feed: the line's call is noted, and the next one begins
abbrev pub ended : Logbook → Logbook
ended s = record { recorder = recorded_from s.recorder (asked s); line = ended_of s.line }

abbrev pub room_ended : Logbook → List ℕ → List ℕ
room_ended s room = room_from s.recorder (asked s) room

-- any other byte is one more of the line
abbrev pub keeping : Logbook → ℕ → Logbook
keeping s b = record { recorder = s.recorder; line = kept_of s.line b }

-- one byte
unfoldable pub step_of : Logbook → ℕ → Logbook
step_of s b = cond (eqb b line_feed) (ended s) (keeping s b)

unfoldable pub room_step : Logbook → ℕ → List ℕ → List ℕ
room_step s b room = cond (eqb b line_feed) (room_ended s room) room

-- byte after byte
unfoldable pub fed_of : Logbook → List ℕ → Logbook
fed_of s [] = s
fed_of s (b ∷ bs) = fed_of (step_of s b) bs

unfoldable pub room_fed : Logbook → List ℕ → List ℕ → List ℕ
room_fed s [] room = room
room_fed s (b ∷ bs) room = room_fed (step_of s b) bs (room_step s b room)

-- at the end of the input a line that has a byte is noted as if it had its line feed
abbrev pub finish_of : Logbook → Logbook
finish_of s = cond (eqb s.line.count 0) s (ended s)

abbrev pub room_finished : Logbook → List ℕ → List ℕ
room_finished s room = cond (eqb s.line.count 0) room (room_ended s room)
