-- The writer's answers, worked by hand for the small log, which has an opening of each lane, four events and 47 bytes, and for logs of cells.
use Rattle.std.specs.Prelude.{◌≡◌, [], ◌∷◌, ℕ, Ok, Err}
use Rattle.log_format.specs.declared.Unwritten.TheVariants.{BadRecord, TooLong}
use Rattle.log_format.specs.declared.Form.{Form}
use Rattle.log_format.specs.declared.Form.TheVariants.{Flow, Own}
use Rattle.log_format.specs.Format.{Log}
use Rattle.log_format.specs.Worked.{opening, event, small_log, small_bytes, only_events, own_cells}
use Rattle.log_writing.specs.Writing.{written_of, room_after}

-- an urgent opening with this deadline, and a fair one with this weight
abbrev pub openings : ℕ → ℕ → Log
openings deadline weight = record { form = Flow; urgent = opening 2 deadline ∷ []; fair = opening 15 weight ∷ []; events = [] }

-- a cell with this number, in a log of this form
abbrev pub one_cell : Form → ℕ → Log
one_cell form number = record { form = form; urgent = []; fair = []; events = event 2 2 number ∷ [] }

pub record Worked : Type 0 where
  -- a room of 47 bytes is enough, and one of 46 is not
  pub enough : written_of (small_log []) 47 ≡ Ok 47
  pub short : written_of (small_log []) 46 ≡ Err TooLong
  -- a fifth event that is an end with a flow stands at position 6, and is named whatever the room
  pub bad : written_of (small_log (event 5 1 0 ∷ [])) 0 ≡ Err (BadRecord 6)
  -- positions count through urgent openings, then fair ones, then events: deadline 4,097 is bad, and so is weight 17
  pub bad_urgent : written_of (openings 4097 17) 0 ≡ Err (BadRecord 0)
  pub bad_fair : written_of (openings 4096 17) 0 ≡ Err (BadRecord 1)
  -- bytes past the log stay
  pub past : room_after (Ok 47) (small_log []) (small_bytes 99 (7 ∷ 8 ∷ [])) ≡ small_bytes 16 (7 ∷ 8 ∷ [])
  -- a cell tells its own deadline in a log of form Own, and none in one of form Flow
  pub own : written_of (one_cell Own 4096) 29 ≡ Ok 29
  pub bad_own : written_of (one_cell Own 0) 29 ≡ Err (BadRecord 0)
  pub bad_late : written_of (one_cell Own 4097) 29 ≡ Err (BadRecord 0)
  pub bad_told : written_of (one_cell Flow 4096) 29 ≡ Err (BadRecord 0)
  -- and the form is written as the first byte
  pub first : room_after (Ok 33) own_cells (only_events 0 0 (0 ∷ 0 ∷ 0 ∷ 0 ∷ 0 ∷ 0 ∷ 0 ∷ 0 ∷ 7 ∷ [])) ≡ only_events 2 8 (2 ∷ 2 ∷ 0 ∷ 16 ∷ 2 ∷ 3 ∷ 1 ∷ 0 ∷ 7 ∷ [])
