-- Logs worked by hand: their bytes, and one fault of each number.
use Rattle.std.specs.Prelude.{◌≡◌, List, [], ◌∷◌, map, ℕ, None, Some}
use Rattle.log_format.specs.declared.Fault.TheVariants.{FirstByte, TableField, BadRecord, EndsEarly, ByteTooMany}
use Rattle.log_format.specs.declared.Form.TheVariants.{Flow, Own}
use Rattle.log_format.specs.Format.{Opening, Event, Log, bytes_of}
use Rattle.log_format.specs.Refusals.{fault_number}
use Rattle.log_format.specs.Reading.{Good, Bad, read_of}
use Rattle.log_format.specs.Pairs.{tail_of, difference_of}

abbrev pub opening : ℕ → ℕ → Opening
opening flow number = record { flow = flow; number = number }

abbrev pub event : ℕ → ℕ → ℕ → Event
event kind flow number = record { kind = kind; flow = flow; number = number }

abbrev pub empty_log : Log
empty_log = record { form = Flow; urgent = []; fair = []; events = [] }

-- its bytes: the first byte, and a table of three empty bodies
abbrev pub empty_bytes : List ℕ
empty_bytes = 1 ∷ 25 ∷ 0 ∷ 0 ∷ 0 ∷ 0 ∷ 0 ∷ 0 ∷ 0 ∷ 25 ∷ 0 ∷ 0 ∷ 0 ∷ 0 ∷ 0 ∷ 0 ∷ 0 ∷ 25 ∷ 0 ∷ 0 ∷ 0 ∷ 0 ∷ 0 ∷ 0 ∷ 0 ∷ []

-- urgent flow 2 with deadline 4,096, fair flow 15 with weight 7; a cell of flow 2, a packet of flow 15 of 1,500 bytes, an open turn, a begin
abbrev pub small_log : List Event → Log
small_log more =
    record {
      form = Flow;
      urgent = opening 2 4096 ∷ [];
      fair = opening 15 7 ∷ [];
      events = event 2 2 0 ∷ event 3 15 1500 ∷ event 0 0 0 ∷ event 4 0 0 ∷ more;
    }

abbrev pub small_bytes : ℕ → List ℕ → List ℕ
small_bytes event_length more =
    1
    ∷ 25 ∷ 0 ∷ 0 ∷ 0 ∷ 3 ∷ 0 ∷ 0 ∷ 0
    ∷ 28 ∷ 0 ∷ 0 ∷ 0 ∷ 3 ∷ 0 ∷ 0 ∷ 0
    ∷ 31 ∷ 0 ∷ 0 ∷ 0 ∷ event_length ∷ 0 ∷ 0 ∷ 0
    ∷ 2 ∷ 0 ∷ 16
    ∷ 15 ∷ 7 ∷ 0
    ∷ 2 ∷ 2 ∷ 0 ∷ 0
    ∷ 3 ∷ 15 ∷ 220 ∷ 5
    ∷ 0 ∷ 0 ∷ 0 ∷ 0
    ∷ 4 ∷ 0 ∷ 0 ∷ 0
    ∷ more

-- two urgent openings of these flows, each with deadline 9, and nothing else
abbrev pub two_urgent : ℕ → ℕ → List ℕ
two_urgent one other = 1 ∷ 25 ∷ 0 ∷ 0 ∷ 0 ∷ 6 ∷ 0 ∷ 0 ∷ 0 ∷ 31 ∷ 0 ∷ 0 ∷ 0 ∷ 0 ∷ 0 ∷ 0 ∷ 0 ∷ 31 ∷ 0 ∷ 0 ∷ 0 ∷ 0 ∷ 0 ∷ 0 ∷ 0 ∷ one ∷ 9 ∷ 0 ∷ other ∷ 9 ∷ 0 ∷ []

-- events and no openings, in a log with this first byte
abbrev pub only_events : ℕ → ℕ → List ℕ → List ℕ
only_events first event_length events = first ∷ 25 ∷ 0 ∷ 0 ∷ 0 ∷ 0 ∷ 0 ∷ 0 ∷ 0 ∷ 25 ∷ 0 ∷ 0 ∷ 0 ∷ 0 ∷ 0 ∷ 0 ∷ 0 ∷ 25 ∷ 0 ∷ 0 ∷ 0 ∷ event_length ∷ 0 ∷ 0 ∷ 0 ∷ events

-- a cell of flow 2 with its own deadline 4,096, and one of flow 3 with 1
abbrev pub own_cells : Log
own_cells = record { form = Own; urgent = []; fair = []; events = event 2 2 4096 ∷ event 2 3 1 ∷ [] }

pub record Worked : Type 0 where
  pub empty : bytes_of empty_log ≡ empty_bytes
  pub empty_read : read_of empty_bytes ≡ Good empty_log
  pub small : bytes_of (small_log []) ≡ small_bytes 16 []
  pub small_read : read_of (small_bytes 16 []) ≡ Good (small_log [])
  pub own : bytes_of own_cells ≡ only_events 2 8 (2 ∷ 2 ∷ 0 ∷ 16 ∷ 2 ∷ 3 ∷ 1 ∷ 0 ∷ [])
  pub own_read : read_of (only_events 2 8 (2 ∷ 2 ∷ 0 ∷ 16 ∷ 2 ∷ 3 ∷ 1 ∷ 0 ∷ [])) ≡ Good own_cells
  -- 20: a first byte 3; no byte at all is 23
  pub no_20 : read_of (3 ∷ []) ≡ Bad FirstByte 0
  pub no_bytes : read_of [] ≡ Bad EndsEarly 0
  -- 21: an offset of 26; an opening length of 4, of 51; an event length of 15, and one of 4,294,967,292
  pub no_21_offset : read_of (1 ∷ 26 ∷ 0 ∷ 0 ∷ 0 ∷ []) ≡ Bad TableField 1
  pub no_21_urgent : read_of (1 ∷ 25 ∷ 0 ∷ 0 ∷ 0 ∷ 4 ∷ 0 ∷ 0 ∷ 0 ∷ []) ≡ Bad TableField 5
  pub no_21_many : read_of (1 ∷ 25 ∷ 0 ∷ 0 ∷ 0 ∷ 51 ∷ 0 ∷ 0 ∷ 0 ∷ []) ≡ Bad TableField 5
  pub no_21_events : read_of (small_bytes 15 []) ≡ Bad TableField 21
  pub no_21_long : read_of (1 ∷ 25 ∷ 0 ∷ 0 ∷ 0 ∷ 0 ∷ 0 ∷ 0 ∷ 0 ∷ 25 ∷ 0 ∷ 0 ∷ 0 ∷ 0 ∷ 0 ∷ 0 ∷ 0 ∷ 25 ∷ 0 ∷ 0 ∷ 0 ∷ 252 ∷ 255 ∷ 255 ∷ 255 ∷ []) ≡ Bad TableField 21
  -- 22: a fifth event that is an end with a flow, wherever the log ends
  pub no_22 : read_of (small_bytes 20 (5 ∷ 1 ∷ 0 ∷ 0 ∷ 9 ∷ [])) ≡ Bad BadRecord 47
  -- and of two urgent openings the second, where its flow is not above the first one's; where it is, both are read
  pub no_22_falling : read_of (two_urgent 3 2) ≡ Bad BadRecord 28
  pub no_22_equal : read_of (two_urgent 2 2) ≡ Bad BadRecord 28
  pub rising : read_of (two_urgent 2 3) ≡ Good (record { form = Flow; urgent = opening 2 9 ∷ opening 3 9 ∷ []; fair = []; events = [] })
  -- and a second cell with its own deadline 0, with 4,097; and a cell with a deadline in a log that tells none
  pub no_22_zero : read_of (only_events 2 8 (2 ∷ 2 ∷ 0 ∷ 16 ∷ 2 ∷ 3 ∷ 0 ∷ 0 ∷ [])) ≡ Bad BadRecord 29
  pub no_22_late : read_of (only_events 2 8 (2 ∷ 2 ∷ 0 ∷ 16 ∷ 2 ∷ 3 ∷ 1 ∷ 16 ∷ [])) ≡ Bad BadRecord 29
  pub no_22_told : read_of (only_events 1 4 (2 ∷ 2 ∷ 1 ∷ 0 ∷ [])) ≡ Bad BadRecord 25
  -- 23: an event cut after its third byte, at the end of the bytes, and a field that is not whole
  pub no_23 : read_of (small_bytes 20 (5 ∷ 1 ∷ 0 ∷ [])) ≡ Bad EndsEarly 50
  pub no_23_field : read_of (1 ∷ 26 ∷ 0 ∷ 0 ∷ []) ≡ Bad EndsEarly 4
  -- 24: a byte too many
  pub no_24 : read_of (small_bytes 16 (5 ∷ 1 ∷ 0 ∷ [])) ≡ Bad ByteTooMany 47
  -- two logs: an end more; and an end against a lost turn
  pub tail : tail_of (small_bytes 16 []) (small_bytes 20 (5 ∷ 0 ∷ 0 ∷ 0 ∷ [])) ≡ 5 ∷ 0 ∷ 0 ∷ 0 ∷ []
  pub differ : difference_of (small_bytes 20 (1 ∷ 0 ∷ 0 ∷ 0 ∷ [])) (small_bytes 20 (5 ∷ 0 ∷ 0 ∷ 0 ∷ [])) ≡ Some 47
  -- of form Own: a cell more; and a deadline of 1 against one of 2
  pub tail_own : tail_of (only_events 2 4 (2 ∷ 2 ∷ 0 ∷ 16 ∷ [])) (only_events 2 8 (2 ∷ 2 ∷ 0 ∷ 16 ∷ 2 ∷ 3 ∷ 1 ∷ 0 ∷ [])) ≡ 2 ∷ 3 ∷ 1 ∷ 0 ∷ []
  pub differ_own : difference_of (only_events 2 4 (2 ∷ 2 ∷ 1 ∷ 0 ∷ [])) (only_events 2 4 (2 ∷ 2 ∷ 2 ∷ 0 ∷ [])) ≡ Some 27
  -- the two forms are not compared, though no event is a cell: not an open turn with an open turn and an end, nor with an end
  pub tail_forms : tail_of (only_events 1 4 (0 ∷ 0 ∷ 0 ∷ 0 ∷ [])) (only_events 2 8 (0 ∷ 0 ∷ 0 ∷ 0 ∷ 5 ∷ 0 ∷ 0 ∷ 0 ∷ [])) ≡ []
  pub differ_forms : difference_of (only_events 1 4 (0 ∷ 0 ∷ 0 ∷ 0 ∷ [])) (only_events 2 4 (5 ∷ 0 ∷ 0 ∷ 0 ∷ [])) ≡ None
  -- the limit: with one opening an event length of 65,508 makes 65,536 bytes and is right; with none 65,512 makes 65,537 and is wrong
  pub limit : read_of (1 ∷ 25 ∷ 0 ∷ 0 ∷ 0 ∷ 3 ∷ 0 ∷ 0 ∷ 0 ∷ 28 ∷ 0 ∷ 0 ∷ 0 ∷ 0 ∷ 0 ∷ 0 ∷ 0 ∷ 28 ∷ 0 ∷ 0 ∷ 0 ∷ 228 ∷ 255 ∷ 0 ∷ 0 ∷ []) ≡ Bad EndsEarly 25
  pub over : read_of (1 ∷ 25 ∷ 0 ∷ 0 ∷ 0 ∷ 0 ∷ 0 ∷ 0 ∷ 0 ∷ 25 ∷ 0 ∷ 0 ∷ 0 ∷ 0 ∷ 0 ∷ 0 ∷ 0 ∷ 25 ∷ 0 ∷ 0 ∷ 0 ∷ 232 ∷ 255 ∷ 0 ∷ 0 ∷ []) ≡ Bad TableField 21
  -- the refusals by number
  pub numbers : map fault_number (FirstByte ∷ TableField ∷ BadRecord ∷ EndsEarly ∷ ByteTooMany ∷ []) ≡ 20 ∷ 21 ∷ 22 ∷ 23 ∷ 24 ∷ []
