-- Cells with deadlines of their own, worked by hand: what the definitions give, and what they should; and a session in its own words.
use Rattle.std.specs.Prelude.{◌≡◌, List, [], ◌∷◌, ◌++◌, ℕ, zero, suc, replicate}
use Rattle.units.specs.Answers.{Told, values}
use Rattle.station.specs.declared.Call.TheVariants.{OpenUrgent, CloseUrgent, OfferCell, OpenTurn, LostTurn}
use Rattle.station.specs.Calls.{fresh_station}
use Rattle.session.specs.Whole.{session_of}
use Rattle.text.specs.Spelled.{bytes_of}
use Rattle.cases.specs.Table.{Case, fresh_at, told_by, ok, no}

-- two cells of one flow, the second of which may wait for less: it goes first
abbrev pub out_of_order : Case
out_of_order =
    record {
      answered = told_by fresh_station (OpenUrgent 0 3 ∷ OfferCell 0 3 ∷ OfferCell 0 1 ∷ OpenTurn ∷ OpenTurn ∷ []);
      expected = ok ∷ values (0 ∷ 2 ∷ []) ∷ values (1 ∷ 0 ∷ []) ∷ values (0 ∷ 1 ∷ 0 ∷ []) ∷ values (0 ∷ 0 ∷ 0 ∷ []) ∷ [];
    }

-- so many cells of deadline 4,096, numbered from one on, all with last slot 4,095
unfoldable pub slow : ℕ → ℕ → List Told
slow number zero = []
slow number (suc n) = values (number ∷ 4095 ∷ []) ∷ slow (suc number) n

-- a cell of deadline 1 behind fifteen of 4,096 goes first, and the first of the fifteen after it
abbrev pub last_goes_first : Case
last_goes_first =
    record {
      answered = told_by fresh_station (OpenUrgent 0 4096 ∷ replicate 15 (OfferCell 0 4096) ++ OfferCell 0 1 ∷ OpenTurn ∷ OpenTurn ∷ []);
      expected = ok ∷ slow 0 15 ++ values (15 ∷ 0 ∷ []) ∷ values (0 ∷ 15 ∷ 0 ∷ []) ∷ values (0 ∷ 0 ∷ 0 ∷ []) ∷ [];
    }

-- with sixteen waiting a bad deadline is told before the want of a place
abbrev pub full_flow : Case
full_flow =
    record {
      answered = told_by fresh_station (OpenUrgent 0 4096 ∷ replicate 16 (OfferCell 0 4096) ++ OfferCell 0 4097 ∷ OfferCell 0 0 ∷ OfferCell 0 1 ∷ []);
      expected = ok ∷ slow 0 16 ++ no 14 ∷ no 14 ∷ no 5 ∷ [];
    }

-- a deadline is 1 to the flow's own, that of its newest opening; a flow above 15 and one that is not open go first
abbrev pub own_limit : Case
own_limit =
    record {
      answered =
          told_by fresh_station
          (OfferCell 16 0 ∷ OfferCell 0 0 ∷ OpenUrgent 0 3 ∷ OfferCell 0 0 ∷ OfferCell 0 4 ∷ OfferCell 0 3 ∷ OpenTurn ∷ CloseUrgent 0
          ∷ OpenUrgent 0 2
          ∷ OfferCell 0 3
          ∷ OfferCell 0 2
          ∷ []);
      expected =
          no 1 ∷ no 2 ∷ ok ∷ no 14 ∷ no 14 ∷ values (0 ∷ 2 ∷ []) ∷ values (0 ∷ 0 ∷ 0 ∷ []) ∷ ok
          ∷ ok
          ∷ no 14
          ∷ values (1 ∷ 2 ∷ [])
          ∷ [];
    }

-- by its own window a cell is refused at the end of the slots, and is missed
abbrev pub own_window : Case
own_window =
    record {
      answered = told_by (fresh_at 3999999999) (OpenUrgent 0 4096 ∷ OfferCell 0 4097 ∷ OfferCell 0 2 ∷ OfferCell 0 1 ∷ LostTurn ∷ OfferCell 0 1 ∷ []);
      expected = ok ∷ no 14 ∷ no 7 ∷ values (0 ∷ 3999999999 ∷ []) ∷ values (1 ∷ []) ∷ no 7 ∷ [];
    }

-- All are answered as they should be, and a session gives its output, byte for byte; a cell without its deadline is no command.
pub record OwnDeadlines : Type 0 where
  pub out_of_order_lem : out_of_order.answered ≡ out_of_order.expected
  pub last_goes_first_lem : last_goes_first.answered ≡ last_goes_first.expected
  pub full_flow_lem : full_flow.answered ≡ full_flow.expected
  pub own_limit_lem : own_limit.answered ≡ own_limit.expected
  pub own_window_lem : own_window.answered ≡ own_window.expected
  pub session :
      session_of (bytes_of "U 0 4\nu 0\nu 0 4\nu 0 2\nu 0 5\nx\nt\nt\n")
      ≡ bytes_of "ok\nno 11\nok 0 3\nok 1 1\nno 14\nidle missed 0\nsent 0 1 missed 0\nsent 0 0 missed 0\n"
