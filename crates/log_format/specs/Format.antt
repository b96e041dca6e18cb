-- What a shift log holds, which records are well formed, and its one encoding.
use Rattle.std.specs.Prelude.{◌≡◌, Bool, false, cond, ◌||◌, List, [], ◌∷◌, ◌++◌, ℕ, ◌+◌, ◌*◌, ◌/◌, ◌%◌, ◌≤◌, ◌<◌, ltb, eqb, length}
use Rattle.units.specs.Limits.{no_such_flow, outside_of, bad_deadline, bad_length}
use Rattle.log_format.specs.declared.Form.{Form}
use Rattle.log_format.specs.declared.Form.TheVariants.{Flow, Own}

-- a flow and its deadline or weight
pub record Opening : Type 0 where
  pub flow : ℕ
  pub number : ℕ

-- the kind is 0 for an open turn, 1 for a lost one, 2 for a cell, 3 for a packet, 4 for a begin, 5 for an end; number is a packet's length or, in a log of form Own, a cell's deadline
pub record Event : Type 0 where
  pub kind : ℕ
  pub flow : ℕ
  pub number : ℕ

pub record Log : Type 0 where
  pub form : Form
  pub urgent : List Opening
  pub fair : List Opening
  pub events : List Event

-- ---- what is well formed
-- the greatest deadline and the greatest weight
abbrev pub most_deadline : ℕ
most_deadline = 4096

abbrev pub most_weight : ℕ
most_weight = 16

-- an opening is of a flow that there is and that is not below the least, and its number is 1 to most
abbrev pub bad_opening : ℕ → ℕ → ℕ → ℕ → Bool
bad_opening most least flow number = ltb flow least || no_such_flow flow || outside_of number most

-- the number of a cell, by the log's form: where the flow's deadline holds, none is told; else it is the cell's own deadline
abbrev pub bad_cell : Form → ℕ → Bool
bad_cell Flow number = ltb 0 number
bad_cell Own number = bad_deadline number

-- an event's fields are within their limits, and those that its kind does not use are zero
abbrev pub bad_event : Form → ℕ → ℕ → ℕ → Bool
bad_event form kind flow number =
    cond (eqb kind 3) (no_such_flow flow || bad_length number)
    (cond (eqb kind 2) (no_such_flow flow || bad_cell form number)
    (ltb 5 kind || ltb 0 flow || ltb 0 number))

-- the openings of a body, by rising flow: after each the least flow is one above its own
abbrev pub GoodOpenings : ℕ → ℕ → List Opening → Type 0
GoodOpenings most least [] = Unit {0}
GoodOpenings most least (o ∷ os) = (bad_opening most least o.flow o.number ≡ false) × GoodOpenings most (o.flow + 1) os

abbrev pub GoodEvents : Form → List Event → Type 0
GoodEvents form [] = Unit {0}
GoodEvents form (e ∷ es) = (bad_event form e.kind e.flow e.number ≡ false) × GoodEvents form es

pub record GoodLog (log : Log) : Type 0 where
  pub urgent : GoodOpenings most_deadline 0 log.urgent
  pub fair : GoodOpenings most_weight 0 log.fair
  pub events : GoodEvents log.form log.events

-- ---- the bytes, every number with its lowest byte first
-- a log's first byte tells its form
abbrev pub first_byte : Form → ℕ
first_byte Flow = 1
first_byte Own = 2

abbrev pub four_bytes : ℕ → List ℕ
four_bytes n = n % 256 ∷ n / 256 % 256 ∷ n / 65536 % 256 ∷ n / 16777216 % 256 ∷ []

-- an opening is a flow byte and a number of two bytes
unfoldable pub opening_bytes : List Opening → List ℕ
opening_bytes [] = []
opening_bytes (o ∷ os) = o.flow ∷ o.number % 256 ∷ o.number / 256 % 256 ∷ opening_bytes os

-- an event is a kind, a flow byte and a number of two bytes
unfoldable pub event_bytes : List Event → List ℕ
event_bytes [] = []
event_bytes (e ∷ es) = e.kind ∷ e.flow ∷ e.number % 256 ∷ e.number / 256 % 256 ∷ event_bytes es

-- the contents table: offset and length of each body, given their lengths
abbrev pub table_bytes : ℕ → ℕ → ℕ → List ℕ
table_bytes u f e = four_bytes 25 ++ (four_bytes u ++ (four_bytes (25 + u) ++ (four_bytes f ++ (four_bytes (25 + u + f) ++ four_bytes e))))

-- the first byte, the table, and the three bodies without gaps
abbrev pub bytes_of : Log → List ℕ
bytes_of log =
    first_byte log.form
    ∷ (table_bytes (3 * length log.urgent) (3 * length log.fair) (4 * length log.events)
    ++ (opening_bytes log.urgent ++ (opening_bytes log.fair ++ event_bytes log.events)))

-- how many bytes that is, and the most that a log may have
abbrev pub size_of : Log → ℕ
size_of log = 25 + 3 * length log.urgent + 3 * length log.fair + 4 * length log.events

abbrev pub most_bytes : ℕ
most_bytes = 65536

abbrev pub Fits : Log → Type 0
Fits log = size_of log ≤ most_bytes

-- a list of bytes
abbrev pub Bytes : List ℕ → Type 0
Bytes [] = Unit {0}
Bytes (b ∷ s) = (b < 256) × Bytes s
