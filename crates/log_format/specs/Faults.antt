-- What is wrong with bytes, and where: each refusal's sentence by itself, with no order among them.
use Rattle.std.specs.Prelude.{◌≡◌, true, cond, List, ◌⊎◌, ℕ, zero, suc, ◌+◌, ◌*◌, ◌≤◌, ◌<◌, eqb, length, get_or}
use Rattle.log_format.specs.declared.Fault.{Fault}
use Rattle.log_format.specs.declared.Fault.TheVariants.{FirstByte, TableField, BadRecord, EndsEarly, ByteTooMany}
use Rattle.log_format.specs.declared.Form.{Form}
use Rattle.log_format.specs.declared.Form.TheVariants.{Flow, Own}
use Rattle.log_format.specs.Format.{bad_opening, bad_event, most_deadline, most_weight, most_bytes}

-- ---- what stands at a place, the lowest byte first; past the end every byte is 0
abbrev pub byte_at : List ℕ → ℕ → ℕ
byte_at s at = get_or s at 0

abbrev pub two_of : ℕ → ℕ → ℕ
two_of a b = a + 256 * b

abbrev pub four_of : ℕ → ℕ → ℕ → ℕ → ℕ
four_of a b c d = a + 256 * b + 65536 * c + 16777216 * d

abbrev pub two_at : List ℕ → ℕ → ℕ
two_at s at = two_of (byte_at s at) (byte_at s (at + 1))

abbrev pub four_at : List ℕ → ℕ → ℕ
four_at s at = four_of (byte_at s at) (byte_at s (at + 1)) (byte_at s (at + 2)) (byte_at s (at + 3))

-- the form that a first byte tells; one that tells none is a fault
unfoldable pub form_of : ℕ → Form
form_of first = cond (eqb first 2) Own Flow

abbrev pub form_at : List ℕ → Form
form_at s = form_of (byte_at s 0)

-- ---- the stated lengths, and where the bodies start and end by them
unfoldable pub urgent_length : List ℕ → ℕ
urgent_length s = four_at s 5

unfoldable pub fair_length : List ℕ → ℕ
fair_length s = four_at s 13

unfoldable pub event_length : List ℕ → ℕ
event_length s = four_at s 21

abbrev pub urgent_start : ℕ
urgent_start = 25

abbrev pub fair_start : List ℕ → ℕ
fair_start s = 25 + urgent_length s

abbrev pub event_start : List ℕ → ℕ
event_start s = 25 + urgent_length s + fair_length s

abbrev pub log_end : List ℕ → ℕ
log_end s = 25 + urgent_length s + fair_length s + event_length s

-- ---- the table's fields
-- 3 times 0 to 16; in fours
abbrev pub OpeningLength : ℕ → Type 0
OpeningLength n = (k : ℕ) × (k ≤ 16) × (n ≡ 3 * k)

abbrev pub InFours : ℕ → Type 0
InFours n = (k : ℕ) × (n ≡ 4 * k)

-- a field that is wrong, by its place: an offset that is not the body's start, a length that openings cannot have, a length of events that is no multiple of 4 or makes the log too long
abbrev pub WrongField : List ℕ → ℕ → Type 0
WrongField s place =
    ((place ≡ 1) × (four_at s 1 ≡ urgent_start → ⊥))
    ⊎ ((place ≡ 5) × (OpeningLength (urgent_length s) → ⊥))
    ⊎ ((place ≡ 9) × (four_at s 9 ≡ fair_start s → ⊥))
    ⊎ ((place ≡ 13) × (OpeningLength (fair_length s) → ⊥))
    ⊎ ((place ≡ 17) × (four_at s 17 ≡ event_start s → ⊥))
    ⊎ ((place ≡ 21) × ((InFours (event_length s) → ⊥) ⊎ (most_bytes < log_end s)))

-- ---- the records
-- the least flow that opening k of a body may have: one above the flow of the opening before it
abbrev pub least_at : List ℕ → ℕ → ℕ → ℕ
least_at s start zero = 0
least_at s start (suc k) = byte_at s (start + 3 * k) + 1

-- opening k of a body of so many bytes, whole and not well formed
abbrev pub WrongOpening : List ℕ → ℕ → ℕ → ℕ → ℕ → Type 0
WrongOpening s start size most place =
    (k : ℕ)
    × (place ≡ start + 3 * k)
    × (3 * k + 3 ≤ size)
    × (place + 3 ≤ length s)
    × (bad_opening most (least_at s start k) (byte_at s place) (two_at s (place + 1)) ≡ true)

-- event k, whole and not well formed
abbrev pub WrongEvent : List ℕ → ℕ → Type 0
WrongEvent s place =
    (k : ℕ)
    × (place ≡ event_start s + 4 * k)
    × (4 * k + 4 ≤ event_length s)
    × (place + 4 ≤ length s)
    × (bad_event (form_at s) (byte_at s place) (byte_at s (place + 1)) (two_at s (place + 2)) ≡ true)

-- ---- the five sentences
abbrev pub FaultAt : List ℕ → Fault → ℕ → Type 0
-- 20: a first byte that is neither 1 nor 2
FaultAt s FirstByte place = (place ≡ 0) × (0 < length s) × (byte_at s 0 ≡ 1 → ⊥) × (byte_at s 0 ≡ 2 → ⊥)
-- 21: a whole table field that is wrong, at its start
FaultAt s TableField place = (place + 4 ≤ length s) × WrongField s place
-- 22: a record that is all there and not well formed, where it starts
FaultAt s BadRecord place =
    WrongOpening s urgent_start (urgent_length s) most_deadline place
    ⊎ WrongOpening s (fair_start s) (fair_length s) most_weight place
    ⊎ WrongEvent s place
-- 23: there are fewer bytes than the log has, where they end (a log's end is 25 at least, whatever the table says)
FaultAt s EndsEarly place = (place ≡ length s) × (length s < log_end s)
-- 24: the first byte too many
FaultAt s ByteTooMany place = (place ≡ log_end s) × (log_end s < length s)
