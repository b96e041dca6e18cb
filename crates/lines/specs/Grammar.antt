-- The commands of a session as text. Every call has one text; a byte is its number in ASCII.
use Rattle.std.specs.Prelude.{List, [], ◌∷◌, ◌++◌, ℕ, ◌≤◌}
use Rattle.text.specs.Decimal.{decimal_of}
use Rattle.text.specs.Reading.{blank, largest}
use Rattle.station.specs.declared.Call.{Call}
use Rattle.station.specs.declared.Call.TheVariants.{OpenUrgent, OpenFair, CloseUrgent, CloseFair, OfferCell, OfferPacket, OpenTurn, LostTurn, Begin, End}

-- the letters U F C c u f t x b e
abbrev pub big_u : ℕ
big_u = 85

abbrev pub big_f : ℕ
big_f = 70

abbrev pub big_c : ℕ
big_c = 67

abbrev pub small_c : ℕ
small_c = 99

abbrev pub small_u : ℕ
small_u = 117

abbrev pub small_f : ℕ
small_f = 102

abbrev pub small_t : ℕ
small_t = 116

abbrev pub small_x : ℕ
small_x = 120

abbrev pub small_b : ℕ
small_b = 98

abbrev pub small_e : ℕ
small_e = 101

-- a call's one text: its letter, and each of its numbers after one blank
abbrev pub text_of : Call → List ℕ
text_of (OpenUrgent flow deadline) = big_u ∷ blank ∷ (decimal_of flow ++ blank ∷ decimal_of deadline)
text_of (OpenFair flow weight) = big_f ∷ blank ∷ (decimal_of flow ++ blank ∷ decimal_of weight)
text_of (CloseUrgent flow) = big_c ∷ blank ∷ decimal_of flow
text_of (CloseFair flow) = small_c ∷ blank ∷ decimal_of flow
text_of (OfferCell flow deadline) = small_u ∷ blank ∷ (decimal_of flow ++ blank ∷ decimal_of deadline)
text_of (OfferPacket flow len) = small_f ∷ blank ∷ (decimal_of flow ++ blank ∷ decimal_of len)
text_of OpenTurn = small_t ∷ []
text_of LostTurn = small_x ∷ []
text_of Begin = small_b ∷ []
text_of End = small_e ∷ []

-- each number of a call is one that a line may hold
abbrev pub Small : Call → Type 0
Small (OpenUrgent flow deadline) = (flow ≤ largest) × (deadline ≤ largest)
Small (OpenFair flow weight) = (flow ≤ largest) × (weight ≤ largest)
Small (CloseUrgent flow) = flow ≤ largest
Small (CloseFair flow) = flow ≤ largest
Small (OfferCell flow deadline) = (flow ≤ largest) × (deadline ≤ largest)
Small (OfferPacket flow len) = (flow ≤ largest) × (len ≤ largest)
Small OpenTurn = Unit {0}
Small LostTurn = Unit {0}
Small Begin = Unit {0}
Small End = Unit {0}
