-- The commands of the class program as text. Every command has one text; a byte is its number in ASCII.
use Rattle.std.specs.Prelude.{List, [], ◌∷◌, ◌++◌, ℕ, ◌≤◌}
use Rattle.text.specs.Decimal.{decimal_of}
use Rattle.text.specs.Reading.{blank, largest}
use Rattle.classes.specs.declared.Call.TheVariants.{Open, Close, Offer, Begin, End}
use Rattle.class_desk.specs.declared.Command.{Command}
use Rattle.class_desk.specs.declared.Command.TheVariants.{Class, Hang, SetUp, Ask}

-- the letters K G S F c f b e
abbrev pub big_k : ℕ
big_k = 75

abbrev pub big_g : ℕ
big_g = 71

abbrev pub big_s : ℕ
big_s = 83

abbrev pub big_f : ℕ
big_f = 70

abbrev pub small_c : ℕ
small_c = 99

abbrev pub small_f : ℕ
small_f = 102

abbrev pub small_b : ℕ
small_b = 98

abbrev pub small_e : ℕ
small_e = 101

-- a command's one text: its letter, and each of its numbers after one blank
abbrev pub text_of : Command → List ℕ
text_of (Class parent weight) = big_k ∷ blank ∷ (decimal_of parent ++ blank ∷ decimal_of weight)
text_of (Hang flow class) = big_g ∷ blank ∷ (decimal_of flow ++ blank ∷ decimal_of class)
text_of SetUp = big_s ∷ []
text_of (Ask (Open flow weight)) = big_f ∷ blank ∷ (decimal_of flow ++ blank ∷ decimal_of weight)
text_of (Ask (Close flow)) = small_c ∷ blank ∷ decimal_of flow
text_of (Ask (Offer flow len)) = small_f ∷ blank ∷ (decimal_of flow ++ blank ∷ decimal_of len)
text_of (Ask Begin) = small_b ∷ []
text_of (Ask End) = small_e ∷ []

-- each number of a command is one that a line may hold
abbrev pub Small : Command → Type 0
Small (Class parent weight) = (parent ≤ largest) × (weight ≤ largest)
Small (Hang flow class) = (flow ≤ largest) × (class ≤ largest)
Small SetUp = Unit {0}
Small (Ask (Open flow weight)) = (flow ≤ largest) × (weight ≤ largest)
Small (Ask (Close flow)) = flow ≤ largest
Small (Ask (Offer flow len)) = (flow ≤ largest) × (len ≤ largest)
Small (Ask Begin) = Unit {0}
Small (Ask End) = Unit {0}
