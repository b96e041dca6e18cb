-- A line of text: a word, each field after one blank, and a line feed; and text put into bytes at a place.
use Rattle.std.specs.Prelude.{List, [], ◌∷◌, ◌++◌, ◌≡◌, ℕ, ◌+◌, ◌*◌, ◌≤◌, ◌<◌, length, take, drop}
use Rattle.text.specs.Decimal.{decimal_of}
use Rattle.text.specs.Reading.{blank}

-- what ends every line
abbrev pub line_feed : ℕ
line_feed = 10

-- the words ok and no; every refusal has the second
abbrev pub ok_word : List ℕ
ok_word = 111 ∷ 107 ∷ []

abbrev pub no_word : List ℕ
no_word = 110 ∷ 111 ∷ []

-- each field after one blank
abbrev pub parts_of : List (List ℕ) → List ℕ
parts_of [] = []
parts_of (field ∷ fields) = blank ∷ (field ++ parts_of fields)

-- each field after one blank, and a line feed
abbrev pub fields_of : List (List ℕ) → List ℕ
fields_of [] = line_feed ∷ []
fields_of (field ∷ fields) = blank ∷ (field ++ fields_of fields)

-- a word and its fields: as part of a line, and as a line
abbrev pub part_with : List ℕ → List (List ℕ) → List ℕ
part_with word fields = word ++ parts_of fields

abbrev pub line_with : List ℕ → List (List ℕ) → List ℕ
line_with word fields = word ++ fields_of fields

-- a refusal tells its number and nothing else
abbrev pub refusal_line : ℕ → List ℕ
refusal_line number = line_with no_word (decimal_of number ∷ [])

-- room that a word and so many numbers always have enough of
abbrev pub room_for : List ℕ → ℕ → ℕ
room_for word count = length word + count * 21

-- the text stands from a place on, the rest is as it was, and the place after it is handed back
pub record Put (text was : List ℕ) (place : ℕ) (is : List ℕ) (next : ℕ) : Type 0 where
  pub bytes : is ≡ take place was ++ (text ++ drop (place + length text) was)
  pub counted : next ≡ place + length text
  pub long : length is ≡ length was

-- with so much room from the place on the text is put there; with less nothing is, and the place is handed back; how long the bytes are
-- and how far the next place may be follow, and are said for those who call
pub record Placed (room : ℕ) (text was : List ℕ) (place : ℕ) (is : List ℕ) (next : ℕ) : Type 0 where
  pub fits : place + room ≤ length was → Put text was place is next
  pub full : length was < place + room → (is ≡ was) × (next ≡ place)
  pub long : length is ≡ length was
  pub within : next ≤ place + room

-- the text stands at the start of what was there, the rest is as it was, and the count is the text's length; that nothing grew
-- and that the count fits follow for text that fits, and are said for those who call
pub record Printed (text was is : List ℕ) (count : ℕ) : Type 0 where
  pub bytes : is ≡ text ++ drop (length text) was
  pub counted : count ≡ length text
  pub long : length is ≡ length was
  pub fits : count ≤ length is
