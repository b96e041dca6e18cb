-- Bytes fed to a state, which writes text at each of them: piece after piece, into lent room; and what is promised of that.
use Rattle.std.specs.Prelude.{cond, List, [], ◌∷◌, ◌++◌, ◌≡◌, ℕ, suc, ◌+◌, ◌-◌, ◌≤◌, ◌<◌, ltb, length, take, drop}
use Rattle.text.specs.Input.{joined}

-- the state after some bytes, and what was written for them
pub record Step (S : Type 0) : Type 0 where
  pub state : S
  pub text : List ℕ

-- one step after the other, what they wrote in that order
abbrev pub after : {S : Type 0} → Step S → Step S → Step S
after first next = record { state = next.state; text = first.text ++ next.text }

-- byte after byte
unfoldable pub fed_by : {S : Type 0} → (S → ℕ → Step S) → S → List ℕ → Step S
fed_by step s [] = record { state = s; text = [] }
fed_by step s (b ∷ bs) = after (step s b) (fed_by step (step s b).state bs)

-- piece after piece
unfoldable pub pieces_by : {S : Type 0} → (S → ℕ → Step S) → S → List (List ℕ) → Step S
pieces_by step s [] = record { state = s; text = [] }
pieces_by step s (piece ∷ pieces) = after (fed_by step s piece) (pieces_by step (fed_by step s piece).state pieces)

-- how many bytes are taken of an input: each while there is room for the longest text of a byte
unfoldable pub taken_by : {S : Type 0} → (S → ℕ → Step S) → ℕ → S → List ℕ → ℕ → ℕ
taken_by step longest s [] room = 0
taken_by step longest s (b ∷ bs) room = cond (ltb room longest) 0 (suc (taken_by step longest (step s b).state bs (room - length (step s b).text)))

-- A piece of input was fed: so many of its bytes were taken, the state is the one after them, and what it wrote stands at the start of
-- the output, the rest of which is as it was. That both counts lie within their lists follows, and is said for those who call.
pub record FeedsBy {S : Type 0} (step : S → ℕ → Step S) (longest : ℕ) (s : S) (input was is : List ℕ) (next : S) (read written : ℕ) : Type 0 where
  pub taken : read ≡ taken_by step longest s input (length was)
  pub state : next ≡ (fed_by step s (take read input)).state
  pub counted : written ≡ length (fed_by step s (take read input)).text
  pub bytes : is ≡ (fed_by step s (take read input)).text ++ drop written was
  pub within : read ≤ length input
  pub fits : written ≤ length is

-- What is written for any pieces, one after the other, and then for the end of the input, is what the whole of them is answered.
abbrev pub FedInPiecesBy : {S : Type 0} → (S → ℕ → Step S) → (S → List ℕ) → S → (List ℕ → List ℕ) → Type 0
FedInPiecesBy step finish fresh whole =
    (pieces : List (List ℕ))
    → (pieces_by step fresh pieces).text ++ finish (pieces_by step fresh pieces).state ≡ whole (joined pieces)

-- With room for the longest text some byte of an input is taken, and with room for all that is written and one text more, every byte.
abbrev pub TakesOnBy : {S : Type 0} → (S → ℕ → Step S) → ℕ → Type 0
TakesOnBy {S} step longest =
    (s : S) (input : List ℕ) (room : ℕ)
    → (longest ≤ room → 0 < length input → 0 < taken_by step longest s input room)
    × (length (fed_by step s input).text + longest ≤ room → taken_by step longest s input room ≡ length input)
