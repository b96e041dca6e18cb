-- A state that is fed byte by byte and answers line by line: of the line that is not at its end yet it keeps the first 32 bytes and a
-- count, 33 where the line is longer.
use Rattle.std.specs.Prelude.{cond, List, [], ◌∷◌, ◌++◌, ◌≡◌, ℕ, ◌+◌, ◌≤◌, ◌<◌, leb, length, take, set, Option, None}
use Rattle.text.specs.Lines.{line_feed}
use Rattle.text.specs.Feeding.{Step}

-- what a line asks for: nothing where it has more than 32 bytes
abbrev pub heard_by : {C : Type 0} → (List ℕ → Option C) → List ℕ → Option C
heard_by read line = cond (leb (length line) 32) (read line) None

-- what the bytes kept so far ask for, were the line at its end
abbrev pub kept_by : {C : Type 0} → (List ℕ → Option C) → List ℕ → ℕ → Option C
kept_by read kept count = cond (leb count 32) (read (take count kept)) None

-- What is asked of such a state, made of what answers, the bytes kept and their count: how lines are answered, and how it takes each byte
-- and the end of the input.
pub record Keeps
    {X C T : Type 0} (read : List ℕ → Option C) (answer : X → Option C → Step X) (answers : X → List (List ℕ) → List ℕ)
    (made : X → List ℕ → ℕ → T) (step : T → ℕ → Step T) (finish : T → List ℕ) : Type 0 where
  -- no line is answered nothing, and lines are answered one after the other
  pub no_line : (x : X) → answers x [] ≡ []
  pub next_line :
      (x : X) (line : List ℕ) (lines : List (List ℕ))
      → answers x (line ∷ lines) ≡ (answer x (heard_by read line)).text ++ answers (answer x (heard_by read line)).state lines
  -- a line feed: the line is answered, and the next one begins
  pub line_feed_lem :
      (x : X) (kept : List ℕ) (count : ℕ)
      → step (made x kept count) line_feed
      ≡ record { state = made (answer x (kept_by read kept count)).state kept 0; text = (answer x (kept_by read kept count)).text }
  -- any other byte: one of the first 32 is kept, and of a longer line only that it is longer
  pub early :
      (x : X) (kept : List ℕ) (count b : ℕ) → (b ≡ line_feed → ⊥) → count < 32
      → step (made x kept count) b ≡ record { state = made x (set kept count b) (count + 1); text = [] }
  pub late :
      (x : X) (kept : List ℕ) (count b : ℕ) → (b ≡ line_feed → ⊥) → 32 ≤ count
      → step (made x kept count) b ≡ record { state = made x kept 33; text = [] }
  -- the end of the input: a line that has a byte is answered as if it had its line feed
  pub no_byte : (x : X) (kept : List ℕ) → finish (made x kept 0) ≡ []
  pub last_line : (x : X) (kept : List ℕ) (count : ℕ) → 0 < count → finish (made x kept count) ≡ (answer x (kept_by read kept count)).text
