-- A state that keeps the line that is not at its end yet answers its whole input, however that is cut. What is still to be written is what
-- the lines are answered that begin with the line kept.
use Rattle.std.specs.Prelude.{Option}
use mathlib.Core.Path.{◌≡◌, refl, sym, ◌∙◌, ap}
use mathlib.Core.Bool.{Bool, true, false, cond}
use mathlib.Core.List.{List, [], ◌∷◌, ◌++◌, append_assoc, append-nil}
use Prim.Native.Nat.{ℕ, ◌+◌, ◌≤◌, ◌<◌, min}
use native.Mathlib.Decide.{dec_lt}
use native.Mathlib.Numerals.{add-one}
use native.Mathlib.Omega.{arith}
use borrow.Author.Tests.{le-leb, lt-leb, eqb-true, eqb-false}
use lib.Dec.{eqb}
use lib.ListN.{length, take, set, length-append, length-set}
use lib.Seq.{take-suc-set}
use Rattle.text.specs.Lines.{line_feed}
use Rattle.text.specs.Input.{onto, lines_of, joined}
use Rattle.text.specs.Feeding.{Step, fed_by, FedInPiecesBy}
use Rattle.text.specs.Keeping.{heard_by, kept_by, Keeps}
use Rattle.text.proofs.Input.{begun, begun_more, begun_ended}
use Rattle.text.proofs.Feeding.{as_one}

-- these bytes and their count keep this line
record Holds (kept : List ℕ) (count : ℕ) (line : List ℕ) : Type 0 where
  long : length kept ≡ 32
  counted : count ≡ min (length line) 33
  same : length line ≤ 32 → take count kept ≡ line

holds_none : (kept : List ℕ) → length kept ≡ 32 → Holds kept 0 []
holds_none kept l = record { long = l; counted = refl; same = λ q. refl }

module _ {kept : List ℕ} {count : ℕ} (line : List ℕ) (h : Holds kept count line) where
  -- they ask what the line asks
  heard_same : {C : Type 0} (read : List ℕ → Option C) → kept_by read kept count ≡ heard_by read line
  heard_same read = go (dec_lt 32 (length line))
    where
      go : Dec (32 < length line) → kept_by read kept count ≡ heard_by read line
      go (yes l) = rw (lt-leb count 32 (omega (arith, h.counted)), lt-leb (length line) 32 l)
      go (no l) = rw (le-leb count 32 (omega (arith, h.counted)), le-leb (length line) 32 (omega arith), h.same (omega arith))

  -- one byte more of the line
  module _ (b : ℕ) where
    grown : length (line ++ b ∷ []) ≡ length line + 1
    grown = length-append line (b ∷ [])

    holds_early : count < 32 → Holds (set kept count b) (count + 1) (line ++ b ∷ [])
    holds_early l =
        record {
          long = length-set kept count b ∙ h.long;
          counted = omega (arith, h.counted, grown);
          same = λ q. rw (add-one count, take-suc-set kept count b (omega (arith, h.long)), h.same (omega (arith, h.counted)));
        }

    holds_late : 32 ≤ count → Holds kept 33 (line ++ b ∷ [])
    holds_late l = record { long = h.long; counted = omega (arith, h.counted, grown); same = λ q. absurd (omega (arith, h.counted, grown)) }

module _
    {X C T : Type 0} {read : List ℕ → Option C} {answer : X → Option C → Step X} {answers : X → List (List ℕ) → List ℕ}
    {made : X → List ℕ → ℕ → T} {step : T → ℕ → Step T} {finish : T → List ℕ} (k : Keeps read answer answers made step finish) where
  -- what a state still writes for an input
  abbrev written : T → List ℕ → List ℕ
  written s input = (fed_by step s input).text ++ finish (fed_by step s input).state

  written_next : (s : T) (b : ℕ) (input : List ℕ) (t : Step T) → step s b ≡ t → written s (b ∷ input) ≡ t.text ++ written t.state input
  unfolding fed_by
  written_next s b input t e = rw (e, append_assoc t.text (fed_by step t.state input).text (finish (fed_by step t.state input).state))

  -- that it is what the lines are answered that begin with the line kept
  abbrev Goes : List ℕ → Type 0
  Goes input = (x : X) (kept : List ℕ) (count : ℕ) (line : List ℕ) → Holds kept count line → written (made x kept count) input ≡ answers x (begun line (lines_of input))

  -- at the end of the input
  at_end : (x : X) (kept : List ℕ) (count : ℕ) (line : List ℕ) → Holds kept count line → finish (made x kept count) ≡ answers x (begun line [])
  unfolding begun
  at_end x kept count [] h = let z : count ≡ 0 = h.counted in rw (z, k.no_byte x kept, k.no_line x)
  at_end x kept count (c ∷ line) h =
      k.last_line x kept count (omega (arith, h.counted))
      ∙ rw (heard_same (c ∷ line) h read, k.next_line x (c ∷ line) [], k.no_line (answer x (heard_by read (c ∷ line))).state, append-nil (answer x (heard_by read (c ∷ line))).text)

  module _ (input : List ℕ) (r : Goes input) (x : X) (kept : List ℕ) (count : ℕ) (line : List ℕ) (h : Holds kept count line) where
    -- a line at its end is answered, and the next one begins
    line_ended : written (made x kept count) (line_feed ∷ input) ≡ answers x (begun line ([] ∷ lines_of input))
    unfolding begun
    line_ended =
        let a = answer x (kept_by read kept count) in
        written_next (made x kept count) line_feed input _ (k.line_feed_lem x kept count)
        ∙ ap (λ (text : List ℕ). a.text ++ text) (r a.state kept 0 [] (holds_none kept h.long))
        ∙ rw (heard_same line h read, begun_ended line (lines_of input), k.next_line x line (lines_of input))

    -- any other byte makes the line longer
    line_goes : (b : ℕ) → (b ≡ line_feed → ⊥) → written (made x kept count) (b ∷ input) ≡ answers x (begun line (onto b (lines_of input)))
    line_goes b e = go (dec_lt count 32) ∙ ap (answers x) (sym (begun_more line b (lines_of input)))
      where
        go : Dec (count < 32) → written (made x kept count) (b ∷ input) ≡ answers x (begun (line ++ b ∷ []) (lines_of input))
        go (yes l) = written_next (made x kept count) b input _ (k.early x kept count b e l) ∙ r x _ _ (line ++ b ∷ []) (holds_early line h b l)
        go (no l) = written_next (made x kept count) b input _ (k.late x kept count b e (omega arith)) ∙ r x _ _ (line ++ b ∷ []) (holds_late line h b (omega arith))

  as_lines : (input : List ℕ) → Goes input
  unfolding fed_by lines_of
  as_lines [] x kept count line h = at_end x kept count line h
  as_lines (b ∷ input) x kept count line h = go (eqb b line_feed) refl (as_lines input)
    where
      go : (t : Bool) → eqb b line_feed ≡ t → Goes input → written (made x kept count) (b ∷ input) ≡ answers x (begun line (cond t ([] ∷ lines_of input) (onto b (lines_of input))))
      go true e r = rw (eqb-true b line_feed e) (line_ended input r x kept count line h)
      go false e r = line_goes input r x kept count line h b (eqb-false b line_feed e)

  -- fed in any pieces from no line on, a state writes what the whole input is answered
  pub kept_in_pieces : (x : X) (kept : List ℕ) → length kept ≡ 32 → FedInPiecesBy step finish (made x kept 0) (λ (bytes : List ℕ). answers x (lines_of bytes))
  unfolding begun
  kept_in_pieces x kept l pieces = rw (as_one step (made x kept 0) pieces) (as_lines (joined pieces) x kept 0 [] (holds_none kept l))
