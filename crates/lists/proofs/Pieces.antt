-- Lists fed in any pieces are answered as the whole input. The reading keeps what is at hand of the line that is not at its end yet, and its
-- first seventeen declarations; so what is still to be written is what the lines are answered that begin with it.
use mathlib.Core.Path.{◌≡◌, refl, sym, ◌∙◌, ap}
use mathlib.Core.Bool.{Bool, true, false, cond, ◌&&◌, false≢true}
use mathlib.Core.List.{List, [], ◌∷◌, ◌++◌, append_assoc, append-nil}
use Rattle.std.proofs.Common.{None, Some, Err}
use Prim.Native.Nat.{ℕ, ◌+◌, ◌<◌, min}
use native.Mathlib.Decide.{dec_lt}
use native.Mathlib.Numerals.{add-one}
use native.Mathlib.Omega.{arith}
use borrow.Author.Tests.{lt-ltb, le-ltb, eqb-true, eqb-false}
use lib.Dec.{eqb}
use lib.ListN.{length, take, length-append, length-set}
use lib.Seq.{take_all, take-suc-set, take-append-le, length-take-le}
use Rattle.link.specs.declared.Declaration.{Declaration}
use Rattle.units.specs.declared.Refusal.TheVariants.{NoCommand}
use Rattle.link.specs.declared.Objection.TheVariants.{Refused}
use Rattle.link.specs.Verdicts.{admit_of}
use Rattle.text.specs.Reading.{blank}
use Rattle.text.specs.Lines.{line_feed}
use Rattle.text.specs.Input.{onto, lines_of, joined}
use Rattle.text.specs.Feeding.{Step, fed_by}
use Rattle.text.proofs.Input.{begun, begun_more, begun_ended}
use Rattle.text.proofs.Feeding.{as_one, takes_on_by}
use Rattle.lists.specs.declared.Reading.{Reading}
use Rattle.lists.specs.Reading.{whole_at, declared, Line, fresh_line, line_step, line_from, heard_as}
use Rattle.lists.specs.Printing.{longest, verdict_line}
use Rattle.lists.specs.Whole.{verdict_of, answer_of, answers_of}
use Rattle.lists.specs.Steps.{fresh_reading, put_of, keeping_of, kept_by, judged_by, step_of, finish_of}
use Rattle.lists.specs.Laws.{FedInPieces, TakesOn}
use Rattle.lists.proofs.Hands.{chosen, passed_over}
use Rattle.lists.proofs.Heard.{from_append}
use Rattle.lists.proofs.Texts.{takes_kept}
use Rattle.lists.proofs.Steps.{step_end, step_on}

-- the reading keeps the first seventeen of these declarations
record Keeps (count : ℕ) (items whole : List Declaration) : Type 0 where
  long : length items ≡ 17
  counted : count ≡ min (length whole) 17
  kept : take count items ≡ take 17 whole

-- one declaration more
put_keeps : (r : Reading) (whole : List Declaration) (d : Declaration) → Keeps r.count r.items whole → Keeps (put_of r d).count (put_of r d).items (whole ++ d ∷ [])
put_keeps r whole d k = go (dec_lt r.count 17)
  where
    n : length (whole ++ d ∷ []) ≡ length whole + 1
    n = length-append whole (d ∷ [])

    go : Dec (r.count < 17) → Keeps (put_of r d).count (put_of r d).items (whole ++ d ∷ [])
    go (yes l) =
        let c : r.count ≡ length whole = omega (arith, k.counted) in
        let t : take r.count r.items ≡ whole = k.kept ∙ take_all 17 whole (omega arith) in
        rw (lt-ltb r.count 17 l)
        (record {
          long = length-set r.items r.count d ∙ k.long;
          counted = omega (arith, n);
          kept = rw (add-one r.count, take-suc-set r.items r.count d (omega (arith, k.long)), t) (sym (take_all 17 (whole ++ d ∷ []) (omega (arith, n))));
        })
    go (no l) =
        rw (le-ltb r.count 17 (omega arith))
        (record {
          long = k.long;
          counted = omega (arith, k.counted, n);
          kept = k.kept ∙ sym (take-append-le 17 whole (d ∷ []) (omega (arith, k.counted)));
        })

-- a list longer than seventeen is judged as its first seventeen
admit_kept : (ds : List Declaration) → admit_of (take 17 ds) ≡ admit_of ds
admit_kept ds = go (dec_lt 17 (length ds))
  where
    go : Dec (17 < length ds) → admit_of (take 17 ds) ≡ admit_of ds
    go (yes l) = rw (lt-ltb 16 (length (take 17 ds)) (omega (arith, length-take-le 17 ds (omega arith))), lt-ltb 16 (length ds) (omega arith))
    go (no l) = rw (take_all 17 ds (omega arith))

keeps_admits : (r : Reading) (whole : List Declaration) → Keeps r.count r.items whole → admit_of (kept_by r) ≡ admit_of whole
keeps_admits r whole k =
    let m : min r.count 17 ≡ r.count = omega (arith, k.counted) in
    ap (λ (n : ℕ). admit_of (take n r.items)) m ∙ ap admit_of k.kept ∙ admit_kept whole

-- at the end of the line
judged_same : (r : Reading) (whole : List Declaration) → Keeps r.count r.items whole → (r.hand.some ≡ false → whole ≡ [])
    → judged_by r ≡ verdict_of (heard_as (record { whole = whole; hand = r.hand }))
judged_same r whole k z = go r.hand.some refl (whole_at r.hand)
  where
    d : Declaration
    d = declared r.hand

    go : (t : Bool) → r.hand.some ≡ t → (u : Bool)
        → cond t (cond u (admit_of (kept_by (cond u (put_of r d) r))) (Err (Refused NoCommand))) (admit_of []) ≡ verdict_of (cond t (cond u (Some (whole ++ d ∷ [])) None) (Some whole))
    go true p true = keeps_admits (put_of r d) (whole ++ d ∷ []) (put_keeps r whole d k)
    go true p false = refl
    go false p u = ap admit_of (sym (z p))

-- one byte more of the line
keeps_step : (r : Reading) (whole : List Declaration) (b : ℕ) → Keeps r.count r.items whole
    → Keeps (keeping_of r b).count (keeping_of r b).items (line_step (record { whole = whole; hand = r.hand }) b).whole
keeps_step r whole b k = go (eqb b blank) (whole_at r.hand)
  where
    d : Declaration
    d = declared r.hand

    go : (t u : Bool) → let kept = cond t (cond u (put_of r d) r) r in Keeps kept.count kept.items (cond (u && t) (whole ++ d ∷ []) whole)
    go true true = put_keeps r whole d k
    go true false = k
    go false true = k
    go false false = k

-- the reading keeps this line
record Holds (r : Reading) (line : List ℕ) : Type 0 where
  whole : List Declaration
  keeps : Keeps r.count r.items whole
  read : line_from fresh_line line ≡ record { whole = whole; hand = r.hand }

fresh_holds : Holds fresh_reading []
unfolding line_from
fresh_holds = record { whole = []; keeps = record { long = refl; counted = refl; kept = refl }; read = refl }

holds_more : (r : Reading) (line : List ℕ) (b : ℕ) → Holds r line → Holds (keeping_of r b) (line ++ b ∷ [])
unfolding line_from
holds_more r line b h =
    record {
      whole = (line_step (record { whole = h.whole; hand = r.hand }) b).whole;
      keeps = keeps_step r h.whole b h.keeps;
      read = from_append fresh_line line (b ∷ []) ∙ ap (λ (l : Line). line_step l b) h.read;
    }

-- a line has a byte exactly where some was read
some_from : (line : Line) (b : ℕ) (bs : List ℕ) → (line_from line (b ∷ bs)).hand.some ≡ true
unfolding line_from
some_from line b [] = (takes_kept line.hand b).0
some_from line b (c ∷ bs) = some_from (line_step line b) c bs

none_empty : (r : Reading) (line : List ℕ) (h : Holds r line) → r.hand.some ≡ false → h.whole ≡ []
unfolding line_from
none_empty r [] h e = sym (ap (λ (l : Line). l.whole) h.read)
none_empty r (b ∷ line) h e = absurd (false≢true (sym e ∙ sym (ap (λ (l : Line). l.hand.some) h.read) ∙ some_from fresh_line b line))

answer_same : (r : Reading) (line : List ℕ) → Holds r line → verdict_line (judged_by r) ≡ answer_of line
answer_same r line h =
    ap verdict_line (judged_same r h.whole h.keeps (none_empty r line h)) ∙ ap (λ (l : Line). verdict_line (verdict_of (heard_as l))) (sym h.read)

-- at the end of the input
finish_same : (r : Reading) (line : List ℕ) → Holds r line → finish_of r ≡ answers_of (begun line [])
unfolding answers_of begun line_from
finish_same r [] h = passed_over r.hand.some _ _ (sym (ap (λ (l : Line). l.hand.some) h.read))
finish_same r (b ∷ line) h =
    chosen r.hand.some _ _ (sym (ap (λ (l : Line). l.hand.some) h.read) ∙ some_from fresh_line b line)
    ∙ answer_same r (b ∷ line) h
    ∙ sym (append-nil (answer_of (b ∷ line)))

-- what the reading still writes for an input
abbrev written : Reading → List ℕ → List ℕ
written r input = (fed_by step_of r input).text ++ finish_of (fed_by step_of r input).state

written_next : (r : Reading) (b : ℕ) (input : List ℕ) (t : Step Reading) → step_of r b ≡ t → written r (b ∷ input) ≡ t.text ++ written t.state input
unfolding fed_by
written_next r b input t e = rw (e, append_assoc t.text (fed_by step_of t.state input).text (finish_of (fed_by step_of t.state input).state))

-- a line at its end is answered, and the next one begins; any other byte makes the line longer
line_ended : (r : Reading) (line : List ℕ) (b : ℕ) (input : List ℕ) → Holds r line → b ≡ line_feed
    → written fresh_reading input ≡ answers_of (begun [] (lines_of input)) → written r (b ∷ input) ≡ answers_of (begun line ([] ∷ lines_of input))
unfolding answers_of begun
line_ended r line b input h e w =
    written_next r b input _ (step_end r b e refl refl)
    ∙ ap (λ (text : List ℕ). verdict_line (judged_by r) ++ text) w
    ∙ ap (λ (text : List ℕ). text ++ answers_of (lines_of input)) (answer_same r line h)
    ∙ ap answers_of (sym (begun_ended line (lines_of input)))

line_goes : (r : Reading) (line : List ℕ) (b : ℕ) (input : List ℕ) → (b ≡ line_feed → ⊥)
    → written (keeping_of r b) input ≡ answers_of (begun (line ++ b ∷ []) (lines_of input)) → written r (b ∷ input) ≡ answers_of (begun line (onto b (lines_of input)))
line_goes r line b input e w = written_next r b input _ (step_on r b e refl) ∙ w ∙ ap answers_of (sym (begun_more line b (lines_of input)))

as_lines : (input : List ℕ) (r : Reading) (line : List ℕ) → Holds r line → written r input ≡ answers_of (begun line (lines_of input))
unfolding fed_by lines_of
as_lines [] r line h = finish_same r line h
as_lines (b ∷ input) r line h = go (eqb b line_feed) refl (as_lines input)
  where
    go : (t : Bool) → eqb b line_feed ≡ t → ((r : Reading) (line : List ℕ) → Holds r line → written r input ≡ answers_of (begun line (lines_of input)))
        → written r (b ∷ input) ≡ answers_of (begun line (cond t ([] ∷ lines_of input) (onto b (lines_of input))))
    go true e w = line_ended r line b input h (eqb-true b line_feed e) (w fresh_reading [] fresh_holds)
    go false e w = line_goes r line b input (eqb-false b line_feed e) (w (keeping_of r b) (line ++ b ∷ []) (holds_more r line b h))

pub fed_in_pieces : FedInPieces
unfolding begun
fed_in_pieces pieces = rw (as_one step_of fresh_reading pieces) (as_lines (joined pieces) fresh_reading [] fresh_holds)

pub takes_on : TakesOn
takes_on = takes_on_by step_of longest
