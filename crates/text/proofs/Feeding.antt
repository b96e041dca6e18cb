-- Feeding byte by byte: where the state stands after some bytes of an input, the next byte, the end, and pieces.
use mathlib.Core.Path.{◌≡◌, refl, sym, ◌∙◌, ap}
use mathlib.Core.List.{List, [], ◌∷◌, ◌++◌, append_assoc, append-nil}
use Prim.Native.Nat.{ℕ, suc, ◌+◌, ◌-◌, ◌≤◌, ◌<◌}
use native.Mathlib.Numerals.{add-one}
use native.Mathlib.Omega.{arith}
use borrow.Author.Tests.{lt-ltb, le-ltb}
use lib.ListN.{length, take, drop, get_or, length-append, drop_of_length-le}
use lib.Seq.{take-suc, drop-cons, take_at, drop_at, drop-drop}
use Rattle.text.specs.Input.{joined}
use Rattle.text.specs.Lines.{Put, Printed}
use Rattle.text.specs.Feeding.{Step, after, fed_by, pieces_by, taken_by, FeedsBy, TakesOnBy}
use Rattle.text.proofs.Placing.{put_fits}

-- nothing is printed
pub printed_nothing : (out : List ℕ) → Printed [] out out 0
printed_nothing out = record { bytes = refl; counted = refl; long = refl; fits = omega arith }

module _ {S : Type 0} (step : S → ℕ → Step S) where
  -- bytes fed one part after the other
  pub fed_append : (s : S) (a b : List ℕ) → fed_by step s (a ++ b) ≡ after (fed_by step s a) (fed_by step (fed_by step s a).state b)
  unfolding fed_by
  fed_append s [] b = refl
  fed_append s (x ∷ a) b = rw (fed_append (step s x).state a b, append_assoc (step s x).text (fed_by step (step s x).state a).text (fed_by step (fed_by step (step s x).state a).state b).text)

  pub fed_one : (s : S) (b : ℕ) → fed_by step s (b ∷ []) ≡ step s b
  unfolding fed_by
  fed_one s b = rw (append-nil (step s b).text)

  -- pieces one after the other are the input that they make together
  pub as_one : (s : S) (pieces : List (List ℕ)) → pieces_by step s pieces ≡ fed_by step s (joined pieces)
  unfolding pieces_by joined fed_by
  as_one s [] = refl
  as_one s (piece ∷ pieces) = rw (as_one (fed_by step s piece).state pieces) (sym (fed_append s piece (joined pieces)))

  module _ (longest : ℕ) where
    taken_next : (s : S) (input : List ℕ) (i room : ℕ) → i < length input → longest ≤ room
        → taken_by step longest s (drop i input) room ≡ suc (taken_by step longest (step s (get_or input i 0)).state (drop (i + 1) input) (room - length (step s (get_or input i 0)).text))
    unfolding taken_by
    taken_next s input i room l h = rw (drop-cons input i 0 l, le-ltb room longest h, add-one i)

    taken_end : (s : S) (input : List ℕ) (i room : ℕ) → length input ≤ i → taken_by step longest s (drop i input) room ≡ 0
    unfolding taken_by
    taken_end s input i room l = rw (drop_of_length-le input {i = i} l)

    taken_full : (s : S) (input : List ℕ) (room : ℕ) → room < longest → taken_by step longest s input room ≡ 0
    unfolding taken_by
    taken_full s [] room l = refl
    taken_full s (b ∷ bs) room l = rw (lt-ltb room longest l)

    -- with room for the longest text some byte is taken, and with room for all and one more every byte
    takes_some : (s : S) (input : List ℕ) (room : ℕ) → longest ≤ room → 0 < length input → 0 < taken_by step longest s input room
    unfolding taken_by
    takes_some s [] room l h = absurd (omega arith)
    takes_some s (b ∷ input) room l h = rw (le-ltb room longest l) (omega arith)

    takes_all : (s : S) (input : List ℕ) (room : ℕ) → length (fed_by step s input).text + longest ≤ room → taken_by step longest s input room ≡ length input
    unfolding taken_by fed_by
    takes_all s [] room l = refl
    takes_all s (b ∷ input) room l =
        let n = length-append (step s b).text (fed_by step (step s b).state input).text in
        rw (le-ltb room longest (omega arith)) (ap suc (takes_all (step s b).state input (room - length (step s b).text) (omega arith)))

    pub takes_on_by : TakesOnBy step longest
    takes_on_by s input room = (takes_some s input room, takes_all s input room)

    -- after i bytes of an input the state is now, and w bytes are written
    pub record Going (s : S) (input was is : List ℕ) (now : S) (i w : ℕ) : Type 0 where
      pub left : taken_by step longest s input (length was) ≡ i + taken_by step longest now (drop i input) (length was - w)
      pub state : (fed_by step s (take i input)).state ≡ now
      pub written : w ≡ length (fed_by step s (take i input)).text
      pub bytes : is ≡ (fed_by step s (take i input)).text ++ drop w was
      pub long : length is ≡ length was
      pub fits : w ≤ length was

    pub going_starts : (s : S) (input was : List ℕ) → Going s input was was s 0 0
    unfolding fed_by
    going_starts s input was =
        let z : length was - 0 ≡ length was = omega arith in
        record { left = rw z (omega arith); state = refl; written = refl; bytes = refl; long = refl; fits = omega arith }

    pub going_on : {s : S} {input was is : List ℕ} {now : S} {i w : ℕ} → Going s input was is now i w → i < length input → longest ≤ length was - w
        → (t : Step S) → step now (get_or input i 0) ≡ t → {is' : List ℕ} {w' : ℕ} → Put t.text is w is' w' → Going s input was is' t.state (i + 1) w'
    going_on {s} {input} {was} {is} {now} {i} {w} g l h t e {is'} {w'} p =
        let before = fed_by step s (take i input) in
        let b = get_or input i 0 in
        let f : fed_by step s (take (i + 1) input) ≡ after before t =
        ap (fed_by step s) (rw add-one (take-suc input i 0 l)) ∙ fed_append s (take i input) (b ∷ []) ∙ ap (λ (n : S). after before (fed_by step n (b ∷ []))) g.state ∙ ap (after before) (fed_one now b ∙ e) in
        let n : length (before.text ++ t.text) ≡ w' = length-append before.text t.text ∙ omega (arith, g.written, p.counted) in
        let m : length was - w - length t.text ≡ length was - w' = omega (arith, p.counted) in
        let k : taken_by step longest now (drop i input) (length was - w) ≡ suc (taken_by step longest t.state (drop (i + 1) input) (length was - w')) =
        taken_next now input i (length was - w) l h ∙ rw (e, m) in
        let x : take w is ≡ before.text = rw g.bytes (take_at before.text (drop w was) w (sym g.written)) in
        let y : drop w is ≡ drop w was = rw g.bytes (drop_at before.text (drop w was) w (sym g.written)) in
        let z : drop (w + length t.text) is ≡ drop w' was = sym (drop-drop (length t.text) w is) ∙ ap (drop (length t.text)) y ∙ drop-drop (length t.text) w was ∙ ap (λ (j : ℕ). drop j was) (sym p.counted) in
        record {
          left = g.left ∙ omega (arith, k);
          state = ap (λ (u : Step S). u.state) f;
          written = sym (ap (λ (u : Step S). length u.text) f ∙ n);
          bytes = p.bytes ∙ rw (f, x, z, append_assoc before.text t.text (drop w' was));
          long = p.long ∙ g.long;
          fits = omega (arith, put_fits p (omega (arith, g.long, g.fits)), g.long);
        }

    -- nothing more is taken: the input is at its end, or there is no room
    going_ends : {s : S} {input was is : List ℕ} {now : S} {i w : ℕ} → Going s input was is now i w → i ≤ length input → taken_by step longest now (drop i input) (length was - w) ≡ 0
        → FeedsBy step longest s input was is now i w
    going_ends g l z =
        record {
          taken = omega (arith, g.left);
          state = sym g.state;
          counted = g.written;
          bytes = g.bytes;
          within = l;
          fits = omega (arith, g.long, g.fits);
        }

    pub at_end : {s : S} {input was is : List ℕ} {now : S} {i w : ℕ} → Going s input was is now i w → i ≤ length input → length input ≤ i → FeedsBy step longest s input was is now i w
    at_end {s} {input} {was} {is} {now} {i} {w} g l h = going_ends g l (taken_end now input i (length was - w) h)

    pub at_full : {s : S} {input was is : List ℕ} {now : S} {i w : ℕ} → Going s input was is now i w → i ≤ length input → length was - w < longest → FeedsBy step longest s input was is now i w
    at_full {s} {input} {was} {is} {now} {i} {w} g l h = going_ends g l (taken_full now (drop i input) (length was - w) h)

    -- with room for the longest text, feeding takes some byte of an input that has one; and what is written for one byte is printed whole
    pub feed_takes : {s : S} {input was is : List ℕ} {next : S} {read written : ℕ} → FeedsBy step longest s input was is next read written → longest ≤ length was → 0 < length input → 0 < read
    feed_takes {s} {input} {was} f l h = omega (arith, f.taken, takes_some s input (length was) l h)

    pub fed_printed : {s : S} {b : ℕ} {text was is : List ℕ} {next : S} {read written : ℕ} → FeedsBy step longest s (b ∷ []) was is next read written
        → (step s b).text ≡ text → longest ≤ length was → length is ≡ length was → Printed text was is written
    unfolding taken_by
    fed_printed {s} {b} {text} {was} {is} {next} {read} {written} f e l n =
        let one : read ≡ 1 = f.taken ∙ rw (le-ltb (length was) longest l) in
        let t : (fed_by step s (take read (b ∷ []))).text ≡ text = rw (one, fed_one s b) e in
        let m : written ≡ length text = f.counted ∙ ap length t in
        record { bytes = f.bytes ∙ rw (t, m); counted = m; long = n; fits = f.fits }
