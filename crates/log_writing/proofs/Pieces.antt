-- Bytes put into the room, piece after piece. Of each loop the invariant is that putting what is left, from the place reached on, into the
-- room as it is now gives what putting all would have given.
use mathlib.Core.Path.{◌≡◌, refl, sym, ◌∙◌, ap}
use mathlib.Core.List.{List, [], ◌∷◌, ◌++◌, map, append_assoc}
use Prim.Native.Nat.{ℕ, zero, suc, ◌+◌, ◌*◌, ◌-◌, ◌/◌, ◌%◌, ◌≤◌, ◌<◌}
use native.Mathlib.Numerals.{add-one}
use native.Mathlib.Omega.{arith}
use lib.ListN.{length, take, drop, get_or, set, length-append, length-map, drop_of_length-le}
use lib.Seq.{paste-zero, take_all, length-take-le, take_at, drop_at, drop-drop, drop-cons, sets-eq}
use Rattle.log_format.specs.declared.Form.{Form}
use Rattle.log_format.specs.Format.{first_byte, four_bytes, table_bytes, opening_bytes, event_bytes, bytes_of}
use Rattle.log_format.specs.Words.{opening_of, event_of, lent_log}
use Rattle.log_format.proofs.There.{openings_long, events_long}
use Rattle.std.specs.Int.{w32, to_le_bytes}
use Rattle.std.proofs.lemmas.Slice.{put_mid-paste}
use borrow.Rule.Slice.PartMut.{put_mid}
use Rattle.log_writing.specs.Placing.{low_bytes, word_bytes, put_at}

-- ---- a piece, and what comes after it
pub put_nothing : (room : List ℕ) (at : ℕ) → room ≡ put_at at [] room
put_nothing room at = paste-zero room at []

pub put_both : (room : List ℕ) (at : ℕ) (xs : List ℕ) (place : ℕ) (ys : List ℕ) → at ≤ length room → place ≡ at + length xs
    → put_at place ys (put_at at xs room) ≡ put_at at (xs ++ ys) room
put_both room at xs place ys l q =
    let front : List ℕ = take at room ++ xs in
    let rest : List ℕ = drop (at + length xs) room in
    let n : length front ≡ place = length-append (take at room) xs ∙ omega (arith, length-take-le at room l) in
    let t : take place (front ++ rest) ≡ front = take_at front rest place n in
    let s : at + length xs + length ys ≡ at + length (xs ++ ys) = omega (arith, length-append xs ys) in
    let d : drop (place + length ys) (front ++ rest) ≡ drop (at + length (xs ++ ys)) room =
    sym (drop-drop (length ys) place (front ++ rest)) ∙ ap (drop (length ys)) (drop_at front rest place n) ∙ drop-drop (length ys) (at + length xs) room ∙ ap (λ (k : ℕ). drop k room) s in
    rw (t, d) (ap (λ (x : List ℕ). x ++ drop (at + length (xs ++ ys)) room) (append_assoc (take at room) xs ys))

put_then : (was mid is : List ℕ) (at : ℕ) (xs : List ℕ) (place : ℕ) (ys : List ℕ) → at ≤ length was → place ≡ at + length xs
    → mid ≡ put_at at xs was → is ≡ put_at place ys mid → is ≡ put_at at (xs ++ ys) was
put_then was mid is at xs place ys l q e f = f ∙ ap (put_at place ys) e ∙ put_both was at xs place ys l q

-- ---- the lowest bytes of a number
low_size : (k n : ℕ) → length (low_bytes k n) ≡ k
unfolding low_bytes
low_size zero n = refl
low_size (suc k) n = ap suc (low_size k (n / 256))

low_is : (k n : ℕ) → k ≤ 4 → take k (to_le_bytes w32 n) ≡ low_bytes k n
unfolding low_bytes
low_is zero n l = refl
low_is (suc zero) n l = refl
low_is (suc (suc zero)) n l = refl
low_is (suc (suc (suc zero))) n l = let c : n / 65536 ≡ n / 256 / 256 = omega arith in ap (λ (x : ℕ). n % 256 ∷ n / 256 % 256 ∷ x % 256 ∷ []) c
low_is (suc (suc (suc (suc zero)))) n l =
    let c : n / 65536 ≡ n / 256 / 256 = omega arith in
    let d : n / 16777216 ≡ n / 256 / 256 / 256 = omega arith in
    ap (λ (x : ℕ). n % 256 ∷ n / 256 % 256 ∷ x % 256 ∷ n / 16777216 % 256 ∷ []) c
    ∙ ap (λ (x : ℕ). n % 256 ∷ n / 256 % 256 ∷ n / 256 / 256 % 256 ∷ x % 256 ∷ []) d
low_is (suc (suc (suc (suc (suc k))))) n l = absurd (omega arith)

pub put_low : (room put : List ℕ) (at k n : ℕ) → k ≤ 4 → put ≡ take k (to_le_bytes w32 n)
    → put_mid at (at + k - at) room put ≡ put_at at (low_bytes k n) room
put_low room put at k n l e =
    let low = low_bytes k n in
    put_mid-paste at (at + k - at) room put low (length low) (e ∙ low_is k n l) (omega (arith, low_size k n)) refl
    ∙ ap (λ (x : List ℕ). take at room ++ x ++ drop (at + length low) room) (take_all (length low) low (omega arith))

-- ---- numbers one after the other
words_next : (k : ℕ) (ws : List ℕ) (i : ℕ) → i < length ws → word_bytes k (drop i ws) ≡ low_bytes k (get_or ws i 0) ++ word_bytes k (drop (i + 1) ws)
unfolding word_bytes
words_next k ws i l = rw (drop-cons ws i 0 l, add-one i)

pub words_room : (k : ℕ) (ws : List ℕ) (i : ℕ) → i < length ws → length (word_bytes k (drop i ws)) ≡ k + length (word_bytes k (drop (i + 1) ws))
words_room k ws i l =
    ap length (words_next k ws i l) ∙ length-append (low_bytes k (get_or ws i 0)) (word_bytes k (drop (i + 1) ws))
    ∙ ap (λ (n : ℕ). n + length (word_bytes k (drop (i + 1) ws))) (low_size k (get_or ws i 0))

pub words_go : (room is all : List ℕ) (p k : ℕ) (ws : List ℕ) (i : ℕ) → i < length ws → p ≤ length room
    → put_at p (word_bytes k (drop i ws)) room ≡ all → is ≡ put_at p (low_bytes k (get_or ws i 0)) room → put_at (p + k) (word_bytes k (drop (i + 1) ws)) is ≡ all
words_go room is all p k ws i h l e f =
    ap (put_at (p + k) (word_bytes k (drop (i + 1) ws))) f
    ∙ put_both room p (low_bytes k (get_or ws i 0)) (p + k) (word_bytes k (drop (i + 1) ws)) l (ap (λ (n : ℕ). p + n) (sym (low_size k (get_or ws i 0))))
    ∙ ap (λ (x : List ℕ). put_at p x room) (sym (words_next k ws i h))
    ∙ e

pub words_end : (room all : List ℕ) (p k : ℕ) (ws : List ℕ) (i : ℕ) → length ws ≤ i → put_at p (word_bytes k (drop i ws)) room ≡ all → room ≡ all
unfolding word_bytes
words_end room all p k ws i l e =
    put_nothing room p ∙ ap (λ (x : List ℕ). put_at p (word_bytes k x) room) (sym (drop_of_length-le ws l)) ∙ e

-- ---- the bodies' bytes are those of their numbers
openings_are : (ws : List ℕ) → opening_bytes (map opening_of ws) ≡ word_bytes 3 ws
unfolding opening_bytes word_bytes low_bytes
openings_are [] = refl
openings_are (w ∷ ws) = ap (λ (t : List ℕ). w % 256 ∷ w / 256 % 256 ∷ w / 256 / 256 % 256 ∷ t) (openings_are ws)

events_are : (ws : List ℕ) → event_bytes (map event_of ws) ≡ word_bytes 4 ws
unfolding event_bytes word_bytes low_bytes
events_are [] = refl
events_are (w ∷ ws) =
    let e : w / 65536 ≡ w / 256 / 256 = omega arith in
    rw e (ap (λ (t : List ℕ). w % 256 ∷ w / 256 % 256 ∷ w / 256 / 256 % 256 ∷ w / 256 / 256 / 256 % 256 ∷ t) (events_are ws))

pub openings_size : (ws : List ℕ) → length (word_bytes 3 ws) ≡ 3 * length ws
openings_size ws = ap length (sym (openings_are ws)) ∙ openings_long (map opening_of ws) ∙ ap (λ (k : ℕ). 3 * k) (length-map ws opening_of)

pub events_size : (ws : List ℕ) → length (word_bytes 4 ws) ≡ 4 * length ws
events_size ws = ap length (sym (events_are ws)) ∙ events_long (map event_of ws) ∙ ap (λ (k : ℕ). 4 * k) (length-map ws event_of)

-- ---- the first byte and the table
abbrev table : ℕ → ℕ → ℕ → List ℕ
table u f e = 25 ∷ u ∷ (25 + u) ∷ f ∷ (25 + u + f) ∷ e ∷ []

field : {xs ys : List ℕ} (n : ℕ) → xs ≡ ys → four_bytes n ++ xs ≡ low_bytes 4 n ++ ys
unfolding low_bytes
field n e =
    let a : n / 65536 ≡ n / 256 / 256 = omega arith in
    let b : n / 16777216 ≡ n / 256 / 256 / 256 = omega arith in
    rw (a, b) (ap (λ (t : List ℕ). n % 256 ∷ n / 256 % 256 ∷ n / 256 / 256 % 256 ∷ n / 256 / 256 / 256 % 256 ∷ t) e)

table_is : (u f e : ℕ) → table_bytes u f e ≡ word_bytes 4 (table u f e)
unfolding word_bytes
table_is u f e = field 25 (field u (field (25 + u) (field f (field (25 + u + f) (field e refl)))))

pub table_size : (u f e : ℕ) → length (word_bytes 4 (table u f e)) ≡ 24
table_size u f e = events_size (table u f e)

pub start_put : (form : Form) (was is : List ℕ) (first u f e : ℕ) → 25 ≤ length was → first ≡ first_byte form
    → is ≡ put_at 1 (word_bytes 4 (table u f e)) (set was 0 first) → is ≡ put_at 0 (first_byte form ∷ table_bytes u f e) was
start_put form was is first u f e l o p =
    put_then was (set was 0 first) is 0 (first ∷ []) 1 (word_bytes 4 (table u f e)) (omega arith) refl (sets-eq (first ∷ []) was 0 (omega arith)) p
    ∙ ap (λ (x : ℕ). put_at 0 (x ∷ word_bytes 4 (table u f e)) was) o
    ∙ ap (λ (t : List ℕ). put_at 0 (first_byte form ∷ t) was) (sym (table_is u f e))

-- ---- the whole log, body by body
module _ (form : Form) (us fs es : List ℕ) where
  abbrev u : ℕ
  u = 3 * length us

  abbrev f : ℕ
  f = 3 * length fs

  abbrev e : ℕ
  e = 4 * length es

  pub log_put : (was a b c is : List ℕ) → 25 + u + f ≤ length was → length a ≡ length was → length b ≡ length was
      → a ≡ put_at 0 (first_byte form ∷ table_bytes u f e) was → b ≡ put_at 25 (word_bytes 3 us) a → c ≡ put_at (25 + u) (word_bytes 3 fs) b
      → is ≡ put_at (25 + u + f) (word_bytes 4 es) c → is ≡ put_at 0 (bytes_of (lent_log form us fs es)) was
  log_put was a b c is l m n p q r s =
      rw (length-map us opening_of, length-map fs opening_of, length-map es event_of, openings_are us, openings_are fs, events_are es)
      (put_then was a is 0 (first_byte form ∷ table_bytes u f e) 25 (word_bytes 3 us ++ (word_bytes 3 fs ++ word_bytes 4 es)) (omega arith) refl p
      (put_then a b is 25 (word_bytes 3 us) (25 + u) (word_bytes 3 fs ++ word_bytes 4 es) (omega arith) (omega (arith, openings_size us)) q
      (put_then b c is (25 + u) (word_bytes 3 fs) (25 + u + f) (word_bytes 4 es) (omega arith) (omega (arith, openings_size fs)) r s)))
