-- Text put into bytes at a place: each step of a copy, a number, and piece after piece.
use mathlib.Core.Path.{◌≡◌, refl, sym, ◌∙◌, ap}
use mathlib.Core.List.{List, [], ◌∷◌, ◌++◌, map, append_assoc, append-nil}
use Prim.Native.Nat.{ℕ, ◌+◌, ◌≤◌, ◌<◌}
use native.Mathlib.Numerals.{add-one}
use native.Mathlib.Omega.{arith}
use lib.ListN.{length, take, drop, get_or, set, length-append, length-set, length-take, length-drop, take-append-drop}
use lib.Seq.{paste, paste-suc, length-paste, length-take-le, take_all, take-suc, take_at, drop_at, drop-drop, take-suc-set, drop-set-lt}
use Rattle.text.specs.Decimal.{decimal_of, Digits, spelt_at}
use Rattle.text.specs.Reading.{blank}
use Rattle.text.specs.Lines.{line_feed, parts_of, fields_of, part_with, line_with, Put, Placed}
use Rattle.text.proofs.Digits.{number_spelt}

-- a copy's next byte, and its end
pub copy_step : (was : List ℕ) (place : ℕ) (text : List ℕ) (i : ℕ) → place + i < length was → i < length text
    → set (paste was place text i) (place + i) (get_or text i 0) ≡ paste was place text (i + 1)
copy_step was place text i l h = rw (add-one) (paste-suc was place text i 0 l h)

pub copy_ends : (was : List ℕ) (place : ℕ) (text is : List ℕ) (i : ℕ) → place + length text ≤ length was → i ≡ length text → is ≡ paste was place text i
    → Put text was place is (place + length text)
copy_ends was place text is i l q p =
    record {
      bytes = p ∙ rw (q, take_all (length text) text (omega arith), append_assoc (take place was) text (drop (place + length text) was));
      counted = refl;
      long = rw p (length-paste was place text i (omega arith) (omega arith));
    }

-- nothing put, and a piece put after the pieces before it
pub put_nothing : (is : List ℕ) (place : ℕ) → Put [] is place is place
put_nothing is place =
    let z : place + 0 ≡ place = omega arith in
    record { bytes = rw z (sym (take-append-drop place is)); counted = sym z; long = refl }

pub put_then : {text more was mid is : List ℕ} {start place next : ℕ} → start ≤ length was → Put text was start mid place → Put more mid place is next → Put (text ++ more) was start is next
put_then {text} {more} {was} {mid} {is} {start} {place} {next} l p q =
    let front = take start was in
    let n : length (front ++ text) ≡ place = length-append front text ∙ omega (arith, length-take-le start was l, p.counted) in
    let b : mid ≡ (front ++ text) ++ drop (start + length text) was = p.bytes ∙ sym (append_assoc front text (drop (start + length text) was)) in
    let t : take place mid ≡ front ++ text = rw b (take_at (front ++ text) (drop (start + length text) was) place n) in
    let d : drop place mid ≡ drop (start + length text) was = rw b (drop_at (front ++ text) (drop (start + length text) was) place n) in
    let s : start + length (text ++ more) ≡ start + length text + length more = omega (arith, length-append text more) in
    let r : drop (place + length more) mid ≡ drop (start + length text + length more) was =
    sym (drop-drop (length more) place mid) ∙ ap (drop (length more)) d ∙ drop-drop (length more) (start + length text) was in
    record {
      bytes = q.bytes ∙ rw (t, r, s, append_assoc text more (drop (start + length text + length more) was), append_assoc front text (more ++ drop (start + length text + length more) was));
      counted = q.counted ∙ omega arith;
      long = q.long ∙ p.long;
    }

-- what was put lies within
pub put_fits : {text was is : List ℕ} {place next : ℕ} → Put text was place is next → place ≤ length was → next ≤ length was
put_fits {text} {was} {is} {place} {next} p l =
    let e : length is ≡ length (take place was) + (length text + length (drop (place + length text) was)) = ap length p.bytes ∙ simp length-append in
    omega (arith, p.counted, p.long, length-take place was, length-drop (place + length text) was)

-- one byte put
pub put_byte : (was : List ℕ) (place b : ℕ) → place < length was → Put (b ∷ []) was place (set was place b) (place + 1)
put_byte was place b l =
    let q : take (place + 1) (set was place b) ≡ take place was ++ b ∷ [] = rw add-one (take-suc-set was place b l) in
    let r : drop (place + 1) (set was place b) ≡ drop (place + 1) was = drop-set-lt (place + 1) was place b (omega arith) in
    record {
      bytes = sym (take-append-drop (place + 1) (set was place b)) ∙ rw (q, r, append_assoc (take place was) (b ∷ []) (drop (place + 1) was));
      counted = refl;
      long = length-set was place b;
    }

-- a blank and a number put
pub put_number : (n k place : ℕ) (was is : List ℕ) → Digits n k → place + 21 ≤ length was → is ≡ spelt_at (place + 1) k n (set was place blank)
    → Put (blank ∷ decimal_of n) was place is (place + 1 + k) × (place + 1 + k ≤ place + 21)
put_number n k place was is d l e =
    let w = set was place blank in
    let f = d.few in
    let s = number_spelt (place + 1) n k w d (omega (arith, length-set was place blank)) in
    let b : is ≡ take (place + 1) w ++ (decimal_of n ++ drop (place + 1 + length (decimal_of n)) w) = e ∙ s.0 ∙ rw s.1 in
    let a : length is ≡ length (take (place + 1) w) + (length (decimal_of n) + length (drop (place + 1 + length (decimal_of n)) w)) = ap length b ∙ simp length-append in
    let c : length is ≡ length w = omega (arith, s.1, length-take (place + 1) w, length-drop (place + 1 + length (decimal_of n)) w, length-set was place blank) in
    let p : Put (decimal_of n) w (place + 1) is (place + 1 + k) = record { bytes = b; counted = omega (arith, s.1); long = c } in
    (put_then (omega arith) (put_byte was place blank (omega arith)) p, omega (arith, f))

-- one number more of a part
parts_snoc : (ns : List ℕ) (n : ℕ) → parts_of (map decimal_of (ns ++ n ∷ [])) ≡ parts_of (map decimal_of ns) ++ blank ∷ decimal_of n
parts_snoc [] n = rw (append-nil (decimal_of n))
parts_snoc (m ∷ ns) n = rw (parts_snoc ns n, append_assoc (decimal_of m) (parts_of (map decimal_of ns)) (blank ∷ decimal_of n))

pub part_next : {was mid is : List ℕ} {start place next : ℕ} (word numbers : List ℕ) (i : ℕ) → start ≤ length was → i < length numbers
    → Put (part_with word (map decimal_of (take i numbers))) was start mid place → Put (blank ∷ decimal_of (get_or numbers i 0)) mid place is next
    → Put (part_with word (map decimal_of (take (i + 1) numbers))) was start is next
part_next {was} {mid} {is} {start} {place} {next} word numbers i l h p q =
    let t : take (i + 1) numbers ≡ take i numbers ++ get_or numbers i 0 ∷ [] = rw add-one (take-suc numbers i 0 h) in
    let e : part_with word (map decimal_of (take (i + 1) numbers)) ≡ part_with word (map decimal_of (take i numbers)) ++ blank ∷ decimal_of (get_or numbers i 0) =
    ap (part_with word) (ap (map decimal_of) t) ∙ ap (λ (fields : List ℕ). word ++ fields) (parts_snoc (take i numbers) (get_or numbers i 0)) ∙ sym (append_assoc word (parts_of (map decimal_of (take i numbers))) (blank ∷ decimal_of (get_or numbers i 0))) in
    rw e (put_then l p q)

-- a line is its part and a line feed
line_part : (word : List ℕ) (fields : List (List ℕ)) → part_with word fields ++ line_feed ∷ [] ≡ line_with word fields
line_part word fields = append_assoc word (parts_of fields) (line_feed ∷ []) ∙ ap (λ (end : List ℕ). word ++ end) (ends fields)
  where
    ends : (fields : List (List ℕ)) → parts_of fields ++ line_feed ∷ [] ≡ fields_of fields
    ends [] = refl
    ends (field ∷ fields) = rw (append_assoc field (parts_of fields) (line_feed ∷ []), ends fields)

-- the line feed after a part
pub line_put : {was mid : List ℕ} {start place : ℕ} (word : List ℕ) (fields : List (List ℕ)) → start ≤ length was → place < length was
    → Put (part_with word fields) was start mid place → Put (line_with word fields) was start (set mid place line_feed) (place + 1)
line_put {was} {mid} {start} {place} word fields l h p = rw (line_part word fields) at (put_then l p (put_byte mid place line_feed (omega (arith, p.long))))

-- with too little room, and with enough
pub placed_none : {room place : ℕ} {text was : List ℕ} → length was < place + room → Placed room text was place was place
placed_none {room} {place} {text} {was} f = record { fits = λ l. absurd (omega arith); full = λ l. (refl, refl); long = refl; within = omega arith }

pub placed_all : {room place next : ℕ} {text was is : List ℕ} → place + room ≤ length was → next ≤ place + room → Put text was place is next → Placed room text was place is next
placed_all {room} {place} {next} {text} {was} {is} h n p = record { fits = λ l. p; full = λ l. absurd (omega arith); long = p.long; within = n }
