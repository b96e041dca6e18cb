-- The decimal text of a number: one digit more at its end, reading it back, and how long it is.
use mathlib.Core.Path.{◌≡◌, refl, sym, ◌∙◌, ap}
use mathlib.Core.List.{List, [], ◌∷◌, ◌++◌, append_assoc}
use Prim.Native.Nat.{ℕ, zero, suc, ◌+◌, ◌-◌, ◌*◌, ◌/◌, ◌%◌, ◌^◌, ◌≤◌, ◌<◌}
use native.Mathlib.Decide.{dec_lt}
use native.Mathlib.Nat.{pow-suc}
use native.Mathlib.Omega.{arith}
use borrow.Author.Tests.{lt-ltb, le-ltb, le-leb, ne_eqb}
use lib.ListN.{length, length-append}
use Rattle.text.specs.Decimal.{decimal_within, decimal_of}
use Rattle.text.specs.Reading.{largest, read_on, read_number}

-- a number below ten is its one digit, and any other is its tenth and its last digit
pub one_digit : (f n : ℕ) → n < 10 → decimal_within f n ≡ (48 + n) ∷ []
unfolding decimal_within
one_digit zero n l = refl
one_digit (suc f) n l = rw (lt-ltb n 10 l)

pub more_digits : (f n : ℕ) → 10 ≤ n → decimal_within (suc f) n ≡ decimal_within f (n / 10) ++ (48 + n % 10) ∷ []
unfolding decimal_within
more_digits f n l = rw (le-ltb n 10 l)

-- any steps that are enough give the same text
same : (f g n : ℕ) → n ≤ f → n ≤ g → decimal_within f n ≡ decimal_within g n
same zero g n a b = one_digit zero n (omega arith) ∙ sym (one_digit g n (omega arith))
same (suc f) zero n a b = one_digit (suc f) n (omega arith) ∙ sym (one_digit zero n (omega arith))
same (suc f) (suc g) n a b = go (same f g) (dec_lt n 10)
  where
    go : ((n : ℕ) → n ≤ f → n ≤ g → decimal_within f n ≡ decimal_within g n) → Dec (n < 10) → decimal_within (suc f) n ≡ decimal_within (suc g) n
    go r (yes l) = one_digit (suc f) n l ∙ sym (one_digit (suc g) n l)
    go r (no l) = rw (more_digits f n (omega arith), more_digits g n (omega arith), r (n / 10) (omega arith) (omega arith))

-- a number that is not 0, with one digit more
pub decimal_snoc : (a d : ℕ) → 1 ≤ a → d < 10 → decimal_of (a * 10 + d) ≡ decimal_of a ++ (48 + d) ∷ []
unfolding decimal_of
decimal_snoc a d l h =
    let n = a * 10 + d in
    let q : n / 10 ≡ a = omega arith in
    let m : n % 10 ≡ d = omega arith in
    let s : suc (n - 1) ≡ n = omega arith in
    ap (λ (k : ℕ). decimal_within k n) (sym s) ∙ more_digits (n - 1) n (omega arith) ∙ rw (q, m, same (n - 1) a a (omega arith) (omega arith))

pub decimal_digit : (n : ℕ) → n < 10 → decimal_of n ≡ (48 + n) ∷ []
unfolding decimal_of
decimal_digit n l = one_digit n n l

-- a digit at the start, and a digit that goes on
first_read : (d : ℕ) (rest : List ℕ) → d < 10 → read_number ((48 + d) ∷ rest) ≡ read_on d rest
first_read d rest l =
    let e : 48 + d - 48 ≡ d = omega arith in
    rw (le-leb 48 (48 + d) (omega arith), le-leb (48 + d) 57 (omega arith), e)

next_read : (a d : ℕ) (rest : List ℕ) → 1 ≤ a → d < 10 → a * 10 + d ≤ largest → read_on a ((48 + d) ∷ rest) ≡ read_on (a * 10 + d) rest
unfolding read_on
next_read a d rest p l h =
    let e : 48 + d - 48 ≡ d = omega arith in
    rw (ne_eqb (48 + d) 32 (λ z. omega arith), le-leb 48 (48 + d) (omega arith), le-leb (48 + d) 57 (omega arith), e, le-leb 1 a p, le-leb (a * 10 + d) largest h)

-- read from its start, a number's text gives the number, and what follows is read on from there
back : (f n : ℕ) (rest : List ℕ) → n ≤ f → n ≤ largest → read_number (decimal_within f n ++ rest) ≡ read_on n rest
back zero n rest e l = rw (one_digit zero n (omega arith)) (first_read n rest (omega arith))
back (suc f) n rest e l = go (back f) (dec_lt n 10)
  where
    go : ((n : ℕ) (rest : List ℕ) → n ≤ f → n ≤ largest → read_number (decimal_within f n ++ rest) ≡ read_on n rest) → Dec (n < 10)
        → read_number (decimal_within (suc f) n ++ rest) ≡ read_on n rest
    go r (yes h) = rw (one_digit (suc f) n h) (first_read n rest h)
    go r (no h) =
        let q : n / 10 * 10 + n % 10 ≡ n = omega arith in
        rw (more_digits f n (omega arith), append_assoc (decimal_within f (n / 10)) ((48 + n % 10) ∷ []) rest)
        (r (n / 10) ((48 + n % 10) ∷ rest) (omega arith) (omega arith)
        ∙ next_read (n / 10) (n % 10) rest (omega arith) (omega arith) (omega arith)
        ∙ ap (λ (k : ℕ). read_on k rest) q)

pub read_text : (n : ℕ) (rest : List ℕ) → n ≤ largest → read_number (decimal_of n ++ rest) ≡ read_on n rest
unfolding decimal_of
read_text n rest l = back n n rest (omega arith) l

-- a number below a power of ten has no more digits than the power
one_long : (f n k : ℕ) → n < 10 → length (decimal_within f n) ≤ suc k
one_long f n k l = rw (one_digit f n l) (omega arith)

short : (k f n : ℕ) → n < 10 ^ suc k → length (decimal_within f n) ≤ suc k
unfolding decimal_within
short k zero n l = omega arith
short zero (suc f) n l = one_long (suc f) n zero (omega arith)
short (suc k) (suc f) n l = go (short k f) (dec_lt n 10)
  where
    go : ((n : ℕ) → n < 10 ^ suc k → length (decimal_within f n) ≤ suc k) → Dec (n < 10) → length (decimal_within (suc f) n) ≤ suc (suc k)
    go r (yes h) = one_long (suc f) n (suc k) h
    go r (no h) =
        rw (more_digits f n (omega arith), length-append (decimal_within f (n / 10)) ((48 + n % 10) ∷ []))
        (omega (arith, r (n / 10) (omega (arith, pow-suc 10 (suc k)))))

pub ten_digits : (n : ℕ) → n ≤ largest → length (decimal_of n) ≤ 10
unfolding decimal_of
ten_digits n l = short 9 n n (omega arith)
