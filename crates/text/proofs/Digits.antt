-- The digits that are put from the last one down are the number's text.
use mathlib.Core.Path.{◌≡◌, refl, sym, ◌∙◌, ap}
use mathlib.Core.List.{List, [], ◌∷◌, ◌++◌, append_assoc}
use Prim.Native.Nat.{ℕ, zero, suc, ◌+◌, ◌-◌, ◌/◌, ◌%◌, ◌^◌, ◌≤◌, ◌<◌}
use native.Mathlib.Nat.{pow-suc, one-le-pow}
use native.Mathlib.Omega.{arith}
use lib.ListN.{length, take, drop, set, length-append, length-set, take-append-drop}
use lib.Seq.{take-set-le, set_split, drop_at, length-take-le}
use Rattle.text.specs.Decimal.{decimal_within, decimal_of, Digits, spelt_at}
use Rattle.text.proofs.Decimal.{one_digit, more_digits}

-- the last k digits of a number
last_digits : ℕ → ℕ → List ℕ
last_digits zero n = []
last_digits (suc k) n = last_digits k (n / 10) ++ (48 + n % 10) ∷ []

last_long : (k n : ℕ) → length (last_digits k n) ≡ k
unfolding last_digits
last_long zero n = refl
last_long (suc k) n = length-append (last_digits k (n / 10)) ((48 + n % 10) ∷ []) ∙ omega (arith, last_long k (n / 10))

-- as many as the number has are its text
written : (k f n : ℕ) → n ≤ f → n < 10 ^ suc k → (0 < k → 10 ^ k ≤ n) → last_digits (suc k) n ≡ decimal_within f n
unfolding last_digits
written zero f n e l h =
    let m : n % 10 ≡ n = omega arith in
    rw m (sym (one_digit f n (omega arith)))
written (suc k) zero n e l h = absurd (omega (arith, h (omega arith), pow-suc 10 k, one-le-pow k 10 (omega arith)))
written (suc k) (suc f) n e l h =
    let p = h (omega arith) in
    let big : 10 ≤ n = omega (arith, pow-suc 10 k, one-le-pow k 10 (omega arith)) in
    more (written k f (n / 10) (omega arith) (omega (arith, pow-suc 10 (suc k))) (λ z. omega (arith, pow-suc 10 k))) big
  where
    more : last_digits (suc k) (n / 10) ≡ decimal_within f (n / 10) → 10 ≤ n → last_digits (suc k) (n / 10) ++ (48 + n % 10) ∷ [] ≡ decimal_within (suc f) n
    more r big = ap (λ (ds : List ℕ). ds ++ (48 + n % 10) ∷ []) r ∙ sym (more_digits f n big)

decimal_written : (n k : ℕ) → Digits n k → last_digits k n ≡ decimal_of n
unfolding decimal_of
decimal_written n zero d = absurd (omega (arith, d.some))
decimal_written n (suc k) d = let e : suc k - 1 ≡ k = omega arith in written k n n (omega arith) d.below (λ z. rw e at (d.least (omega arith)))

-- where digits are put
spelt : (place k n : ℕ) (out : List ℕ) → place + k ≤ length out → spelt_at place k n out ≡ take place out ++ (last_digits k n ++ drop (place + k) out)
unfolding spelt_at last_digits
spelt place zero n out l = let z : place + 0 ≡ place = omega arith in rw z (sym (take-append-drop place out))
spelt place (suc k) n out l =
    let d = 48 + n % 10 in
    let out' = set out (place + k) d in
    let e : suc (place + k) ≡ place + suc k = omega arith in
    let s : drop (place + k) out' ≡ d ∷ drop (place + suc k) out =
    ap (drop (place + k)) (set_split out (place + k) d (omega arith)) ∙ drop_at (take (place + k) out) (d ∷ drop (suc (place + k)) out) (place + k) (length-take-le (place + k) out (omega arith)) ∙ ap (λ (j : ℕ). d ∷ drop j out) e in
    spelt place k (n / 10) out' (omega (arith, length-set out (place + k) d))
    ∙ rw (take-set-le place out (place + k) d (omega arith), s, append_assoc (last_digits k (n / 10)) (d ∷ []) (drop (place + suc k) out))

-- one digit more, and none left
pub spell_step : (place i rest : ℕ) (out : List ℕ) → 0 < i
    → spelt_at place (i - 1) (rest / 10) (set out (place + (i - 1)) (48 + rest % 10)) ≡ spelt_at place i rest out
unfolding spelt_at
spell_step place zero rest out l = absurd (omega arith)
spell_step place (suc i) rest out l = let e : suc i - 1 ≡ i = omega arith in rw e

pub spell_done : (place i rest : ℕ) (out : List ℕ) → i ≤ 0 → out ≡ spelt_at place i rest out
unfolding spelt_at
spell_done place zero rest out l = refl
spell_done place (suc i) rest out l = absurd (omega arith)

-- a number's text put at a place, and how long it is
pub number_spelt : (place n k : ℕ) (out : List ℕ) → Digits n k → place + k ≤ length out
    → (spelt_at place k n out ≡ take place out ++ (decimal_of n ++ drop (place + k) out)) × (length (decimal_of n) ≡ k)
number_spelt place n k out d l =
    let w = decimal_written n k d in
    (spelt place k n out l ∙ rw w, sym (ap length w) ∙ last_long k n)
