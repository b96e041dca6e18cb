-- The openings of a lane, listed: a list in two parts, and one flow more.
use mathlib.Core.Path.{◌≡◌, refl, sym, ◌∙◌, ap}
use mathlib.Core.Bool.{Bool, true, false, cond}
use mathlib.Core.List.{List, [], ◌∷◌, ◌++◌, map, append_assoc, append-nil}
use Prim.Native.Nat.{ℕ, suc, ◌+◌, ◌-◌, ◌≤◌, ◌<◌}
use native.Mathlib.Omega.{arith}
use lib.Dec.{eqb}
use lib.ListN.{length, get_or, set, take, replicate, length-append}
use lib.Seq.{set_at, take-suc, length-take-le}
use Rattle.log_format.specs.Format.{Opening}
use Rattle.log_format.specs.Words.{opening_word}
use Rattle.logging.specs.declared.Openings.{Openings}
use Rattle.logging.specs.Logging.{listed}
use Rattle.logging.specs.Listing.{padded, openings_of, with_opening}

abbrev pub opening : ℕ → ℕ → Opening
opening flow number = record { flow = flow; number = number }

pub listed_append : (flow at : ℕ) (xs ys : List ℕ) → at ≡ flow + length xs → listed flow (xs ++ ys) ≡ listed flow xs ++ listed at ys
unfolding listed
listed_append flow at [] ys e = let q : flow ≡ at = omega arith in ap (λ (k : ℕ). listed k ys) q
listed_append flow at (x ∷ xs) ys e = go (eqb x 0) (listed_append (flow + 1) at xs ys (omega arith))
  where
    go : (t : Bool) → listed (flow + 1) (xs ++ ys) ≡ listed (flow + 1) xs ++ listed at ys
        → cond t (listed (flow + 1) (xs ++ ys)) (opening flow x ∷ listed (flow + 1) (xs ++ ys)) ≡ cond t (listed (flow + 1) xs) (opening flow x ∷ listed (flow + 1) xs) ++ listed at ys
    go true again = again
    go false again = ap (λ (t : List Opening). opening flow x ∷ t) again

pub listed_few : (flow : ℕ) (ns : List ℕ) → length (listed flow ns) ≤ length ns
unfolding listed
listed_few flow [] = omega arith
listed_few flow (n ∷ ns) = go (eqb n 0) (listed_few (flow + 1) ns)
  where
    go : (t : Bool) → length (listed (flow + 1) ns) ≤ length ns → length (cond t (listed (flow + 1) ns) (opening flow n ∷ listed (flow + 1) ns)) ≤ suc (length ns)
    go true l = omega arith
    go false l = omega arith

-- ---- their words
abbrev pub words_of : ℕ → List ℕ → List ℕ
words_of flow ns = map opening_word (listed flow ns)

map-append : {A B : Type 0} (f : A → B) (xs ys : List A) → map f (xs ++ ys) ≡ map f xs ++ map f ys
map-append f [] ys = refl
map-append {A} {B} f (x ∷ xs) ys = ap (λ (t : List B). f x ∷ t) (map-append f xs ys)

map_length : {A B : Type 0} (f : A → B) (xs : List A) → length (map f xs) ≡ length xs
map_length f [] = refl
map_length f (x ∷ xs) = ap suc (map_length f xs)

pub words_few : (flow : ℕ) (ns : List ℕ) → length (words_of flow ns) ≤ length ns
words_few flow ns = omega (arith, map_length opening_word (listed flow ns), listed_few flow ns)

-- a word put after some others
put_word : (ws : List ℕ) (w : ℕ) → length ws < 16
    → record { words = set (padded ws).words (length ws) w; count = length ws + 1 } ≡ padded (ws ++ (w ∷ []))
put_word ws w l =
    let k = 15 - length ws in
    let some : 16 - length ws ≡ suc k = omega arith in
    let long : length (ws ++ (w ∷ [])) ≡ length ws + 1 = length-append ws (w ∷ []) in
    let left : k ≡ 16 - length (ws ++ (w ∷ [])) = omega (arith, long) in
    let stored : set (ws ++ replicate (16 - length ws) 0) (length ws) w ≡ ws ++ (w ∷ replicate k 0) =
    ap (λ (n : ℕ). set (ws ++ replicate n 0) (length ws) w) some ∙ set_at ws 0 (replicate k 0) w (length ws) refl in
    let ws-are : set (ws ++ replicate (16 - length ws) 0) (length ws) w ≡ (padded (ws ++ (w ∷ []))).words =
    stored ∙ sym (append_assoc ws (w ∷ []) (replicate k 0)) ∙ ap (λ (n : ℕ). (ws ++ (w ∷ [])) ++ replicate n 0) left in
    λ i. record { words = ws-are i; count = sym long i }

-- ---- one flow more
module _ (ns : List ℕ) (i : ℕ) (l : i < length ns) (m : length ns ≡ 16) where
  abbrev before : List ℕ
  before = words_of 0 (take i ns)

  -- the words of the flows up to this one
  next_words : words_of 0 (take (i + 1) ns) ≡ before ++ words_of i (get_or ns i 0 ∷ [])
  next_words =
      let s : i + 1 ≡ suc i = omega arith in
      ap (λ (k : ℕ). words_of 0 (take k ns)) s
      ∙ ap (words_of 0) (take-suc ns i 0 l)
      ∙ ap (map opening_word) (listed_append 0 i (take i ns) (get_or ns i 0 ∷ []) (omega (arith, length-take-le i ns (omega arith))))
      ∙ map-append opening_word (listed 0 (take i ns)) (listed i (get_or ns i 0 ∷ []))

  few_before : length before ≤ i
  few_before = omega (arith, words_few 0 (take i ns), length-take-le i ns (omega arith))

  grown : with_opening (padded before) i (get_or ns i 0) ≡ openings_of (take (i + 1) ns)
  unfolding listed
  grown = go (eqb (get_or ns i 0) 0) refl ∙ ap padded (sym next_words)
    where
      go : (t : Bool) → eqb (get_or ns i 0) 0 ≡ t
          → cond t (padded before) (record { words = set (padded before).words (length before) (opening_word (opening i (get_or ns i 0))); count = length before + 1 })
          ≡ padded (before ++ words_of i (get_or ns i 0 ∷ []))
      go true e = rw e (ap padded (sym (append-nil before)))
      go false e = rw e (put_word before (opening_word (opening i (get_or ns i 0))) (omega (arith, few_before)))

  module _ (o : Openings) (e : o ≡ openings_of (take i ns)) where
    pub count_few : o.count ≤ i
    count_few = let n : o.count ≡ length before = ap (λ (p : Openings). p.count) e in omega (arith, n, few_before)

    pub one_more_lem : with_opening o i (get_or ns i 0) ≡ openings_of (take (i + 1) ns)
    one_more_lem = ap (λ (p : Openings). with_opening p i (get_or ns i 0)) e ∙ grown
