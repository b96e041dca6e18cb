-- When a record is found: its index is below the count, and its bytes are all there.
use mathlib.Core.Path.{◌≡◌, refl}
use mathlib.Core.Bool.{Bool, true, false, cond, ◌&&◌}
use mathlib.Core.List.{List}
use Prim.Native.Nat.{ℕ, ◌+◌, ◌*◌, ◌≤◌, ◌<◌}
use borrow.Author.Tests.{lt-ltb, le-ltb, le-leb, lt-leb}
use lib.Dec.{ltb, leb}
use lib.ListN.{length}
use Rattle.std.specs.Prelude.{Option, None, Some}
use Rattle.log_format.specs.Words.{opening_word, event_word}
use Rattle.log_format.specs.Reading.{opening_at, event_at}
use Rattle.log_records.specs.Found.{opening_in, event_in}

-- ---- the two tests
module _ (k count end n : ℕ) (found : Option ℕ) where
  past : count ≤ k → cond (ltb k count && leb end n) found None ≡ None
  past l = rw (le-ltb k count l)

  cut : n < end → cond (ltb k count && leb end n) found None ≡ None
  cut l = rw (lt-leb end n l, neither (ltb k count))
    where
      neither : (t : Bool) → (t && false) ≡ false
      neither true = refl
      neither false = refl

  there : k < count → end ≤ n → cond (ltb k count && leb end n) found None ≡ found
  there l m = rw (lt-ltb k count l, le-leb end n m)

module _ (s : List ℕ) (start count k : ℕ) where
  -- ---- openings
  pub opening_past : count ≤ k → opening_in s start count k ≡ None
  opening_past l = past k count (start + 3 * k + 3) (length s) (Some (opening_word (opening_at s (start + 3 * k)))) l

  pub opening_cut : length s < start + 3 * k + 3 → opening_in s start count k ≡ None
  opening_cut l = cut k count (start + 3 * k + 3) (length s) (Some (opening_word (opening_at s (start + 3 * k)))) l

  pub opening_there : k < count → start + 3 * k + 3 ≤ length s → opening_in s start count k ≡ Some (opening_word (opening_at s (start + 3 * k)))
  opening_there l m = there k count (start + 3 * k + 3) (length s) (Some (opening_word (opening_at s (start + 3 * k)))) l m

  -- ---- events
  pub event_past : count ≤ k → event_in s start count k ≡ None
  event_past l = past k count (start + 4 * k + 4) (length s) (Some (event_word (event_at s (start + 4 * k)))) l

  pub event_cut : length s < start + 4 * k + 4 → event_in s start count k ≡ None
  event_cut l = cut k count (start + 4 * k + 4) (length s) (Some (event_word (event_at s (start + 4 * k)))) l

  pub event_there : k < count → start + 4 * k + 4 ≤ length s → event_in s start count k ≡ Some (event_word (event_at s (start + 4 * k)))
  event_there l m = there k count (start + 4 * k + 4) (length s) (Some (event_word (event_at s (start + 4 * k)))) l m
