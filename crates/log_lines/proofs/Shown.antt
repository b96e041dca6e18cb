-- The line of a record is its letter, as a word, with as many numbers as its call has.
use mathlib.Core.Path.{◌≡◌, refl, sym, ◌∙◌, ap}
use mathlib.Core.Bool.{Bool, true, false}
use mathlib.Core.List.{[], ◌∷◌, map, append_assoc}
use Prim.Native.Nat.{ℕ, zero, suc, ◌/◌, ◌%◌, ◌≤◌, ◌<◌}
use native.Mathlib.Omega.{arith}
use borrow.Author.Tests.{ne_eqb}
use lib.Dec.{eqb}
use lib.ListN.{take}
use Rattle.text.specs.Decimal.{decimal_of}
use Rattle.text.specs.Reading.{blank}
use Rattle.text.specs.Lines.{line_feed, line_with}
use Rattle.station.specs.declared.Call.TheVariants.{End}
use Rattle.lines.specs.Grammar.{small_u, small_f, small_e}
use Rattle.logging.specs.Replay.{call_in}
use Rattle.log_lines.specs.Answers.{shown, shown_opening, shown_event}
use Rattle.log_lines.specs.Letters.{lane_letter, kind_letter, kind_numbers}

pub opening_line : (urgent : Bool) (word : ℕ)
    → shown_opening urgent word ≡ line_with (lane_letter urgent ∷ []) (decimal_of (word % 256) ∷ decimal_of (word / 256) ∷ [])
opening_line true word = rw (append_assoc (decimal_of (word % 256)) (blank ∷ decimal_of (word / 256)) (line_feed ∷ []))
opening_line false word = rw (append_assoc (decimal_of (word % 256)) (blank ∷ decimal_of (word / 256)) (line_feed ∷ []))

-- a kind above those that are told apart
no_kind : (kind n : ℕ) → 5 ≤ kind → n < 5 → eqb kind n ≡ false
no_kind kind n l h = ne_eqb kind n (λ e. absurd (omega arith))

pub last_kind : (kind flow number : ℕ) → 5 ≤ kind → call_in (record { kind = kind; flow = flow; number = number }) ≡ End
last_kind kind flow number l =
    rw (no_kind kind 0 l (omega arith), no_kind kind 1 l (omega arith), no_kind kind 2 l (omega arith), no_kind kind 3 l (omega arith), no_kind kind 4 l (omega arith))

pub last_line : (kind flow number : ℕ) → 5 ≤ kind
    → line_with (kind_letter kind ∷ []) (map decimal_of (take (kind_numbers kind) (flow ∷ number ∷ 0 ∷ []))) ≡ line_with (small_e ∷ []) []
last_line kind flow number l =
    rw (no_kind kind 0 l (omega arith), no_kind kind 1 l (omega arith), no_kind kind 2 l (omega arith), no_kind kind 3 l (omega arith), no_kind kind 4 l (omega arith))

by_kind : (kind flow number : ℕ)
    → shown (call_in (record { kind = kind; flow = flow; number = number })) ≡ line_with (kind_letter kind ∷ []) (map decimal_of (take (kind_numbers kind) (flow ∷ number ∷ 0 ∷ [])))
by_kind zero flow number = refl
by_kind (suc zero) flow number = refl
by_kind (suc (suc zero)) flow number = append_assoc (small_u ∷ blank ∷ decimal_of flow) (blank ∷ decimal_of number) (line_feed ∷ [])
by_kind (suc (suc (suc zero))) flow number = append_assoc (small_f ∷ blank ∷ decimal_of flow) (blank ∷ decimal_of number) (line_feed ∷ [])
by_kind (suc (suc (suc (suc zero)))) flow number = refl
by_kind (suc (suc (suc (suc (suc kind))))) flow number =
    let k = suc (suc (suc (suc (suc kind)))) in
    ap shown (last_kind k flow number (omega arith)) ∙ sym (last_line k flow number (omega arith))

pub event_line : (word : ℕ)
    → shown_event word ≡ line_with (kind_letter (word % 256) ∷ []) (map decimal_of (take (kind_numbers (word % 256)) (word / 256 % 256 ∷ word / 65536 ∷ 0 ∷ [])))
event_line word = by_kind (word % 256) (word / 256 % 256) (word / 65536)
