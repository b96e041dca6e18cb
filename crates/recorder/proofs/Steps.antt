-- One step of each function of the recorder, in the words of the definitions.
use mathlib.Core.Path.{◌≡◌, refl, sym, ◌∙◌, ap}
use mathlib.Core.Bool.{Bool, true, false, cond}
use mathlib.Core.List.{List}
use Prim.Native.Nat.{ℕ, ◌+◌, ◌≤◌, ◌<◌, min}
use native.Mathlib.Nat.{min-eq_left, min-eq_right}
use native.Mathlib.Omega.{arith}
use borrow.Author.Tests.{eq-eqb, ne_eqb}
use lib.Dec.{eqb}
use lib.ListN.{length, get_or, set}
use lib.Seq.{set_out}
use Rattle.station.specs.declared.Call.{Call}
use Rattle.logging.proofs.Choices.{where_true, where_false}
use Rattle.recorder.specs.declared.Recorder.{Recorder}
use Rattle.logging.specs.declared.Sorted.{Sorted}
use Rattle.logging.specs.declared.Sorted.TheVariants.{Beyond, OpensUrgent, OpensFair, Closes, Happens}
use Rattle.logging.specs.Sorts.{Sort, beyond, opens_urgent, opens_fair, closes, happens, sort_of, sorted_of}
use Rattle.logging.specs.Logging.{opened_with}
use Rattle.recorder.specs.Recording.{stopped, with_deadline, with_weight, most_counted, counted, note_by, note_of, room_by, room_noted}

-- ---- an opening of a flow that there is not
pub none_opened : (ns : List ℕ) (flow n : ℕ) → length ns ≤ flow → ns ≡ opened_with ns flow n
none_opened ns flow n l = go (eqb (get_or ns flow 0) 0)
  where
    go : (t : Bool) → ns ≡ cond t (set ns flow n) ns
    go true = sym (set_out ns flow n l)
    go false = refl

-- the first opening of a flow counts, and no further one
pub not_again : (ns : List ℕ) (flow n : ℕ) → 0 < get_or ns flow 0 → ns ≡ opened_with ns flow n
not_again ns flow n l = where_false (eqb (get_or ns flow 0) 0) (set ns flow n) ns (ne_eqb (get_or ns flow 0) 0 (λ q. omega arith))

pub the_first : (ns : List ℕ) (flow n : ℕ) → get_or ns flow 0 ≤ 0 → set ns flow n ≡ opened_with ns flow n
the_first ns flow n l = where_true (eqb (get_or ns flow 0) 0) (set ns flow n) ns (eq-eqb (get_or ns flow 0) 0 (omega arith))

-- ---- the count
pub count_on : (n : ℕ) → n + 1 ≤ most_counted → n + 1 ≡ min (n + 1) most_counted
count_on n l = sym (min-eq_left l)

pub count_stays : (n : ℕ) → most_counted ≤ n → n ≤ most_counted → n ≡ min (n + 1) most_counted
count_stays n l m = let e : n ≡ most_counted = omega arith in e ∙ sym (min-eq_right (omega arith))

-- ---- a call by its sort, as the code tells it
abbrev pub note_sorted : Recorder → Sorted → Recorder
note_sorted r Beyond = r
note_sorted r (OpensUrgent flow deadline) = with_deadline r flow deadline
note_sorted r (OpensFair flow weight) = with_weight r flow weight
note_sorted r Closes = stopped r
note_sorted r (Happens word) = counted r

abbrev pub room_sorted : Recorder → Sorted → List ℕ → List ℕ
room_sorted r Beyond room = room
room_sorted r (OpensUrgent flow deadline) room = room
room_sorted r (OpensFair flow weight) room = room
room_sorted r Closes room = room
room_sorted r (Happens word) room = set room r.events word

module _ (r : Recorder) where
  note_is : (x : Sort) → note_sorted r (sorted_of x) ≡ note_by r x
  note_is beyond = refl
  note_is (opens_urgent flow deadline) = refl
  note_is (opens_fair flow weight) = refl
  note_is closes = refl
  note_is (happens e) = refl

  room_is : (x : Sort) (room : List ℕ) → room_sorted r (sorted_of x) room ≡ room_by r x room
  room_is beyond room = refl
  room_is (opens_urgent flow deadline) room = refl
  room_is (opens_fair flow weight) room = refl
  room_is closes room = refl
  room_is (happens e) room = refl

  module _ (call : Call) (s : Sorted) (e : r.ended ≡ false) (q : s ≡ sorted_of (sort_of call)) where
    pub noted : note_sorted r s ≡ note_of r call
    noted = ap (note_sorted r) q ∙ note_is (sort_of call) ∙ where_false r.ended r (note_by r (sort_of call)) e

    pub room_noted_lem : (room : List ℕ) → room_sorted r s room ≡ room_noted r call room
    room_noted_lem room =
        ap (λ (t : Sorted). room_sorted r t room) q ∙ room_is (sort_of call) room ∙ where_false r.ended room (room_by r (sort_of call) room) e
