-- The lines as the rules spell them: the definitions compute, by the lane of an opening and by the kind of an event.
use mathlib.Core.Path.{◌≡◌, refl, ◌∙◌, ap}
use mathlib.Core.Bool.{Bool, true, false}
use mathlib.Core.List.{[], ◌∷◌, map}
use Prim.Native.Nat.{ℕ, zero, suc, ◌/◌, ◌%◌, ◌≤◌}
use native.Mathlib.Omega.{arith}
use lib.ListN.{take}
use Rattle.text.specs.Decimal.{decimal_of}
use Rattle.text.specs.Lines.{line_with}
use Rattle.text.specs.Reading.{largest}
use Rattle.text.specs.Spelled.{bytes_of}
use Rattle.lines.specs.Grammar.{Small, text_of}
use Rattle.lines.proofs.Texts.{reads_one_text}
use Rattle.logging.specs.Replay.{call_in}
use Rattle.log_lines.specs.Answers.{opening_call, event_call, shown_event}
use Rattle.log_lines.specs.Letters.{kind_letter, kind_numbers}
use Rattle.log_lines.specs.Spelled.{AnswersSpelled, RecordsSpelled}
use Rattle.log_lines.proofs.Shown.{opening_line, event_line, last_kind, last_line}

pub answers_spelled : AnswersSpelled
unfolding bytes_of
answers_spelled =
    record {
      good = λ c length. refl;
      refused = λ flaw length. refl;
      written = λ length. refl;
      bad_record = λ position. refl;
      too_long = refl;
      differ = λ place. refl;
      nowhere = refl;
    }

-- an event's line at a kind
at_kind : (w kind : ℕ) → w % 256 ≡ kind → shown_event w ≡ line_with (kind_letter kind ∷ []) (map decimal_of (take (kind_numbers kind) (w / 256 % 256 ∷ w / 65536 ∷ 0 ∷ [])))
at_kind w kind e = event_line w ∙ ap (λ (k : ℕ). line_with (kind_letter k ∷ []) (map decimal_of (take (kind_numbers k) (w / 256 % 256 ∷ w / 65536 ∷ 0 ∷ [])))) e

-- the numbers of a record are within what a line may hold
opening_small : (urgent : Bool) (w : ℕ) → w ≤ largest → Small (opening_call urgent w)
opening_small true w l = (omega arith, omega arith)
opening_small false w l = (omega arith, omega arith)

event_small : (kind flow number : ℕ) → flow ≤ largest → number ≤ largest → Small (call_in (record { kind = kind; flow = flow; number = number }))
event_small zero flow number l m = tt
event_small (suc zero) flow number l m = tt
event_small (suc (suc zero)) flow number l m = (l, m)
event_small (suc (suc (suc zero))) flow number l m = (l, m)
event_small (suc (suc (suc (suc zero)))) flow number l m = tt
event_small (suc (suc (suc (suc (suc kind))))) flow number l m = rw (last_kind (suc (suc (suc (suc (suc kind))))) flow number (omega arith)) tt

pub records_spelled : RecordsSpelled
unfolding bytes_of
records_spelled =
    record {
      urgent = λ w. opening_line true w;
      fair = λ w. opening_line false w;
      open_turn = λ w e. at_kind w 0 e;
      lost_turn = λ w e. at_kind w 1 e;
      cell = λ w e. at_kind w 2 e;
      packet = λ w e. at_kind w 3 e;
      begin = λ w e. at_kind w 4 e;
      end = λ w l. event_line w ∙ last_line (w % 256) (w / 256 % 256) (w / 65536) l;
      opening_read = λ urgent w l. (reads_one_text (text_of (opening_call urgent w))).1 (opening_call urgent w) refl (opening_small urgent w l);
      event_read = λ w l. (reads_one_text (text_of (event_call w))).1 (event_call w) refl (event_small (w % 256) (w / 256 % 256) (w / 65536) (omega arith) (omega arith));
    }
