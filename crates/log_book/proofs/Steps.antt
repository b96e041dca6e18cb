-- A line's call noted, each way that a byte can go, and where the logbook stands after some bytes of an input.
use mathlib.Core.Path.{◌≡◌, refl, sym, ◌∙◌, ap}
use mathlib.Core.List.{List, [], ◌∷◌}
use Rattle.std.proofs.Common.{Option, None, Some}
use Prim.Native.Nat.{ℕ, ◌+◌, ◌≤◌, ◌<◌}
use native.Mathlib.Numerals.{add-one}
use borrow.Author.Tests.{eq-eqb, ne_eqb}
use lib.ListN.{length, drop, get_or, drop_of_length-le}
use lib.Seq.{drop-cons}
use Rattle.station.specs.declared.Call.{Call}
use Rattle.text.specs.Lines.{line_feed}
use Rattle.feeding.specs.declared.line.Line.{Line}
use Rattle.feeding.specs.Lines.{kept_of, ended_of}
use Rattle.session.specs.Steps.{kept_as}
use Rattle.recorder.specs.declared.Recorder.{Recorder}
use Rattle.recorder.specs.Recording.{note_of, room_noted}
use Rattle.recorder.specs.Laws.{recorded_from, room_from}
use Rattle.log_book.specs.declared.Logbook.{Logbook}
use Rattle.log_book.specs.Whole.{calls_by}
use Rattle.log_book.specs.Steps.{step_of, room_step, fed_of, room_fed, finish_of, room_finished}

-- ---- a line's call noted
abbrev pub Noted : Recorder → Option Call → List ℕ → Recorder → List ℕ → Type 0
Noted r o room next is = (next ≡ recorded_from r (calls_by o)) × (is ≡ room_from r (calls_by o) room)

pub noted_none : (r : Recorder) (o : Option Call) (room : List ℕ) → o ≡ None → Noted r o room r room
unfolding recorded_from room_from
noted_none r o room e = rw e (refl, refl)

pub noted_call : (r : Recorder) (o : Option Call) (room : List ℕ) (c : Call) {next : Recorder} {is : List ℕ} → o ≡ Some c → next ≡ note_of r c → is ≡ room_noted r c room
    → Noted r o room next is
unfolding recorded_from room_from
noted_call r o room c e n i = rw e (n, i)

-- ---- each way that a byte can go
abbrev pub together : Recorder → Line → Logbook
together recorder line = record { recorder = recorder; line = line }

abbrev pub Steps : Logbook → ℕ → List ℕ → Logbook → List ℕ → Type 0
Steps s b room t is = (step_of s b ≡ t) × (room_step s b room ≡ is)

module _ (s : Logbook) (b : ℕ) (room : List ℕ) where
  pub step_heard : {next : Recorder} {is : List ℕ} → b ≡ line_feed → Noted s.recorder (kept_as s.line) room next is → Steps s b room (together next (ended_of s.line)) is
  unfolding step_of room_step
  step_heard e n = rw (eq-eqb b line_feed e, n.0, n.1) (refl, refl)

  pub step_kept : (b ≡ line_feed → ⊥) → Steps s b room (together s.recorder (kept_of s.line b)) room
  unfolding step_of room_step
  step_kept n = rw (ne_eqb b line_feed n) (refl, refl)

-- ---- where the logbook stands after i bytes of an input
pub record Going (s : Logbook) (input was is : List ℕ) (now : Logbook) (i : ℕ) : Type 0 where
  pub state : fed_of s input ≡ fed_of now (drop i input)
  pub room : room_fed s input was ≡ room_fed now (drop i input) is
  pub long : length is ≡ length was

pub going_starts : (s : Logbook) (input was : List ℕ) → Going s input was was s 0
going_starts s input was = record { state = refl; room = refl; long = refl }

module _ {s : Logbook} {input was is : List ℕ} {now : Logbook} {i : ℕ} (g : Going s input was is now i) where
  pub going_on : i < length input → (t : Logbook) (is' : List ℕ) → Steps now (get_or input i 0) is t is' → length is' ≡ length is → Going s input was is' t (i + 1)
  unfolding fed_of room_fed
  going_on l t is' e k =
      let b = get_or input i 0 in
      let d : drop i input ≡ b ∷ drop (i + 1) input = drop-cons input i 0 l ∙ rw (add-one i) in
      record {
        state = g.state ∙ ap (fed_of now) d ∙ (λ j. fed_of (e.0 j) (drop (i + 1) input));
        room = g.room ∙ ap (λ (rest : List ℕ). room_fed now rest is) d ∙ (λ j. room_fed (e.0 j) (drop (i + 1) input) (e.1 j));
        long = k ∙ g.long;
      }

  pub going_ends : length input ≤ i → (now ≡ fed_of s input) × (is ≡ room_fed s input was)
  unfolding fed_of room_fed
  going_ends l = let d = drop_of_length-le input {i = i} l in (sym (g.state ∙ rw d), sym (g.room ∙ rw d))

-- the parts after a branch of the code, each by what the branch made of it
pub arrived : {s : Logbook} {input was is is' : List ℕ} {recorder recorder' : Recorder} {line line' : Line} {i : ℕ}
    → is' ≡ is → recorder' ≡ recorder → line' ≡ line → Going s input was is (together recorder line) i
    → Going s input was is' (together recorder' line') i
arrived a b c g = rw (a, b, c) g

-- ---- the end of the input
abbrev Ends : Logbook → List ℕ → Logbook → List ℕ → Type 0
Ends s room t is = (t ≡ finish_of s) × (is ≡ room_finished s room)

pub finish_none : (s : Logbook) (room : List ℕ) → s.line.count ≡ 0 → Ends s room s room
finish_none s room e = rw (eq-eqb s.line.count 0 e) (refl, refl)

pub finish_fed : (s : Logbook) (room : List ℕ) {t : Logbook} {is : List ℕ} → (s.line.count ≡ 0 → ⊥) → t ≡ fed_of s (line_feed ∷ []) → is ≡ room_fed s (line_feed ∷ []) room → Ends s room t is
unfolding fed_of room_fed step_of room_step
finish_fed s room n e f = rw (ne_eqb s.line.count 0 n) (e, f)
