-- A session fed in any pieces is logged as a whole. The logbook keeps the line that is not at its end yet, or that it is longer than 32
-- bytes; so what is still to be noted is the calls of the lines that begin with it.
use mathlib.Core.Path.{◌≡◌, refl, sym, ◌∙◌, ap, subst}
use mathlib.Core.Bool.{Bool, true, false, cond}
use mathlib.Core.List.{List, [], ◌∷◌, ◌++◌, append-nil}
use Rattle.std.proofs.Common.{Option, None, Some}
use Prim.Native.Nat.{ℕ, ◌+◌, ◌≤◌, ◌<◌}
use native.Mathlib.Decide.{dec_lt}
use native.Mathlib.Numerals.{add-one}
use native.Mathlib.Omega.{arith}
use borrow.Author.Tests.{eq-eqb, ne_eqb, lt-leb, lt-ltb, le-ltb, eqb-true, eqb-false}
use lib.Dec.{eqb}
use lib.ListN.{length, take, set, length-append, length-set}
use lib.Seq.{take-suc-set}
use Rattle.station.specs.declared.Call.{Call}
use Rattle.text.specs.Lines.{line_feed}
use Rattle.text.specs.Input.{onto, lines_of, joined}
use Rattle.text.proofs.Input.{begun, begun_more, begun_ended}
use Rattle.session.specs.Whole.{heard_as}
use Rattle.feeding.specs.Lines.{kept_of}
use Rattle.session.specs.Steps.{kept_as}
use Rattle.recorder.specs.declared.Recorder.{Recorder}
use Rattle.recorder.specs.Laws.{recorded_from, room_from}
use Rattle.recorded.proofs.Wrote.{writes_logs}
use Rattle.log_book.specs.declared.Logbook.{Logbook}
use Rattle.log_book.specs.Whole.{calls_by, heard_in, calls_in}
use Rattle.log_book.specs.Steps.{fresh_logbook, ended, room_ended, step_of, room_step, fed_of, room_fed, finish_of, room_finished}
use Rattle.log_book.specs.Laws.{pieces_of, room_pieces, FedInPieces, LogsSessions}
use Rattle.log_book.proofs.Steps.{together, Steps, step_heard, step_kept}

-- ---- the logbook keeps this line, or that it is longer
data Holds (s : Logbook) (line : List ℕ) : Type 0 where
  whole : length s.line.kept ≡ 32 → length line ≤ 32 → s.line.count ≡ length line → take (length line) s.line.kept ≡ line → Holds s line
  over : length s.line.kept ≡ 32 → 32 < length line → s.line.count ≡ 33 → Holds s line

holds_none : (s : Logbook) → length s.line.kept ≡ 32 → s.line.count ≡ 0 → Holds s []
holds_none s l e = whole l (omega arith) e refl

kept_long : {s : Logbook} {line : List ℕ} → Holds s line → length s.line.kept ≡ 32
kept_long (whole l m n t) = l
kept_long (over l m n) = l

-- and asks what the line asks
heard_same : (s : Logbook) (line : List ℕ) → Holds s line → kept_as s.line ≡ heard_as line
heard_same s line (whole l m n t) = rw (n, t)
heard_same s line (over l m n) = rw (n, lt-leb (length line) 32 m)

not_none : (s : Logbook) (x : ℕ) (line : List ℕ) → Holds s (x ∷ line) → s.line.count ≡ 0 → ⊥
not_none s x line (whole l m n t) z = omega arith
not_none s x line (over l m n) z = omega arith

-- ---- what is noted for an input, and then at its end
abbrev Notes : Logbook → List ℕ → List ℕ → Recorder → List ℕ → Type 0
Notes s input room next is = ((finish_of (fed_of s input)).recorder ≡ next) × (room_finished (fed_of s input) (room_fed s input room) ≡ is)

abbrev NotesCalls : Logbook → List ℕ → List ℕ → List Call → Type 0
NotesCalls s input room calls = Notes s input room (recorded_from s.recorder calls) (room_from s.recorder calls room)

notes_next : (s : Logbook) (b : ℕ) (input room : List ℕ) (t : Logbook) (is : List ℕ) {next : Recorder} {last : List ℕ} → Steps s b room t is
    → Notes t input is next last → Notes s (b ∷ input) room next last
unfolding fed_of room_fed
notes_next s b input room t is e h = (
  ap (λ (n : Logbook). (finish_of (fed_of n input)).recorder) e.0 ∙ h.0,
  (λ j. room_finished (fed_of (e.0 j) input) (room_fed (e.0 j) input (e.1 j))) ∙ h.1,
)

notes_end : (s : Logbook) (line room : List ℕ) → Holds s line → NotesCalls s [] room (heard_in (begun line []))
unfolding fed_of room_fed heard_in begun recorded_from room_from
notes_end s [] room (whole l m n t) = rw (eq-eqb s.line.count 0 n) (refl, refl)
notes_end s [] room (over l m n) = absurd (omega arith)
notes_end s (x ∷ line) room h =
    rw (ne_eqb s.line.count 0 (not_none s x line h), heard_same s (x ∷ line) h, append-nil (calls_by (heard_as (x ∷ line)))) (refl, refl)

-- a line's call, and then further calls
calls_on : (r : Recorder) (o : Option Call) (calls : List Call) (room : List ℕ)
    → (recorded_from (recorded_from r (calls_by o)) calls ≡ recorded_from r (calls_by o ++ calls)) × (room_from (recorded_from r (calls_by o)) calls (room_from r (calls_by o) room) ≡ room_from r (calls_by o ++ calls) room)
unfolding recorded_from room_from
calls_on r None calls room = (refl, refl)
calls_on r (Some call) calls room = (refl, refl)

-- ---- one byte more
-- the rest of an input is noted as its lines are, the first of them begun
abbrev Again : List ℕ → List ℕ → Type 0
Again input line = (s : Logbook) (room : List ℕ) → Holds s line → NotesCalls s input room (heard_in (begun line (lines_of input)))

module _ (s : Logbook) (line : List ℕ) (b : ℕ) where
  grown : length (line ++ b ∷ []) ≡ length line + 1
  grown = length-append line (b ∷ [])

  holds_more : Holds s line → s.line.count < 32 → Holds (together s.recorder (record { kept = set s.line.kept s.line.count b; count = s.line.count + 1 })) (line ++ b ∷ [])
  holds_more (whole l m n t) k =
      whole (length-set s.line.kept s.line.count b ∙ l) (omega (arith, grown)) (omega (arith, grown))
      (rw (n, grown, add-one (length line), take-suc-set s.line.kept (length line) b (omega arith), t))
  holds_more (over l m n) k = absurd (omega arith)

  holds_over : Holds s line → 32 ≤ s.line.count → Holds (together s.recorder (record s.line { count = 33 })) (line ++ b ∷ [])
  holds_over (whole l m n t) k = over l (omega (arith, grown)) refl
  holds_over (over l m n) k = over l (omega (arith, grown)) refl

  holds_kept : Holds s line → Holds (together s.recorder (kept_of s.line b)) (line ++ b ∷ [])
  holds_kept h = go (dec_lt s.line.count 32)
    where
      go : Dec (s.line.count < 32) → Holds (together s.recorder (kept_of s.line b)) (line ++ b ∷ [])
      go (yes l) = rw (lt-ltb s.line.count 32 l) (holds_more h l)
      go (no l) = rw (le-ltb s.line.count 32 (omega arith)) (holds_over h (omega arith))

  -- a line at its end is noted, and the next one begins
  line_ended : (input room : List ℕ) → Holds s line → b ≡ line_feed → Again input [] → NotesCalls s (b ∷ input) room (heard_in (begun line ([] ∷ lines_of input)))
  unfolding heard_in begun
  line_ended input room h e again =
      let o = kept_as s.line in
      let lines = lines_of input in
      let calls : heard_in (begun line ([] ∷ lines)) ≡ calls_by o ++ heard_in lines =
      ap heard_in (begun_ended line lines) ∙ ap (λ (p : Option Call). calls_by p ++ heard_in lines) (sym (heard_same s line h)) in
      let rest = again (ended s) (room_ended s room) (holds_none (ended s) (kept_long h) refl) in
      let both = calls_on s.recorder o (heard_in lines) room in
      subst (NotesCalls s (b ∷ input) room) (sym calls)
      (notes_next s b input room (ended s) (room_ended s room) (step_heard s b room e (refl, refl)) (rest.0 ∙ both.0, rest.1 ∙ both.1))

  -- any other byte makes the line longer
  line_goes : (input room : List ℕ) → Holds s line → (b ≡ line_feed → ⊥) → Again input (line ++ b ∷ []) → NotesCalls s (b ∷ input) room (heard_in (begun line (onto b (lines_of input))))
  line_goes input room h e again =
      subst (λ (lines : List (List ℕ)). NotesCalls s (b ∷ input) room (heard_in lines)) (sym (begun_more line b (lines_of input)))
      (notes_next s b input room _ room (step_kept s b room e) (again _ room (holds_kept h)))

as_lines : (input line : List ℕ) → Again input line
unfolding lines_of
as_lines [] line s room h = notes_end s line room h
as_lines (b ∷ input) line s room h = go (eqb b line_feed) refl (as_lines input)
  where
    go : (t : Bool) → eqb b line_feed ≡ t → ((begins : List ℕ) → Again input begins) → NotesCalls s (b ∷ input) room (heard_in (begun line (cond t ([] ∷ lines_of input) (onto b (lines_of input)))))
    go true e again = line_ended s line b input room h (eqb-true b line_feed e) (again [])
    go false e again = line_goes s line b input room h (eqb-false b line_feed e) (again (line ++ b ∷ []))

-- ---- piece after piece
fed_append : (s : Logbook) (a b room : List ℕ) → (fed_of s (a ++ b) ≡ fed_of (fed_of s a) b) × (room_fed s (a ++ b) room ≡ room_fed (fed_of s a) b (room_fed s a room))
unfolding fed_of room_fed
fed_append s [] b room = (refl, refl)
fed_append s (x ∷ a) b room = fed_append (step_of s x) a b (room_step s x room)

as_one : (s : Logbook) (pieces : List (List ℕ)) (room : List ℕ) → (pieces_of s pieces ≡ fed_of s (joined pieces)) × (room_pieces s pieces room ≡ room_fed s (joined pieces) room)
unfolding pieces_of room_pieces joined fed_of room_fed
as_one s [] room = (refl, refl)
as_one s (piece ∷ pieces) room =
    let rest = as_one (fed_of s piece) pieces (room_fed s piece room) in
    let both = fed_append s piece (joined pieces) room in
    (rest.0 ∙ sym both.0, rest.1 ∙ sym both.1)

pub fed_in_pieces : (pieces : List (List ℕ)) (room : List ℕ) → FedInPieces pieces room
unfolding begun
fed_in_pieces pieces room =
    let one = as_one fresh_logbook pieces room in
    let all = as_lines (joined pieces) [] fresh_logbook room (holds_none fresh_logbook refl refl) in
    record { recorder = ap (λ (s : Logbook). (finish_of s).recorder) one.0 ∙ all.0; events = (λ j. room_finished (one.0 j) (one.1 j)) ∙ all.1 }

-- ---- and then written
pub logs_sessions : LogsSessions
logs_sessions pieces events room enough m =
    let fed = fed_in_pieces pieces events in
    let wrote = (writes_logs (calls_in (joined pieces)) events room m).0 enough in
    record { answer = rw (fed.recorder, fed.events) wrote.answer; bytes = rw (fed.recorder, fed.events) wrote.bytes }
