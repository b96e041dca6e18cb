-- The recorder after a list of calls. Before the first event it holds what was opened so far; after it, what was opened and the
-- number of events, capped; once the log has ended it stays. The room has the events' words from its start on.
use mathlib.Core.Path.{◌≡◌, refl, sym, ◌∙◌, ap}
use mathlib.Core.Bool.{Bool, true, false}
use mathlib.Core.List.{List, [], ◌∷◌, ◌++◌, map, append_assoc}
use Prim.Native.Nat.{ℕ, suc, ◌+◌, ◌≤◌, ◌<◌, min}
use native.Mathlib.Nat.{min-eq_left, min-eq_right, min-le_left}
use native.Mathlib.Decide.{dec_le}
use native.Mathlib.Omega.{arith}
use lib.ListN.{length, set, take, drop, length-append, length-set}
use lib.Seq.{sets, set_at, set_out, take-nil, take_all, take_at}
use Rattle.station.specs.declared.Call.{Call}
use Rattle.log_format.specs.declared.Form.TheVariants.{Own}
use Rattle.log_format.specs.Format.{Log, Event}
use Rattle.log_format.specs.Words.{opening_word, event_word, lent_log}
use Rattle.recorder.specs.declared.Recorder.{Recorder}
use Rattle.logging.specs.Sorts.{Sort, beyond, opens_urgent, opens_fair, closes, happens, sort_of}
use Rattle.logging.specs.Listing.{openings_of}
use Rattle.logging.specs.Logging.{Opened, nothing_opened, with_urgent, with_fair, listed, events_by, events_of, log_with, log_of}
use Rattle.recorder.specs.Recording.{fresh_recorder, most_counted, note_by, note_of, room_by, room_noted}
use Rattle.recorder.specs.Laws.{recorded_from, room_from, recorded, room_after, words_in, NotesOn, Records}
use Rattle.logging.proofs.Halves.{start_by, events_in, after_by, opened_after, log_is}
use Rattle.logging.proofs.Good.{is_good}
use Rattle.logging.proofs.Lent.{lent_back}

-- ---- the count, capped
abbrev capped : ℕ → ℕ
capped k = min k most_counted

capped_next : (k : ℕ) → min (capped k + 1) most_counted ≡ capped (suc k)
capped_next k = go (dec_le k most_counted)
  where
    go : Dec (k ≤ most_counted) → min (capped k + 1) most_counted ≡ capped (suc k)
    go (yes l) = let s : k + 1 ≡ suc k = omega arith in ap (λ (n : ℕ). min (n + 1) most_counted) (min-eq_left l) ∙ ap capped s
    go (no l) =
        ap (λ (n : ℕ). min (n + 1) most_counted) (min-eq_right {n = most_counted} {m = k} (omega arith))
        ∙ min-eq_right {n = most_counted} {m = most_counted + 1} (omega arith)
        ∙ sym (min-eq_right {n = most_counted} {m = suc k} (omega arith))

capped_set : (room : List ℕ) (k w : ℕ) → length room < most_counted → set room (capped k) w ≡ set room k w
capped_set room k w l = go (dec_le k most_counted)
  where
    go : Dec (k ≤ most_counted) → set room (capped k) w ≡ set room k w
    go (yes m) = ap (λ (n : ℕ). set room n w) (min-eq_left m)
    go (no m) =
        ap (λ (n : ℕ). set room n w) (min-eq_right {n = most_counted} {m = k} (omega arith))
        ∙ set_out room most_counted w (omega arith)
        ∙ sym (set_out room k w (omega arith))

-- ---- words put from a place on
sets_out : (ws room : List ℕ) (k : ℕ) → length room ≤ k → sets room k ws ≡ room
sets_out [] room k l = refl
sets_out (w ∷ ws) room k l = ap (λ (t : List ℕ). sets t (suc k) ws) (set_out room k w l) ∙ sets_out ws room (suc k) (omega arith)

sets_over : (ws pre room : List ℕ) (k : ℕ) → length pre ≡ k → sets (pre ++ room) k ws ≡ pre ++ (take (length room) ws ++ drop (length ws) room)
sets_over [] pre room k e = ap (λ (t : List ℕ). pre ++ (t ++ room)) (sym (take-nil (length room)))
sets_over (w ∷ ws) pre [] k e = sets_out (w ∷ ws) (pre ++ []) k (omega (arith, length-append {A = ℕ} pre [], e))
sets_over (w ∷ ws) pre (x ∷ room) k e =
    let rest = take (length room) ws ++ drop (length ws) room in
    ap (λ (t : List ℕ). sets t (suc k) ws) (set_at pre x room w k e ∙ sym (append_assoc pre (w ∷ []) room))
    ∙ sets_over ws (pre ++ (w ∷ [])) room (suc k) (length-append pre (w ∷ []) ∙ omega (arith, e))
    ∙ append_assoc pre (w ∷ []) rest

-- ---- the states
abbrev state : Opened → Bool → Bool → ℕ → Recorder
state o begun ended n = record { deadlines = o.deadlines; weights = o.weights; begun = begun; ended = ended; events = n }

abbrev words : List Event → List ℕ
words es = map event_word es

ended_stays : (o : Opened) (begun : Bool) (n : ℕ) (calls : List Call) → recorded_from (state o begun true n) calls ≡ state o begun true n
unfolding recorded_from
ended_stays o begun n [] = refl
ended_stays o begun n (call ∷ calls) = ended_stays o begun n calls

ended_room : (o : Opened) (begun : Bool) (n : ℕ) (calls : List Call) (room : List ℕ) → room_from (state o begun true n) calls room ≡ room
unfolding room_from
ended_room o begun n [] room = refl
ended_room o begun n (call ∷ calls) room = ended_room o begun n calls room

-- what was opened, and the number of events
abbrev Reached : Opened → ℕ → Recorder → Type 0
Reached o n r = (r.deadlines ≡ o.deadlines) × (r.weights ≡ o.weights) × (r.events ≡ capped n)

ended_reached : (o : Opened) (begun : Bool) (k n : ℕ) (calls : List Call) → k ≡ n → Reached o n (recorded_from (state o begun true (capped k)) calls)
ended_reached o begun k n calls e = rw (ended_stays o begun (capped k) calls) (refl, refl, ap capped e)

-- after the first event
on_reached : (o : Opened) (calls : List Call) (k : ℕ) → Reached o (k + length (events_of calls)) (recorded_from (state o true false (capped k)) calls)
unfolding recorded_from events_of
on_reached o [] k = let e : k ≡ k + 0 = omega arith in (refl, refl, ap capped e)
on_reached o (call ∷ calls) k = go (sort_of call) (λ j. on_reached o calls j)
  where
    go : (x : Sort) → ((j : ℕ) → Reached o (j + length (events_of calls)) (recorded_from (state o true false (capped j)) calls))
        → Reached o (k + length (events_by x (events_of calls))) (recorded_from (note_by (state o true false (capped k)) x) calls)
    go beyond again = again k
    go (opens_urgent flow deadline) again = ended_reached o true k (k + 0) calls (omega arith)
    go (opens_fair flow weight) again = ended_reached o true k (k + 0) calls (omega arith)
    go closes again = ended_reached o true k (k + 0) calls (omega arith)
    go (happens e) again =
        let s : suc k + length (events_of calls) ≡ k + suc (length (events_of calls)) = omega arith in
        let h = again (suc k) in
        rw (capped_next k) (h.0, h.1, h.2 ∙ ap capped s)

on_room : (o : Opened) (calls : List Call) (k : ℕ) (room : List ℕ) → length room < most_counted
    → room_from (state o true false (capped k)) calls room ≡ sets room k (words (events_of calls))
unfolding room_from events_of
on_room o [] k room l = refl
on_room o (call ∷ calls) k room l = go (sort_of call) (λ j r. on_room o calls j r)
  where
    go : (x : Sort)
        → ((j : ℕ) (r : List ℕ) → length r < most_counted → room_from (state o true false (capped j)) calls r ≡ sets r j (words (events_of calls)))
        → room_from (note_by (state o true false (capped k)) x) calls (room_by (state o true false (capped k)) x room)
        ≡ sets room k (words (events_by x (events_of calls)))
    go beyond again = again k room l
    go (opens_urgent flow deadline) again = ended_room o true (capped k) calls room
    go (opens_fair flow weight) again = ended_room o true (capped k) calls room
    go closes again = ended_room o true (capped k) calls room
    go (happens e) again =
        rw (capped_next k, capped_set room k (event_word e) l) (again (suc k) (set room k (event_word e)) (omega (arith, length-set room k (event_word e))))

-- from the start
start_reached : (o : Opened) (calls : List Call) → Reached (opened_after o calls) (length (events_in calls)) (recorded_from (state o false false 0) calls)
unfolding recorded_from opened_after events_in
start_reached o [] = (refl, refl, refl)
start_reached o (call ∷ calls) = go (sort_of call) (λ p. start_reached p calls)
  where
    go : (x : Sort) → ((p : Opened) → Reached (opened_after p calls) (length (events_in calls)) (recorded_from (state p false false 0) calls))
        → Reached (after_by o x (λ (p : Opened). opened_after p calls)) (length (start_by x (events_in calls) (events_of calls))) (recorded_from (note_by (state o false false 0) x) calls)
    go beyond again = again o
    go (opens_urgent flow deadline) again = again (with_urgent o flow deadline)
    go (opens_fair flow weight) again = again (with_fair o flow weight)
    go closes again = ended_reached o false 0 0 calls refl
    go (happens e) again =
        let s : 1 + length (events_of calls) ≡ suc (length (events_of calls)) = omega arith in
        let h = on_reached o calls 1 in
        (h.0, h.1, h.2 ∙ ap capped s)

start_room : (o : Opened) (calls : List Call) (room : List ℕ) → length room < most_counted
    → room_from (state o false false 0) calls room ≡ sets room 0 (words (events_in calls))
unfolding room_from events_in
start_room o [] room l = refl
start_room o (call ∷ calls) room l = go (sort_of call) (λ p. start_room p calls room l)
  where
    go : (x : Sort) → ((p : Opened) → room_from (state p false false 0) calls room ≡ sets room 0 (words (events_in calls)))
        → room_from (note_by (state o false false 0) x) calls (room_by (state o false false 0) x room) ≡ sets room 0 (words (start_by x (events_in calls) (events_of calls)))
    go beyond again = again o
    go (opens_urgent flow deadline) again = again (with_urgent o flow deadline)
    go (opens_fair flow weight) again = again (with_fair o flow weight)
    go closes again = ended_room o false 0 calls room
    go (happens e) again = on_room o calls 1 (set room 0 (event_word e)) (omega (arith, length-set room 0 (event_word e)))

-- ---- the laws
on_from_lem : (r : Recorder) (xs ys : List Call) → recorded_from r (xs ++ ys) ≡ recorded_from (recorded_from r xs) ys
unfolding recorded_from
on_from_lem r [] ys = refl
on_from_lem r (x ∷ xs) ys = on_from_lem (note_of r x) xs ys

room_on_from : (r : Recorder) (xs ys : List Call) (room : List ℕ) → room_from r (xs ++ ys) room ≡ room_from (recorded_from r xs) ys (room_from r xs room)
unfolding recorded_from room_from
room_on_from r [] ys room = refl
room_on_from r (x ∷ xs) ys room = room_on_from (note_of r x) xs ys (room_noted r x room)

pub notes_on : (xs ys : List Call) → NotesOn xs ys
notes_on xs ys = record { state = on_from_lem fresh_recorder xs ys; room = room_on_from fresh_recorder xs ys }

pub listed_words : (ns : List ℕ) → words_in (openings_of ns) ≡ map opening_word (listed 0 ns)
listed_words ns = take_at (map opening_word (listed 0 ns)) _ (length (map opening_word (listed 0 ns))) refl

words_many : (es : List Event) → length (words es) ≡ length es
words_many [] = refl
words_many (e ∷ es) = ap suc (words_many es)

module _ (calls : List Call) where
  abbrev r : Recorder
  r = recorded calls

  abbrev log : Log
  log = log_of calls

  is : log ≡ log_with (opened_after nothing_opened calls) (events_in calls)
  is = log_is nothing_opened calls

  reached : Reached (opened_after nothing_opened calls) (length (events_in calls)) r
  reached = start_reached nothing_opened calls

  its_urgent : listed 0 r.deadlines ≡ log.urgent
  its_urgent = ap (listed 0) reached.0 ∙ ap (λ (l : Log). l.urgent) (sym is)

  its_fair : listed 0 r.weights ≡ log.fair
  its_fair = ap (listed 0) reached.1 ∙ ap (λ (l : Log). l.fair) (sym is)

  its_count : r.events ≡ capped (length log.events)
  its_count = reached.2 ∙ ap (λ (l : Log). capped (length l.events)) (sym is)

  abbrev kept : List ℕ → List ℕ
  kept room = take (length room) (words log.events) ++ drop (length log.events) room

  its_room : (room : List ℕ) → length room < most_counted → room_after calls room ≡ kept room
  its_room room l =
      start_room nothing_opened calls room l
      ∙ ap (λ (log : Log). sets room 0 (words log.events)) (sym is)
      ∙ sets_over (words log.events) [] room 0 refl
      ∙ ap (λ (n : ℕ). take (length room) (words log.events) ++ drop n room) (words_many log.events)

  -- the count tells the number of events where it is not at its cap
  told : r.events < most_counted → r.events ≡ length log.events
  told l = go (dec_le (length log.events) most_counted)
    where
      go : Dec (length log.events ≤ most_counted) → r.events ≡ length log.events
      go (yes m) = its_count ∙ min-eq_left m
      go (no m) = absurd (omega (arith, its_count ∙ min-eq_right {n = most_counted} {m = length log.events} (omega arith)))

  its_words : (room : List ℕ) → length room < most_counted → r.events ≤ length room → take r.events (room_after calls room) ≡ words log.events
  its_words room l m =
      let n = told (omega arith) in
      let k = words_many log.events in
      ap (take r.events) (its_room room l ∙ ap (λ (t : List ℕ). t ++ drop (length log.events) room) (take_all (length room) (words log.events) (omega (arith, n, k))))
      ∙ take_at (words log.events) (drop (length log.events) room) r.events (k ∙ sym n)

  lent_is : (room : List ℕ) → length room < most_counted → r.events ≤ length room
      → lent_log Own (words_in (openings_of r.deadlines)) (words_in (openings_of r.weights)) (take r.events (room_after calls room)) ≡ log
  lent_is room l m =
      let u = listed_words r.deadlines ∙ ap (map opening_word) its_urgent in
      let f = listed_words r.weights ∙ ap (map opening_word) its_fair in
      let e = its_words room l m in
      let form : log.form ≡ Own = ap (λ (l : Log). l.form) is in
      (λ i. lent_log (sym form i) (u i) (f i) (e i)) ∙ lent_back log (is_good calls)

  few : r.events ≤ length log.events
  few = omega (arith, its_count, min-le_left (length log.events) most_counted)

  pub records : Records calls
  records =
      record { urgent = its_urgent; fair = its_fair; count = its_count; kept = its_room; lent = lent_is; too_long = λ room l m. omega (arith, few) }
