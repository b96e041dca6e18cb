-- What is written after any calls. Where the events fit the room lent for them, what is lent to the writer is the log of the calls; where
-- they do not, the answer is 26, and from 16,377 words on that log is too long for any room.
use mathlib.Core.Path.{◌≡◌, refl, ◌∙◌}
use mathlib.Core.Bool.{Bool, true, false, cond}
use mathlib.Core.List.{List, [], ◌∷◌}
use mathlib.Core.Logic.{inl, inr}
use Prim.Native.Nat.{ℕ, ◌≤◌, ◌<◌}
use native.Mathlib.Decide.{dec_lt}
use native.Mathlib.Omega.{arith}
use borrow.Author.Tests.{lt-ltb, le-ltb}
use lib.ListN.{length, length-set}
use Rattle.station.specs.declared.Call.{Call}
use Rattle.std.specs.Prelude.{Err}
use Rattle.log_format.specs.declared.Unwritten.TheVariants.{TooLong}
use Rattle.log_format.specs.Words.{event_word}
use Rattle.log_writing.specs.Writing.{written_of, room_after}
use Rattle.log_writing.proofs.Writing.{writes}
use Rattle.logging.specs.Sorts.{Sort, beyond, opens_urgent, opens_fair, closes, happens, sort_of}
use Rattle.logging.specs.Logging.{log_of}
use Rattle.logging.proofs.Good.{is_good}
use Rattle.recorder.specs.declared.Recorder.{Recorder}
use Rattle.recorder.specs.Recording.{fresh_recorder, most_counted, note_of, room_by, room_noted}
use Rattle.recorder.specs.Laws.{recorded, room_from}
use Rattle.recorder.specs.Laws as recorder
use Rattle.recorder.proofs.Recorded.{records}
use Rattle.recorded.specs.Recorded.{held_log}
use Rattle.recorded.specs.Laws.{answer_after, Enough, WritesLog, WritesLogs}

-- ---- the room lent for the events keeps its length
noted_long : (r : Recorder) (call : Call) (room : List ℕ) → length (room_noted r call room) ≡ length room
noted_long r call room = go r.ended (sort_of call)
  where
    go : (t : Bool) (x : Sort) → length (cond t room (room_by r x room)) ≡ length room
    go true x = refl
    go false beyond = refl
    go false (opens_urgent flow deadline) = refl
    go false (opens_fair flow weight) = refl
    go false closes = refl
    go false (happens e) = length-set room r.events (event_word e)

room_long : (r : Recorder) (calls : List Call) (room : List ℕ) → length (room_from r calls room) ≡ length room
unfolding room_from
room_long r [] room = refl
room_long r (call ∷ calls) room = room_long (note_of r call) calls (room_noted r call room) ∙ noted_long r call room

module _ (calls : List Call) (events room : List ℕ) (m : length events < most_counted) where
  abbrev after : List ℕ
  after = recorder.room_after calls events

  long : length after ≡ length events
  long = room_long fresh_recorder calls events

  -- more events than words: 26, whatever is held
  over : length events < (recorded calls).events → answer_after calls events (length room) ≡ Err TooLong
  over h = rw (lt-ltb (length after) (recorded calls).events (omega (arith, long)))

  -- and with 16,377 words the log is then above the most bytes
  too_long : 16377 ≤ length events → length events < (recorded calls).events → written_of (log_of calls) (length room) ≡ Err TooLong
  too_long l h = (writes (log_of calls) (length room)).is_long (is_good calls) (λ a b. omega (arith, (records calls).too_long events l h))

  -- the events fit: what is held is the log
  held : (recorded calls).events ≤ length events → held_log (recorded calls) after ≡ log_of calls
  held h = (records calls).lent events m h

  abbrev Same : Type 0
  Same =
      (answer_after calls events (length room) ≡ written_of (log_of calls) (length room))
      × (room_after (answer_after calls events (length room)) (held_log (recorded calls) after) room ≡ room_after (written_of (log_of calls) (length room)) (log_of calls) room)

  fit : (recorded calls).events ≤ length events → Same
  fit h = rw (le-ltb (length after) (recorded calls).events (omega (arith, long)), held h) (refl, refl)

  same : Enough calls events → Same
  same (inl few) = fit (omega (arith, (records calls).count, few))
  same (inr many) = go (dec_lt (length events) (recorded calls).events)
    where
      go : Dec (length events < (recorded calls).events) → Same
      go (yes h) = rw (over h, too_long many h) (refl, refl)
      go (no h) = fit (omega arith)

  its_writes : Enough calls events → WritesLog calls events room
  its_writes enough =
      let w = writes (log_of calls) (length room) in
      let s = same enough in
      record {
        answer = s.0;
        bytes = s.1;
        long = λ h. s.0 ∙ w.is_long (is_good calls) h;
        fits = λ h k. s.0 ∙ w.is_length (is_good calls) h k;
      }

pub writes_logs : WritesLogs
writes_logs calls events room m = (its_writes calls events room m, λ h. over calls events room m (omega (arith, (records calls).count, h)))
