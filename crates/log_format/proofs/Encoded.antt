-- A log's encoding is bytes.
use mathlib.Core.Path.{◌≡◌, refl}
use mathlib.Core.Bool.{Bool, true, false, cond, ◌||◌}
use mathlib.Core.List.{List, [], ◌∷◌, ◌++◌}
use Prim.Native.Nat.{ℕ, ◌+◌, ◌*◌, ◌/◌, ◌%◌, ◌<◌}
use native.Mathlib.Omega.{arith}
use borrow.Author.Tests.{ltb-false, eqb-true}
use lib.Dec.{ltb, eqb}
use lib.ListN.{length}
use Rattle.units.specs.Limits.{no_such_flow, bad_length}
use Rattle.log_format.specs.declared.Form.{Form}
use Rattle.log_format.specs.Format.{Opening, Event, Log, GoodLog, GoodOpenings, GoodEvents, Bytes, bad_cell, bad_event, four_bytes, table_bytes, opening_bytes, event_bytes, bytes_of, most_deadline, most_weight}
use Rattle.log_format.specs.Laws.{Encoded}
use Rattle.log_format.proofs.Forms.{first_small}
use Rattle.log_format.proofs.Tests.{or_false}
use Rattle.log_format.proofs.There.{opening_flow, size_of_lem}

join : (xs ys : List ℕ) → Bytes xs → Bytes ys → Bytes (xs ++ ys)
join [] ys a b = b
join (x ∷ xs) ys a b = (a.0, join xs ys a.1 b)

low : (n : ℕ) → n % 256 < 256
low n = omega arith

four : (n : ℕ) → Bytes (four_bytes n)
four n = (low n, (low (n / 256), (low (n / 65536), (low (n / 16777216), tt))))

table : (u f e : ℕ) → Bytes (table_bytes u f e)
table u f e =
    let s5 = four_bytes (25 + u + f) ++ four_bytes e in
    let s4 = four_bytes f ++ s5 in
    let s3 = four_bytes (25 + u) ++ s4 in
    let s2 = four_bytes u ++ s3 in
    join (four_bytes 25) s2 (four 25)
    (join (four_bytes u) s3 (four u)
    (join (four_bytes (25 + u)) s4 (four (25 + u))
    (join (four_bytes f) s5 (four f)
    (join (four_bytes (25 + u + f)) (four_bytes e) (four (25 + u + f)) (four e)))))

openings : (most least : ℕ) (os : List Opening) → GoodOpenings most least os → Bytes (opening_bytes os)
unfolding opening_bytes
openings most least [] g = tt
openings most least (o ∷ os) g =
    let f = opening_flow most least o.flow o.number g.0 in
    (omega (arith, f.1), (low o.number, (low (o.number / 256), openings most (o.flow + 1) os g.1)))

pub event_bytes_lem : (form : Form) (kind flow number : ℕ) → bad_event form kind flow number ≡ false → (kind < 256) × (flow < 256)
event_bytes_lem form kind flow number = go (eqb kind 3) refl (eqb kind 2) refl
  where
    go : (a : Bool) → eqb kind 3 ≡ a → (b : Bool) → eqb kind 2 ≡ b
        → cond a (no_such_flow flow || bad_length number) (cond b (no_such_flow flow || bad_cell form number) (ltb 5 kind || ltb 0 flow || ltb 0 number)) ≡ false → (kind < 256) × (flow < 256)
    go true p b q e = (omega (arith, eqb-true kind 3 p), omega (arith, ltb-false 15 flow (or_false (no_such_flow flow) (bad_length number) e).0))
    go false p true q e = (omega (arith, eqb-true kind 2 q), omega (arith, ltb-false 15 flow (or_false (no_such_flow flow) (bad_cell form number) e).0))
    go false p false q e =
        let h = or_false (ltb 5 kind) (ltb 0 flow) (or_false (ltb 5 kind || ltb 0 flow) (ltb 0 number) e).0 in
        (omega (arith, ltb-false 5 kind h.0), omega (arith, ltb-false 0 flow h.1))

events : (form : Form) (es : List Event) → GoodEvents form es → Bytes (event_bytes es)
unfolding event_bytes
events form [] g = tt
events form (e ∷ es) g =
    let h = event_bytes_lem form e.kind e.flow e.number g.0 in
    (h.0, (h.1, (low e.number, (low (e.number / 256), events form es g.1))))

all_bytes : (log : Log) → GoodLog log → Bytes (bytes_of log)
all_bytes log g =
    let u = 3 * length log.urgent in
    let f = 3 * length log.fair in
    let e = 4 * length log.events in
    let rest = opening_bytes log.fair ++ event_bytes log.events in (
      first_small log.form,
      join (table_bytes u f e) (opening_bytes log.urgent ++ rest) (table u f e)
          (join (opening_bytes log.urgent) rest (openings most_deadline 0 log.urgent g.urgent)
          (join (opening_bytes log.fair) (event_bytes log.events) (openings most_weight 0 log.fair g.fair) (events log.form log.events g.events))),
    )

pub encoded : (log : Log) → Encoded log
encoded log = record { size = size_of_lem log; bytes = all_bytes log }
