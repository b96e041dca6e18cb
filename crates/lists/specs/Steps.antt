-- The reading of lists, byte by byte, as the program keeps it: of a list no more than seventeen declarations.
use Rattle.std.specs.Prelude.{cond, List, [], ℕ, ◌+◌, min, eqb, ltb, take, set, replicate, Err}
use Rattle.units.specs.declared.Refusal.TheVariants.{NoCommand}
use Rattle.link.specs.declared.Declaration.{Declaration}
use Rattle.link.specs.Verdict.{Verdict}
use Rattle.link.specs.declared.Objection.TheVariants.{Refused}
use Rattle.link.specs.Limits.{no_declaration}
use Rattle.link.specs.Verdicts.{admit_of}
use Rattle.text.specs.Reading.{blank}
use Rattle.text.specs.Lines.{line_feed}
use Rattle.text.specs.Feeding.{Step}
use Rattle.lists.specs.declared.Reading.{Reading}
use Rattle.lists.specs.Reading.{fresh_hand, takes_of, whole_at, declared}
use Rattle.lists.specs.Printing.{verdict_line}

-- before any byte of a line
abbrev pub fresh_reading : Reading
fresh_reading = record { hand = fresh_hand; count = 0; items = replicate 17 no_declaration }

-- one declaration more; past seventeen none is kept, and seventeen are too many already
abbrev pub put_of : Reading → Declaration → Reading
put_of r d =
    cond (ltb r.count 17)
    (record { hand = r.hand; count = r.count + 1; items = set r.items r.count d })
    r

-- the reading with the declaration at hand, where it is whole
abbrev pub filled_of : Reading → Reading
filled_of r = cond (whole_at r.hand) (put_of r (declared r.hand)) r

-- one byte more of a line
abbrev pub keeping_of : Reading → ℕ → Reading
keeping_of r b =
    let kept = cond (eqb b blank) (filled_of r) r in
    record { hand = takes_of r.hand b; count = kept.count; items = kept.items }

-- the declarations kept
abbrev pub kept_by : Reading → List Declaration
kept_by r = take (min r.count 17) r.items

-- the verdict on the line, were it at its end
abbrev pub judged_by : Reading → Verdict
judged_by r =
    cond r.hand.some
    (cond (whole_at r.hand) (admit_of (kept_by (filled_of r))) (Err (Refused NoCommand)))
    (admit_of [])

-- one byte: a line feed ends the line, which is answered, and the next one begins
unfoldable pub step_of : Reading → ℕ → Step Reading
step_of r b = cond (eqb b line_feed) (record { state = fresh_reading; text = verdict_line (judged_by r) }) (record { state = keeping_of r b; text = [] })

-- at the end of the input a line that has a byte is answered as if it had its line feed
abbrev pub finish_of : Reading → List ℕ
finish_of r = cond r.hand.some (verdict_line (judged_by r)) []
