-- `log_pairs::tail` meets its contract: nothing, or what the longer has past the shorter.
use Rattle.std.proofs.Common.{length, ◌∙◌}
use Rattle.log_pairs.proofs.Ends.{part_is, no_tail, second_tail, first_tail}
use Rattle.log_pairs.proofs.tail.Goals as goal

pub returns-then-not-one_begins : goal.returns-then-not-one_begins
returns-then-not-one_begins c =
    let a = c.args in
    part_is (length a.a.now) a.a.now ∙ no_tail a.a.now a.b.now _ c.one_begins.ensures c.if-not-one_begins.true

pub returns-then-n-m : goal.returns-then-n-m
returns-then-n-m c =
    let a = c.args in
    part_is (length a.a.now) a.b.now ∙ second_tail a.a.now a.b.now _ c.one_begins.ensures c.if-not-one_begins.false c.if-n-m.true

pub returns-else-n-m : goal.returns-else-n-m
returns-else-n-m c =
    let a = c.args in
    part_is (length a.b.now) a.a.now ∙ first_tail a.a.now a.b.now _ c.one_begins.ensures c.if-not-one_begins.false c.if-n-m.false
