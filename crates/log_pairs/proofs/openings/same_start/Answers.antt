-- `log_pairs::openings::same_start`: another form, other counts, and then the openings.
use Rattle.std.proofs.Common.{◌≡◌, sym, ◌∙◌, arith}
use Rattle.log_pairs.proofs.Starts.{urgent_within, fair_within, small, other_form, other_urgent_count, other_fair_count, both_bodies, forms_same, forms_differ}
use Rattle.log_pairs.proofs.openings.same_start.Goals as goal
use Rattle.log_pairs.proofs.openings.same_start.Goals.{then-ne-via-then-ne, then-ne-via-else-ne+then-x-y, then-ne-via-else-ne+else-x-y+then-x-y-2}

pub returns-then-ne : goal.returns-then-ne
returns-then-ne c =
    let a = c.args in
    elim c.then-ne.branch [
      | then-ne-via-then-ne w ↦ other_form a.a.now a.b.now a.x a.y c.requires.0 c.requires.1 (forms_differ a.x.form a.y.form w.if-ne.ensures)
      | then-ne-via-else-ne+then-x-y w ↦ other_urgent_count a.a.now a.b.now a.x a.y c.requires.0 c.requires.1 w.if-x-y.true
      | then-ne-via-else-ne+else-x-y+then-x-y-2 w ↦ other_fair_count a.a.now a.b.now a.x a.y c.requires.0 c.requires.1 w.if-x-y-2.true
    ]

pub overflow_mul-fair : goal.overflow_mul-fair
overflow_mul-fair c = let a = c.args in omega (arith, small a.a.now a.b.now a.x a.y c.requires.0 c.requires.1)

pub overflow_add-fair : goal.overflow_add-fair
overflow_add-fair c = let a = c.args in omega (arith, small a.a.now a.b.now a.x a.y c.requires.0 c.requires.1)

pub same_openings-requires : goal.same_openings-requires
same_openings-requires c =
    let a = c.args in
    urgent_within a.a.now a.b.now a.x a.y c.requires.0 c.requires.1 c.if-x-y.false

pub same_openings-requires-then-same_openings : goal.same_openings-requires-then-same_openings
same_openings-requires-then-same_openings c =
    let a = c.args in
    fair_within a.a.now a.b.now a.x a.y c.requires.0 c.requires.1 c.if-x-y.false c.if-x-y-2.false

pub returns-then-same_openings : goal.returns-then-same_openings
returns-then-same_openings c =
    let a = c.args in
    let form : a.x.form ≡ a.y.form = forms_same a.x.form a.y.form c.if-ne.ensures in
    let both = both_bodies a.a.now a.b.now a.x a.y c.requires.0 c.requires.1 form c.if-x-y.false c.if-x-y-2.false in
    rw (sym c.same_openings.ensures ∙ c.if-same_openings.true, sym c.same_openings-then-same_openings.ensures) at both

pub returns-else-same_openings : goal.returns-else-same_openings
returns-else-same_openings c =
    let a = c.args in
    let form : a.x.form ≡ a.y.form = forms_same a.x.form a.y.form c.if-ne.ensures in
    let both = both_bodies a.a.now a.b.now a.x a.y c.requires.0 c.requires.1 form c.if-x-y.false c.if-x-y-2.false in
    c.if-same_openings.false ∙ rw (sym c.same_openings.ensures ∙ c.if-same_openings.false) at both
