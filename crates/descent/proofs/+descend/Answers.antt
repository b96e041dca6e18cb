-- `descend` meets its contract: by whether a step is left, and by what stands at the place that is found, if one is.
use Rattle.std.proofs.Common.{◌-◌, ◌∙◌, arith}
use Rattle.descent.specs.Descent.{least_child}
use Rattle.descent.proofs.Laws.{place_told, place_none, ends_here, meets_flow, goes_on}
use Rattle.descent.proofs.+descend.Goals as goal

pub returns-then-left-eq0 : goal.returns-then-left-eq0
returns-then-left-eq0 t c = ends_here c.args.left c.args.tree.now c.args.class c.if-left-eq0.true

pub returns-in-Some : goal.returns-in-Some
returns-in-Some t c =
    let a = c.args in
    let told = place_told (least_child a.tree.now a.class) c.in-Some.place _ c.in-Some.ensures.choice in
    meets_flow a.left (a.left - 1) (omega arith) a.tree.now a.class c.in-Some.place told c.if-place-ge31.true

pub returns-in-Some-2 : goal.returns-in-Some-2
returns-in-Some-2 t c =
    let a = c.args in
    let told = place_told (least_child a.tree.now a.class) c.in-Some.place _ c.in-Some.ensures.choice in
    c.descend.ensures ∙ goes_on a.left (a.left - 1) (omega arith) a.tree.now a.class c.in-Some.place told (omega arith)

pub returns-in-None : goal.returns-in-None
returns-in-None t c =
    let a = c.args in
    meets_flow a.left (a.left - 1) (omega arith) a.tree.now a.class 47 (place_none (least_child a.tree.now a.class) c.in-None.ensures.choice) (omega arith)
