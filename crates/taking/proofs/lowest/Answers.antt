-- Each return is the case of taking that its tests lead to.
use Rattle.std.proofs.Common.{◌≡◌, sym, ◌∙◌}
use Rattle.taking.proofs.Laws.{lowest_at, take_8, take_9, take_no_flow, take_ok}
use Rattle.taking.proofs.lowest.Goals as goal

pub returns-then-queue : goal.returns-then-queue
returns-then-queue c = take_8 c.args.queue.now c.args.flow c.if-queue.true

pub returns-in_default : goal.returns-in_default
returns-in_default c = take_no_flow c.args.queue.now c.args.flow c.if-queue.false (sym c.places-places.ensures.value ∙ c.places-places.ensures.none c.in_default.ensures.1)

pub returns-in_default-first : goal.returns-in_default-first
returns-in_default-first c = take_9 c.args.queue.now c.args.flow c.if-queue.false (rw c.places-places.ensures.value at c.in_default-first.ensures.choice)

pub returns : goal.returns
returns c =
    let chosen = rw c.places-places.ensures.value at c.in-Some.ensures.choice in (
      rw c.in-Ok.ensures.0 (lowest_at c.args.queue.now c.args.flow c.in-Some.k c.in-Some.packet chosen),
      rw c.in-Ok.ensures.0 (take_ok c.args.queue.now c.args.flow c.if-queue.false c.in-Some.k c.in-Some.packet chosen),
    )
