-- Each return is the case of `offer_of` that its tests lead to.
use Rattle.std.proofs.Common.{◌≡◌, length, sym, ◌∙◌, rules}
use Rattle.urgent.proofs.Calls.{offer_full, offer_late, offer_taken}
use Rattle.urgent.proofs.Urgent.to_offer.Goals as goal

pub returns-in_default : goal.returns-in_default
returns-in_default c =
    let e = c.in_ok-f.ensures in
    let l : length c.args.self.now.cells ≡ 256 = search rules in
    offer_full c.args.self.now c.args.flow c.args.deadline e.1 l (rw e.0 at c.if-not-self-f.false) (rw e.0 at (sym c.outside.ensures ∙ c.if-outside.false))
    (rw (c.places.ensures, e.0) at c.in_default.ensures)

pub returns-then-window_passes : goal.returns-then-window_passes
returns-then-window_passes c =
    let e = c.in_ok-f.ensures in
    let l : length c.args.self.now.cells ≡ 256 = search rules in
    let free = rw (c.places.ensures, e.0) at c.in-Some.ensures in
    offer_late c.args.self.now c.args.flow c.args.deadline e.1 l (rw e.0 at c.if-not-self-f.false) (rw e.0 at (sym c.outside.ensures ∙ c.if-outside.false))
    c.in-Some.k free.0 free.1 (sym c.window_passes.ensures ∙ c.if-window_passes.true)

pub returns : goal.returns
returns c =
    let e = c.in_ok-f.ensures in
    let l : length c.args.self.now.cells ≡ 256 = search rules in
    let free = rw (c.places.ensures, e.0) at c.in-Some.ensures in
    rw e.0 (offer_taken c.args.self.now c.args.flow c.args.deadline e.1 l (rw e.0 at c.if-not-self-f.false) (rw e.0 at (sym c.outside.ensures ∙ c.if-outside.false))
    c.in-Some.k free.0 free.1 (sym c.window_passes.ensures ∙ c.if-window_passes.false))
