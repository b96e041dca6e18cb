-- `admit` meets its contract: what is not held against the list lets its demand be summed.
use Rattle.std.proofs.Common.{sym, ◌∙◌}
use Rattle.admission.proofs.Settled.{few, short, soon}
use Rattle.admission.proofs.admit.Goals as goal

pub tested-requires : goal.tested-requires
tested-requires c =
    let none = sym c.grounds.ensures ∙ c.in_ok-grounds.was in
    record { few = few c.args.list.now none; short = short c.args.list.now none; soon = soon c.args.list.now none }
