-- `log_table::table::read_table`: the first thing that is wrong in the first byte and the three entries, or what is stated.
use Rattle.std.proofs.Common.{refl, ap}
use Rattle.std.proofs.lemmas.Result.{err_from_is_err_and}
use Rattle.log_table.specs.declared.Lengths.{Lengths}
use Rattle.log_table.proofs.Laws.{first_wrong, urgent_wrong, fair_wrong, events_wrong, stated, fits}
use Rattle.log_table.proofs.table.read_table.Goals as goal

pub returns-in_err-form-clause-value : goal.returns-in_err-form-clause-value
returns-in_err-form-clause-value c =
    let p = err_from_is_err_and c.from_residual.result c.from_residual.ensures.1 in
    rw (p.1, p.2) (first_wrong c.args.log.now _ _ _ refl refl refl _ _ _ refl refl refl _ c.in_err-form.ensures)

pub returns-in_err-entry-clause-value : goal.returns-in_err-entry-clause-value
returns-in_err-entry-clause-value c =
    let p = err_from_is_err_and c.from_residual-in_err-entry.result c.from_residual-in_err-entry.ensures.1 in
    rw (p.1, p.2)
    (urgent_wrong c.args.log.now _ _ _ (ap (λ (l : Lengths). l.urgent) c.stated-urgent.ensures.value) (ap (λ (l : Lengths). l.fair) c.stated-urgent.ensures.value) (ap (λ (l : Lengths). l.events) c.stated-urgent.ensures.value) _ _ _ c.bad_opening_length.ensures refl refl _ c.in_ok-form.ensures _ c.in_err-entry.ensures)

pub returns-in_err-entry-2-clause-value : goal.returns-in_err-entry-2-clause-value
returns-in_err-entry-2-clause-value c =
    let p = err_from_is_err_and c.from_residual-in_err-entry-2.result c.from_residual-in_err-entry-2.ensures.1 in
    rw (p.1, p.2)
    (fair_wrong c.args.log.now _ _ _ (ap (λ (l : Lengths). l.urgent) c.stated-urgent.ensures.value) (ap (λ (l : Lengths). l.fair) c.stated-urgent.ensures.value) (ap (λ (l : Lengths). l.events) c.stated-urgent.ensures.value) _ _ _ c.bad_opening_length.ensures c.bad_opening_length-2.ensures refl _ c.in_ok-form.ensures c.in_ok-entry.ensures _ c.in_err-entry-2.ensures)

pub returns-in_err-entry-3-clause-value : goal.returns-in_err-entry-3-clause-value
returns-in_err-entry-3-clause-value c =
    let p = err_from_is_err_and c.from_residual-in_err-entry-3.result c.from_residual-in_err-entry-3.ensures.1 in
    rw (p.1, p.2)
    (events_wrong c.args.log.now _ _ _ (ap (λ (l : Lengths). l.urgent) c.stated-urgent.ensures.value) (ap (λ (l : Lengths). l.fair) c.stated-urgent.ensures.value) (ap (λ (l : Lengths). l.events) c.stated-urgent.ensures.value) _ _ _ c.bad_opening_length.ensures c.bad_opening_length-2.ensures c.bad_event_length.ensures _ c.in_ok-form.ensures c.in_ok-entry.ensures c.in_ok-entry-2.ensures _ c.in_err-entry-3.ensures)

pub returns-clause-value : goal.returns-clause-value
returns-clause-value c =
    stated c.args.log.now _ _ _ (ap (λ (l : Lengths). l.urgent) c.stated-urgent.ensures.value) (ap (λ (l : Lengths). l.fair) c.stated-urgent.ensures.value) (ap (λ (l : Lengths). l.events) c.stated-urgent.ensures.value) _ _ _ c.bad_opening_length.ensures c.bad_opening_length-2.ensures c.bad_event_length.ensures _ c.in_ok-form.ensures c.in_ok-entry.ensures c.in_ok-entry-2.ensures c.in_ok-entry-3.ensures

pub returns-clause-upper_bound : goal.returns-clause-upper_bound
returns-clause-upper_bound c =
    fits c.args.log.now _ _ _ (ap (λ (l : Lengths). l.urgent) c.stated-urgent.ensures.value) (ap (λ (l : Lengths). l.fair) c.stated-urgent.ensures.value) (ap (λ (l : Lengths). l.events) c.stated-urgent.ensures.value) _ _ _ c.bad_opening_length.ensures c.bad_opening_length-2.ensures c.bad_event_length.ensures _ c.in_ok-form.ensures c.in_ok-entry.ensures c.in_ok-entry-2.ensures c.in_ok-entry-3.ensures
