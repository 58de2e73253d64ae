use Rattle.std.proofs.lemmas.Result.{err_from_is_err_and}
use Rattle.run_text.proofs.Behind.{both-behind, failed-first}
use Rattle.run_text.proofs.run.print_events_through.Goals as goal

pub returns-in_err-events : goal.returns-in_err-events
returns-in_err-events g c =
    let p = err_from_is_err_and c.from_residual.result c.from_residual.ensures.1 in
    rw (p.1, p.2)
    (record { paged = failed-first _ c.in_err-events.field-0.0 c.in_err-events.ensures.paged })

pub returns : goal.returns
returns g c =
    record { paged = both-behind c.in_ok-events.field-0 _ c.in_ok-events.ensures.paged c.text.ensures.paged }
