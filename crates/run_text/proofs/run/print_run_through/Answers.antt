use Rattle.std.proofs.lemmas.Result.{err_from_is_err_and}
use Rattle.run_text.proofs.Behind.{both-behind, failed-first}
use Rattle.run_text.proofs.run.print_run_through.Goals as goal

pub returns-in_err-print_journal-clause-paged : goal.returns-in_err-print_journal-clause-paged
returns-in_err-print_journal-clause-paged g c =
    let p = err_from_is_err_and c.from_residual.result c.from_residual.ensures.1 in
    rw (p.1, p.2) (failed-first _ c.in_err-print_journal.field-0.0 c.in_err-print_journal.ensures.paged)

pub returns-in_err-end-clause-paged : goal.returns-in_err-end-clause-paged
returns-in_err-end-clause-paged g c =
    let again = c.from_residual-in_err-end in
    let p = err_from_is_err_and again.result again.ensures.1 in
    rw (p.1, p.2)
    (both-behind c.in_ok-print_journal.field-0 _ c.in_ok-print_journal.ensures.paged
    (failed-first _ c.in_err-end.field-0.0 c.in_err-end.ensures.paged))

pub returns-clause-paged : goal.returns-clause-paged
returns-clause-paged g c =
    both-behind c.in_ok-print_journal.field-0 _ c.in_ok-print_journal.ensures.paged
    (both-behind c.in_ok-end.field-0 _ c.in_ok-end.ensures.paged c.print_ending_through.ensures.paged)
