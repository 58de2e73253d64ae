use Rattle.run_text.proofs.Behind.{flushed}
use Rattle.run_text.proofs.run.print_run.Goals as goal

pub returns-clause-printed : goal.returns-clause-printed
returns-clause-printed g c =
    flushed c.in_ok-print_run_through.field-0 c.finish.result c.new-printer.ensures
    c.in_ok-print_run_through.ensures.paged c.finish.ensures.printed
