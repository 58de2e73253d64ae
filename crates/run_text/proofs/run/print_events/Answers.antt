use Rattle.run_text.proofs.Behind.{flushed}
use Rattle.run_text.proofs.run.print_events.Goals as goal

pub returns : goal.returns
returns g c =
    record {
      printed =
          flushed c.in_ok-print_events_through.field-0 c.finish.result c.new-printer.ensures
          c.in_ok-print_events_through.ensures.paged c.finish.ensures.printed;
    }
