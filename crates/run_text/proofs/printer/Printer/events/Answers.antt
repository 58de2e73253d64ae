use Rattle.std.proofs.lemmas.Result.{err_from_is_err_and}
use Rattle.std.proofs.Common.{drop, suc, arith}
use Rattle.std.proofs.lemmas.Grind.{common_steps}
use Rattle.std.specs.List.{flat_map}
use Rattle.trace_text.specs.Spelling.{line_of_event}
use Rattle.run_text.proofs.Behind.{failed-behind, whole-behind, flat_map-at, flat_map-more}
use Rattle.run_text.proofs.printer.Printer.events.Goals as goal

pub returns-in_err-event-clause-paged : goal.returns-in_err-event-clause-paged
returns-in_err-event-clause-paged g c =
    let p = err_from_is_err_and c.from_residual.result c.from_residual.ensures.1 in
    let items = c.args.events.now in
    let at = c.loop-event.event-index in
    rw (p.1, p.2) (
    failed-behind (flat_map line_of_event (drop (suc at) items)) (flat_map line_of_event items) c.in_err-event.field-0.0
    (flat_map-at line_of_event items at c.event-item.result c.loop-event-test.true c.event-item.is)
    c.loop-event.invariant.paged c.in_err-event.ensures.paged)

pub loop-event-preserved : goal.loop-event-preserved
loop-event-preserved g c =
    let items = c.args.events.now in
    let at = c.loop-event.event-index in
    record {
      paged =
          whole-behind c.in_ok-event.field-0
          (flat_map-more line_of_event items at c.event-item.result c.loop-event-test.true c.event-item.is)
          c.loop-event.invariant.paged c.in_ok-event.ensures.paged;
      spelled = grind (arith, common_steps);
      in_range = grind (arith, common_steps);
    }
