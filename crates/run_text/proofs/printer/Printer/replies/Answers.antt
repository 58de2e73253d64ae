use Rattle.std.proofs.lemmas.Result.{err_from_is_err_and}
use Rattle.std.proofs.Common.{drop, suc}
use Rattle.std.specs.List.{flat_map}
use Rattle.run_text.specs.Lines.{entry_line}
use Rattle.run_text.proofs.Behind.{failed-behind, whole-behind, flat_map-at, flat_map-more}
use Rattle.run_text.proofs.printer.Printer.replies.Goals as goal

pub returns-in_err-reply : goal.returns-in_err-reply
returns-in_err-reply g c =
    let p = err_from_is_err_and c.from_residual.result c.from_residual.ensures.1 in
    let items = c.args.entries.now in
    let at = c.loop-entry.entry-index in
    record {
      paged = rw (p.1, p.2) (
          failed-behind (flat_map entry_line (drop (suc at) items)) (flat_map entry_line items) c.in_err-reply.field-0.0
          (flat_map-at entry_line items at c.entry-item.result c.loop-entry-test.true c.entry-item.is)
          c.loop-entry.invariant.paged c.in_err-reply.ensures.paged);
    }

pub loop-entry-preserved : goal.loop-entry-preserved
loop-entry-preserved g c =
    let items = c.args.entries.now in
    let at = c.loop-entry.entry-index in
    record {
      paged =
          whole-behind c.in_ok-reply.field-0
          (flat_map-more entry_line items at c.entry-item.result c.loop-entry-test.true c.entry-item.is)
          c.loop-entry.invariant.paged c.in_ok-reply.ensures.paged;
    }
