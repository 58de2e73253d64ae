use Rattle.std.proofs.Common.{take}
use Rattle.std.specs.List.{flat_map}
use Rattle.run_text.specs.Lines.{entry_line}
use Rattle.run_text.specs.Printing.{Pages}
use Rattle.run_text.proofs.printer.Printer.replies.Given as goal

abbrev pub invariant-loop-entry : goal.invariant-loop-entry
invariant-loop-entry g l = record {
  paged :
      Pages (g.K.Sink.faults l.initial.sink) (g.K.Sink.faults l.sink) (g.K.Sink.taken l.initial.sink)
      (g.K.Sink.taken l.sink) l.initial.self l.self (flat_map entry_line (take l.entry-index l.entries));
}
