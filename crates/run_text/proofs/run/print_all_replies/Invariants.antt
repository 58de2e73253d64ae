use Rattle.std.proofs.Common.{take}
use Rattle.bus_model.specs.Setup.{board_places}
use Rattle.bus_model.specs.Entries.{entries}
use Rattle.run_text.specs.RunText.{replies_text}
use Rattle.run_text.specs.Printing.{Pages}
use Rattle.run_text.proofs.run.print_all_replies.Given as goal

abbrev pub invariant-loop-place : goal.invariant-loop-place
invariant-loop-place g l = record {
  paged :
      Pages (g.K.Sink.faults l.initial.sink) (g.K.Sink.faults l.sink) (g.K.Sink.taken l.initial.sink)
      (g.K.Sink.taken l.sink) l.initial.printer l.printer
      (replies_text (entries l.machine.journal) (take l.place (board_places l.machine.setup)));
}
