use Rattle.run_text.specs.RunText.{board_copies}
use Rattle.backplane.specs.Machine.{configuration}
use Rattle.run_text.specs.Printing.{Pages}
use Rattle.run_text.proofs.run.print_copies.Given as goal

abbrev pub invariant-loop-number : goal.invariant-loop-number
invariant-loop-number g l = record {
  paged :
      Pages (g.K.Sink.faults l.initial.sink) (g.K.Sink.faults l.sink) (g.K.Sink.taken l.initial.sink)
      (g.K.Sink.taken l.sink) l.initial.printer l.printer (board_copies (configuration l.machine) l.number l.board);
}
