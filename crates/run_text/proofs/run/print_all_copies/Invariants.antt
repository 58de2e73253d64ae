use Rattle.std.proofs.Common.{take}
use Rattle.bus_model.specs.Setup.{board_places, line_count}
use Rattle.run_text.specs.RunText.{all_copies}
use Rattle.backplane.specs.Machine.{configuration}
use Rattle.run_text.specs.Printing.{Pages}
use Rattle.run_text.proofs.run.print_all_copies.Given as goal

abbrev pub invariant-loop-place : goal.invariant-loop-place
invariant-loop-place g l = record {
  paged :
      Pages (g.K.Sink.faults l.initial.sink) (g.K.Sink.faults l.sink) (g.K.Sink.taken l.initial.sink)
      (g.K.Sink.taken l.sink) l.initial.printer l.printer
      (all_copies (configuration l.machine) (line_count l.machine.setup) (take l.place (board_places l.machine.setup)));
}
