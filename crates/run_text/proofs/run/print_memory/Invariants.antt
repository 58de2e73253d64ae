use Rattle.run_text.specs.RunText.{all_memory}
use Rattle.backplane.specs.Machine.{configuration}
use Rattle.run_text.specs.Printing.{Pages}
use Rattle.run_text.proofs.run.print_memory.Given as goal

abbrev pub invariant-loop-number : goal.invariant-loop-number
invariant-loop-number g l = record {
  paged :
      Pages (g.K.Sink.faults l.initial.sink) (g.K.Sink.faults l.sink) (g.K.Sink.taken l.initial.sink)
      (g.K.Sink.taken l.sink) l.initial.printer l.printer (all_memory (configuration l.machine) l.number);
}
