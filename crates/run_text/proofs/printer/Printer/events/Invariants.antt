use Rattle.std.proofs.Common.{take, drop}
use Rattle.std.specs.List.{AllByRecursion}
use Rattle.trace_text.specs.Ranges.{InRange}
use Rattle.run_text.specs.RunLines.{IsTyped}
use Rattle.run_text.specs.RunText.{events_text}
use Rattle.run_text.specs.Printing.{Pages}
use Rattle.run_text.proofs.printer.Printer.events.Given as goal

abbrev pub invariant-loop-event : goal.invariant-loop-event
invariant-loop-event g l = record {
  paged :
      Pages (g.K.Sink.faults l.initial.sink) (g.K.Sink.faults l.sink) (g.K.Sink.taken l.initial.sink)
      (g.K.Sink.taken l.sink) l.initial.self l.self (events_text (take l.event-index l.events));
  spelled : AllByRecursion (λ event. IsTyped event → InRange event) (drop l.event-index l.events);
  in_range : AllByRecursion InRange (take l.event-index l.events);
}
