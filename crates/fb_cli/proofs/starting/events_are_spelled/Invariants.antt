use Rattle.std.proofs.Common.{take, drop}
use Rattle.std.specs.List.{AllByRecursion}
use Rattle.trace_text.specs.Ranges.{InRange}
use Rattle.run_text.specs.RunLines.{IsTyped}
use Rattle.fb_cli.proofs.starting.events_are_spelled.Given as goal

abbrev pub invariant-loop-event : goal.invariant-loop-event
invariant-loop-event l = record {
  ahead : AllByRecursion (λ event. IsTyped event → InRange event) (drop l.event-index l.events);
  behind : AllByRecursion InRange (take l.event-index l.events);
}
