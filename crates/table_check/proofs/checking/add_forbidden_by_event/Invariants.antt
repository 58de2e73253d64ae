use Rattle.std.proofs.Common.{◌≡◌, ◌++◌, take}
use Rattle.std.specs.Prelude.{flat_map}
use Rattle.class_relation.specs.declared.Cell.{Cell}
use Rattle.table_check.specs.Accepted.{forbidden_faults}
use Rattle.table_check.proofs.checking.add_forbidden_by_event.Given as goal

abbrev pub invariant-loop-event : goal.invariant-loop-event
invariant-loop-event l =
    l.faults.items
    ≡ l.initial.faults.items
    ++ flat_map (λ event. forbidden_faults l.table (Cell.Answer l.state event)) (take l.event-index l.events)
