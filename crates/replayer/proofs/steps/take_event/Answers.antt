use Rattle.std.proofs.Common.{refl}
use Rattle.replayer.proofs.Stepping.{event_taken, event_refused}
use Rattle.replayer.proofs.steps.take_event.Goals as goal

pub returns-in-Ok-clause-place : goal.returns-in-Ok-clause-place
returns-in-Ok-clause-place c =
    event_taken c.args.machine.now c.apply.new.self c.args.event.now (c.in-Ok.ensures.exact.0 refl)
    c.in-Ok.ensures.applied

pub returns-in-Err-clause-place : goal.returns-in-Err-clause-place
returns-in-Err-clause-place c =
    event_refused c.args.machine.now c.apply.new.self c.next_line-line.result c.args.event.now
    (λ may. let ok = c.in-Err.ensures.exact.1 may in absurd cc) c.next_line-line.ensures
