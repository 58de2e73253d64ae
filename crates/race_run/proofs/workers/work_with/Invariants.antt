use Rattle.std.proofs.Common.{◌≡◌, ◌≤◌}
use Rattle.ruled_turn.specs.Entries.{GoesOn}
use Rattle.ruled_turn.specs.Seats.{number, seen, mine, turns}
use Rattle.race_run.specs.Workers.{IsSeat}
use Rattle.race_run.proofs.workers.work_with.Given as goal

abbrev pub invariant-loop : goal.invariant-loop
invariant-loop g l = record {
  own : IsSeat l.shared l.seat;
  number : number l.seat ≡ number l.initial.seat;
  seen : GoesOn (seen l.initial.seat) (seen l.seat);
  mine : GoesOn (mine l.initial.seat) (mine l.seat);
  turns : turns l.initial.seat ≤ turns l.seat;
}
