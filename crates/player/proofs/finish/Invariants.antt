use Rattle.std.proofs.Common.{◌≡◌, ◌+◌, ◌*◌, ◌-◌, ◌≤◌, length}
use Rattle.bus_model.specs.Setup.{access_count}
use Rattle.player.specs.Rounds.{AfterRounds}
use Rattle.player.proofs.finish.Given as goal

abbrev pub invariant-loop-made : goal.invariant-loop-made
invariant-loop-made l = record {
  rounds : AfterRounds l.initial.machine l.machine;
  bounded : length l.machine.journal ≤ 8 * access_count l.machine.setup;
}

abbrev pub decreases-loop-made : goal.decreases-loop-made
decreases-loop-made l = 8 * access_count l.machine.setup - length l.machine.journal
