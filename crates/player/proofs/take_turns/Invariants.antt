use Rattle.std.proofs.Common.{◌≡◌, take, drop}
use Rattle.std.specs.List.{AllByRecursion}
use Rattle.backplane.specs.Machine.{IsBoard}
use Rattle.backplane.specs.Moves.{after_turns}
use Rattle.player.proofs.take_turns.Given as goal

abbrev pub invariant-loop-turn : goal.invariant-loop-turn
invariant-loop-turn l = record {
  machine : l.machine ≡ after_turns l.initial.machine (take l.turn-index l.turns);
  boards : AllByRecursion (IsBoard l.initial.machine) (drop l.turn-index l.turns);
}
