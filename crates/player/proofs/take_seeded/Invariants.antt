use Rattle.std.proofs.Common.{◌≡◌, length}
use Rattle.std.specs.List.{AllByRecursion}
use Rattle.backplane.specs.Machine.{IsBoard}
use Rattle.backplane.specs.Moves.{after_turns}
use Rattle.player.proofs.take_seeded.Given as goal

abbrev pub invariant-loop-turn : goal.invariant-loop-turn
invariant-loop-turn l = record {
  machine : after_turns l.machine l.turns ≡ after_turns l.initial.machine l.initial.turns;
  boards : AllByRecursion (IsBoard l.initial.machine) l.turns;
}

abbrev pub decreases-loop-turn : goal.decreases-loop-turn
decreases-loop-turn l = length l.turns
