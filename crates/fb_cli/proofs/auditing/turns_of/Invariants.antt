use Rattle.std.proofs.Common.{◌≡◌, ◌++◌, length}
use Rattle.std.specs.List.{AllByRecursion}
use Rattle.audit.specs.First.{IsPlaceOf}
use Rattle.fb_cli.specs.Run.{turns_of}
use Rattle.fb_cli.proofs.auditing.turns_of.Given as goal

-- the turns so far and those that are left are those of the number, and are of boards
abbrev pub invariant-loop-turn : goal.invariant-loop-turn
invariant-loop-turn l = record {
  turns : l.turns.items ++ l.left ≡ turns_of l.fn.seed l.fn.setup;
  before : AllByRecursion (IsPlaceOf l.fn.setup) l.turns.items;
  after : AllByRecursion (IsPlaceOf l.fn.setup) l.left;
}

abbrev pub decreases-loop-turn : goal.decreases-loop-turn
decreases-loop-turn l = length l.left
