use Rattle.std.proofs.Common.{◌≡◌, take}
use Rattle.std.specs.List.{AllByRecursion}
use Rattle.table_check.specs.Accepted.{InClass}
use Rattle.backplane.proofs.assembling.accepted.Given as goal

abbrev pub invariant-loop-i : goal.invariant-loop-i
invariant-loop-i l = (l.all.items ≡ take l.i l.tables) × AllByRecursion InClass (take l.i l.tables)
