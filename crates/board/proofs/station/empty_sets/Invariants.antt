use Rattle.std.proofs.Common.{◌≡◌, length}
use Rattle.board.specs.Sets.{AllEmpty}
use Rattle.board.proofs.station.empty_sets.Given as goal

abbrev pub invariant-loop : goal.invariant-loop
invariant-loop l = record {
  long : length l.sets.items ≡ l.counter;
  empty : AllEmpty l.ways l.sets.items;
}
