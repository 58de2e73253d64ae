use Rattle.std.proofs.Common.{◌≡◌, ◌+◌, ◌≤◌, drop}
use Rattle.bus_model.specs.Places.{count_where}
use Rattle.bus_model.specs.Board.{is_in_set}
use Rattle.audit.proofs.copies.count_in_set.Given as goal

abbrev pub invariant-loop-row : goal.invariant-loop-row
invariant-loop-row l = record {
  rest :
      count_where (is_in_set l.board l.sets l.line) l.rows
      ≡ l.count + count_where (is_in_set l.board l.sets l.line) (drop l.row-index l.rows);
  few : l.count ≤ l.row-index;
}
