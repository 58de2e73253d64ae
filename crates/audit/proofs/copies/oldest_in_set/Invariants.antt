use Rattle.std.proofs.Common.{◌≡◌, take}
use Rattle.std.specs.Prelude.{filter}
use Rattle.bus_model.specs.Board.{is_in_set, oldest}
use Rattle.audit.proofs.copies.oldest_in_set.Given as goal

abbrev pub invariant-loop-row : goal.invariant-loop-row
invariant-loop-row l = l.first ≡ oldest (filter (is_in_set l.board l.sets l.line) (take l.row-index l.rows))
