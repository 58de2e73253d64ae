use Rattle.std.proofs.Common.{◌≡◌, drop}
use Rattle.std.specs.Prelude.{find}
use Rattle.bus_model.specs.Configuration.{is_copy}
use Rattle.audit.proofs.copies.row_of.Given as goal

abbrev pub invariant-loop-row : goal.invariant-loop-row
invariant-loop-row l = find (is_copy l.board l.line) l.rows ≡ find (is_copy l.board l.line) (drop l.row-index l.rows)
