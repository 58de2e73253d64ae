use Rattle.std.proofs.Common.{◌≡◌, true, take, drop}
use Rattle.generator.specs.Tables.{with_local_rows, local_rows_fit}
use Rattle.generator.proofs.rows.add_locals.Given as goal

-- the alternatives so far, and room for the others
abbrev pub invariant-loop-row : goal.invariant-loop-row
invariant-loop-row l = record {
  table : l.table ≡ with_local_rows l.initial.table (take l.row-index l.rows);
  fits : local_rows_fit l.table (drop l.row-index l.rows) ≡ true;
}
