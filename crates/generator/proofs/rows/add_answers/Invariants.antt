use Rattle.std.proofs.Common.{◌≡◌, true, take, drop}
use Rattle.generator.specs.Tables.{with_answer_rows, answer_rows_fit}
use Rattle.generator.proofs.rows.add_answers.Given as goal

-- the alternatives so far, and room for the others
abbrev pub invariant-loop-row : goal.invariant-loop-row
invariant-loop-row l = record {
  table : l.table ≡ with_answer_rows l.initial.table (take l.row-index l.rows);
  fits : answer_rows_fit l.table (drop l.row-index l.rows) ≡ true;
}
