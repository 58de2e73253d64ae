-- Tables that are made row by row.
use Rattle.std.specs.Prelude.{Bool, true, ◌&&◌, nat_lt, List, [], ◌∷◌, length}
use Rattle.class_relation.specs.Tables.{Table, with_local, with_answer, locals_of, answers_of, most_alternatives}
use Rattle.generator.specs.declared.rows.LocalRow.{LocalRow}
use Rattle.generator.specs.declared.rows.AnswerRow.{AnswerRow}

-- A table with the alternative of a row at the end of its cell.
abbrev pub with_local_row : Table → LocalRow → Table
with_local_row table row = with_local table row.0 row.1 (record { result = row.2; bus = row.3 })

abbrev pub with_answer_row : Table → AnswerRow → Table
with_answer_row table row =
    with_answer table row.0 row.1 (record { result = row.2; response = row.3 })

-- A table with the alternatives of all these rows, in their order.
abbrev pub with_local_rows : Table → List LocalRow → Table
with_local_rows table [] = table
with_local_rows table (row ∷ rows) = with_local_rows (with_local_row table row) rows

abbrev pub with_answer_rows : Table → List AnswerRow → Table
with_answer_rows table [] = table
with_answer_rows table (row ∷ rows) = with_answer_rows (with_answer_row table row) rows

-- Whether the cell of each row has room for one more alternative, when it is its turn.
abbrev pub local_rows_fit : Table → List LocalRow → Bool
local_rows_fit table [] = true
local_rows_fit table (row ∷ rows) =
    nat_lt (length (locals_of table row.0 row.1)) most_alternatives
    && local_rows_fit (with_local_row table row) rows

abbrev pub answer_rows_fit : Table → List AnswerRow → Bool
answer_rows_fit table [] = true
answer_rows_fit table (row ∷ rows) =
    nat_lt (length (answers_of table row.0 row.1)) most_alternatives
    && answer_rows_fit (with_answer_row table row) rows
