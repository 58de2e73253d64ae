use Rattle.std.proofs.Common.{◌≡◌, ◌≤◌, ◌+◌, ◌*◌, ◌++◌, length, map, take}
use Rattle.std.specs.List.{AllByRecursion}
use Rattle.fb_text.specs.Written.{lines_bytes}
use Rattle.class_relation.specs.Tables.{IsWhole}
use Rattle.table_text.specs.Writing.{table_room}
use Rattle.setup_text.specs.Spelling.{tables_rows}
use Rattle.setup_text.specs.Writing.{text_of_table}
use Rattle.setup_text.proofs.writing.all_tables.Given as goal

abbrev pub invariant-loop-table : goal.invariant-loop-table
invariant-loop-table l = record {
  bytes :
      l.text.bytes
      ≡ l.initial.text.bytes ++ lines_bytes (tables_rows (map text_of_table (take l.table-index l.tables)));
  room : table_room * length l.tables ≤ l.text.spare + table_room * l.table-index;
  spare : l.initial.text.spare ≤ l.text.spare + table_room * l.table-index;
  whole : AllByRecursion IsWhole (take l.table-index l.tables);
}
