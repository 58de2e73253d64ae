-- The report of the checker on tables.
use Rattle.std.specs.Prelude.{ℕ, ◌-◌, Bool, List, [], ◌∷◌, ◌++◌, length, flat_map, slice_get, codes, decimal, if◌then◌else◌}
use Rattle.std.specs.Option.{option_map_or}
use Rattle.fb_text.specs.Places.{Words}
use Rattle.fb_text.specs.Written.{line_bytes}
use Rattle.class_relation.specs.declared.Cell.{Cell}
use Rattle.class_relation.specs.Permitted.{is_empty}
use Rattle.class_relation.specs.Tables.{Table, locals_of, answers_of}
use Rattle.table_check.specs.declared.verdict.CellFault.{CellFault}
use Rattle.table_check.specs.Accepted.{faults}
use Rattle.class_words.specs.Words.{state_word, local_event_word, bus_event_word}
use Rattle.table_text.specs.Spelling.{local_words, snoop_words}

-- The state and the event of a cell.
abbrev pub cell_name : Cell → Words
cell_name (Cell.Local state event) = state_word state ∷ local_event_word event ∷ []
cell_name (Cell.Answer state event) = state_word state ∷ bus_event_word event ∷ []

-- The words of the alternative of this number, counted from 1, of a cell of a table.
abbrev pub alternative_of : Table → Cell → ℕ → Words
alternative_of table (Cell.Local state event) number =
    option_map_or local_words (slice_get (locals_of table state event) (number - 1)) []
alternative_of table (Cell.Answer state event) number =
    option_map_or snoop_words (slice_get (answers_of table state event) (number - 1)) []

-- The line of a fault: the cell, and the number and text of an alternative that is not permitted.
abbrev pub fault_bytes : Table → CellFault → List ℕ
fault_bytes table (CellFault.NotPermitted cell number) =
    line_bytes (codes "not-permitted"
    ∷ (cell_name cell ++ decimal number ∷ alternative_of table cell number))
fault_bytes table (CellFault.Missing cell) = line_bytes (codes "missing" ∷ cell_name cell)

-- The first line of the report on a table with these faults.
abbrev pub verdict_line : List ℕ → List CellFault → Words
verdict_line name found =
    codes "table" ∷ (name ++ codes ":")
    ∷ (if is_empty found
    then codes "accepted" ∷ []
    else codes "refused" ∷ decimal (length found) ∷ [])

-- The report on a table: the verdict, and a line for each fault.
abbrev pub report_on : Table → List ℕ
report_on table =
    line_bytes (verdict_line table.name (faults table))
    ++ flat_map (fault_bytes table) (faults table)

-- The report on tables, one after another.
abbrev pub report : List Table → List ℕ
report tables = flat_map report_on tables

-- Whether a table is in the class.
abbrev pub is_accepted : Table → Bool
is_accepted table = is_empty (faults table)
