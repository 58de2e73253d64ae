-- The largest part of a table that is in the class.
use Rattle.std.specs.Prelude.{if◌then◌else◌, List, Option, Some, None}
use Rattle.moesi_state.specs.declared.State.{State}
use Rattle.class_relation.specs.declared.Cell.{Cell}
use Rattle.class_relation.specs.Tables.{Table}
use Rattle.table_check.specs.Accepted.{is_needed}
use Rattle.table_library.specs.Cells.{part_by}
use Rattle.table_library.specs.Fitting.{fits_local, fits_answer}
use Rattle.table_library.specs.Kept.{has_good_set, kept}

-- The part of a table that fits a set of states.
abbrev pub fitting_part : Table → List State → Table
fitting_part table set = part_by (fits_local set) (fits_answer set) table

-- The part of a table that it needs: the cells of the states that it reaches.
abbrev pub needed_part : Table → Table
needed_part table =
    part_by (λ state event action. is_needed table (Cell.Local state event))
    (λ state event action. is_needed table (Cell.Answer state event)) table

-- The needed part of what fits the kept states.
abbrev pub narrowed : Table → Table
narrowed table = needed_part (fitting_part table (kept table))

-- The narrowed table, where some state set is good for the table.
abbrev pub narrow_of : Table → Option Table
narrow_of table = if has_good_set table then Some (narrowed table) else None
