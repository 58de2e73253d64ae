-- Tables by their cells, and parts of tables.
use Rattle.std.specs.Prelude.{ℕ, Bool, List, map, filter}
use Rattle.std.specs.List.{flat_map}
use Rattle.bus_signals.specs.declared.BusEvent.{BusEvent}
use Rattle.bus_signals.specs.declared.LocalEvent.{LocalEvent}
use Rattle.moesi_state.specs.declared.State.{State}
use Rattle.moesi_state.specs.States.{all_states}
use Rattle.class_relation.specs.declared.LocalAction.{LocalAction}
use Rattle.class_relation.specs.declared.SnoopAction.{SnoopAction}
use Rattle.class_relation.specs.Tables.{Table, locals_of, answers_of, local_events, bus_events}

-- The table of this name whose cells are these.
unfoldable pub table_by :
    List ℕ → (State → LocalEvent → List LocalAction) → (State → BusEvent → List SnoopAction) → Table
table_by name locals answers =
    record {
      name = name;
      locals = flat_map (λ state. map (locals state) local_events) all_states;
      answers = flat_map (λ state. map (answers state) bus_events) all_states;
    }

-- The part of a table with those alternatives of each cell that pass a test, in their order.
abbrev pub part_by :
    (State → LocalEvent → LocalAction → Bool) → (State → BusEvent → SnoopAction → Bool) → Table
    → Table
part_by keeps_local keeps_answer table =
    table_by table.name
    (λ state event. filter (keeps_local state event) (locals_of table state event))
    (λ state event. filter (keeps_answer state event) (answers_of table state event))
