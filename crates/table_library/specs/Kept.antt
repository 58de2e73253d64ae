-- The states of a table that are kept, and how they are found.
use Rattle.std.specs.Prelude.{ℕ, zero, suc, Bool, ◌&&◌, List, filter}
use Rattle.std.specs.List.{list_any}
use Rattle.moesi_state.specs.declared.State.{State}
use Rattle.moesi_state.specs.States.{all_states}
use Rattle.class_relation.specs.Tables.{Table}
use Rattle.table_library.specs.StateSets.{is_in, state_sets}
use Rattle.table_library.specs.Fitting.{is_served, is_good}

-- Whether some state set is good for a table.
unfoldable pub has_good_set : Table → Bool
has_good_set table = list_any (is_good table) state_sets

-- Whether a state is in some state set that is good for a table.
unfoldable pub is_kept : Table → State → Bool
is_kept table state = list_any (λ set. is_good table set && is_in set state) state_sets

-- The states that are kept, in their order.
unfoldable pub kept : Table → List State
kept table = filter (is_kept table) all_states

-- The states of a set that are served within it.
abbrev pub served_states : Table → List State → List State
served_states table set = filter (is_served table set) set

-- The states that are left after this many rounds, each of which leaves out those not served.
unfoldable pub left_after : Table → ℕ → List State
left_after table zero = all_states
left_after table (suc rounds) = served_states table (left_after table rounds)
